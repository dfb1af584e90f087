-- The text of a call's answer, by whether its number is 0.
use mathlib.Core.Path.{◌≡◌}
use mathlib.Core.List.{List}
use Prim.Native.Nat.{◌+◌}
use borrow.Author.Tests.{eq-eqb, ne_eqb}
use lib.IntN.{ℤ, nat_abs}
use Rattle.grid.specs.declared.Window.{Window}
use Rattle.strip_book.specs.Renters.{first_slot}
use Rattle.strip_book.specs.declared.BookingAnswer.{BookingAnswer}
use Rattle.strip_book.specs.declared.ReleaseAnswer.{ReleaseAnswer}
use Rattle.strip_lines.specs.Lines.{row_text}
use Rattle.answers.specs.Answers.{refusal_text, strip_refusal_text}
use Rattle.clerk.specs.Commands.{booking_text, held_in, release_text}

module _ (renter : ℤ) (w : Window) (b : BookingAnswer) where
  pub not_booked : (b.number ≡ 0 → ⊥) → strip_refusal_text b.number b.place w ≡ booking_text renter w b
  unfolding booking_text
  not_booked n = simp (ne_eqb _ _ n)

  pub is_booked : b.number ≡ 0 → row_text (first_slot renter + nat_abs b.slot) w ≡ booking_text renter w b
  unfolding booking_text
  is_booked z = simp (eq-eqb _ _ z)

module _ (renter z : ℤ) (zs : List ℤ) (b : ReleaseAnswer) where
  pub not_released : (b.number ≡ 0 → ⊥) → refusal_text b.number b.place ≡ release_text renter z zs b
  unfolding release_text
  not_released n = simp (ne_eqb _ _ n)

  pub is_released : b.number ≡ 0 → let k = first_slot renter + nat_abs z in row_text k (held_in zs k) ≡ release_text renter z zs b
  unfolding release_text
  is_released e = simp (eq-eqb _ _ e)
