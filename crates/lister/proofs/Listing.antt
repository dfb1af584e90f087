-- What is listed, by whether a row was put, by whether there is such a renter, and of all 64 slots.
use mathlib.Core.Path.{◌≡◌, refl, ap}
use mathlib.Core.Bool.{true, false}
use mathlib.Core.List.{List, [], ◌∷◌}
use Prim.Native.Nat.{ℕ}
use native.Mathlib.Omega.{arith}
use lib.IntN.{ℤ}
use lib.ListN.{length}
use lib.Seq.{slice, take_all}
use Rattle.text.specs.Pages.{Put, ascii}
use Rattle.slots.specs.Slots.{Slot, slots_of}
use Rattle.slots.proofs.Places.{slots_count}
use Rattle.strip_book.specs.Books.{unknown_renter, renter_refusal}
use Rattle.strip_book.specs.Renters.{is_renter, first_slot, half}
use Rattle.book_rows.specs.Rows.{rows_text}
use Rattle.answers.specs.Answers.{refusal_text}
use Rattle.lister.specs.Listings.{or_none, strips_text, show_text}

module _ {before after : List ℕ} {end : ℕ} where
  pub no_rows : (rows : List ℕ) → Put before after 0 end rows → end ≡ 0 → ascii "none\n" ≡ or_none rows
  unfolding or_none
  no_rows [] p e = refl
  no_rows (b ∷ bs) p e = absurd (omega (arith, p.ends))

  pub some_rows : (rows : List ℕ) → Put before after 0 end rows → (end ≡ 0 → ⊥) → rows ≡ or_none rows
  unfolding or_none
  some_rows [] p n = absurd (n p.ends)
  some_rows (b ∷ bs) p n = refl

module _ (renter : ℤ) (zs : List ℤ) where
  pub no_renter : is_renter renter ≡ false → (refusal_text unknown_renter 0 ≡ strips_text renter zs) × (unknown_renter ≡ (renter_refusal renter).number)
  unfolding strips_text renter_refusal
  no_renter e = (rw e, rw e)

  pub his_rows : is_renter renter ≡ true
      → (or_none (rows_text (first_slot renter) (half renter zs)) ≡ strips_text renter zs) × (0 ≡ (renter_refusal renter).number)
  unfolding strips_text renter_refusal
  his_rows e = (rw e, rw e)

pub all_rows : (zs : List ℤ) → 320 ≡ length zs → or_none (rows_text 0 (slice 0 64 (slots_of zs))) ≡ show_text zs
unfolding show_text
all_rows zs long = ap (λ (ss : List Slot). or_none (rows_text 0 ss)) (take_all 64 (slots_of zs) (omega (arith, slots_count zs)))
