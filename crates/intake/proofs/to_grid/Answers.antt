-- Each of its ways is a fact of `proofs/Ways.antt`; the literals are given by their bits.
use Rattle.grid.specs.Refusals.{not_a_number, too_far}
use lib.Ieee.{Float, of_bits, neg}
use mir.Syntax.{w32}
use mir.Val.{SFits, to_z}
use mir.Facts.{to_z-of_z, to_z_pos}
use Rattle.std.specs.Prelude.{Result}
use Rattle.std.proofs.Common.{◌≡◌, ℤ, ℕ, pos, ◌-ℤ◌, refl, sym, ap, ◌∙◌, subst}
use Rattle.whole.proofs.Comparisons.{true-T}
use Rattle.intake.specs.Millimetres.{Taken, TakenAt, faulty, accepted, placed}
use Rattle.intake.proofs.Outcome.{outcome, taken}
use Rattle.intake.proofs.Ways.{bits, Rounded, between, is_nan_lem, too_high, too_low}
use Rattle.intake.proofs.to_grid.Goals as goal
use Rattle.intake.proofs.to_grid.Goals.{else-y-via-then-y+else-y-2, else-y-via-else-y}

-- what becomes of x, with its place
given : {place : ℕ} {x : Float} {o : Result ℤ ℕ} → o ≡ outcome x → TakenAt place x (placed place o)
given {place} {x} {o} e = record { outcome = o; taken = subst (Taken x) (sym e) (taken x); is = refl }

-- past the two tests
module _ (c : goal.Then-y-2) where
  rounded : Rounded c.args.x
  unfolding of_bits neg
  rounded = between c.args.x (true-T c.well_formed.0.1) c.if-y.true c.if-y-2.true

  -- the bits, read as a signed number
  as_signed : to_z w32 (bits c.args.x) ≡ pos (bits c.args.x)
  as_signed = to_z_pos w32 rounded.bits_fit

  fits_signed : SFits w32 (to_z w32 (bits c.args.x) -ℤ pos 1262485504)
  fits_signed = subst (λ (z : ℤ). SFits w32 (z -ℤ pos 1262485504)) (sym as_signed) (record { sfits = rounded.number_fits })

pub returns-then-is_nan : goal.returns-then-is_nan
returns-then-is_nan c = given {o = faulty not_a_number} (is_nan_lem c.args.x (sym c.if-is_nan.ensures.value))

pub float_to_bits-result : goal.float_to_bits-result
unfolding of_bits
float_to_bits-result c = (rounded c).no_nan

pub overflow_cast-result : goal.overflow_cast-result
unfolding of_bits
overflow_cast-result c = record { sfits = (rounded c).bits_fit }

pub overflow_sub-result : goal.overflow_sub-result
unfolding of_bits
overflow_sub-result c = fits_signed c

pub returns-then-y-2 : goal.returns-then-y-2
unfolding of_bits
returns-then-y-2 c =
    given {o = accepted _} (ap accepted (to_z-of_z (fits_signed c) ∙ ap (λ (z : ℤ). z -ℤ pos 1262485504) (as_signed c)) ∙ (rounded c).number)

pub returns : goal.returns
unfolding of_bits neg
returns c =
    let single = true-T c.well_formed.0.1 in
    let number = sym c.if-is_nan.ensures.value in
    elim c.else-y.branch [
      | else-y-via-then-y+else-y-2 w ↦ given {o = faulty too_far} (too_low c.args.x single number w.if-y-2.false)
      | else-y-via-else-y w ↦ given {o = faulty too_far} (too_high c.args.x single number w.if-y.false)
    ]
