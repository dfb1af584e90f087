-- What becomes of one number is computed: `outcome x` is the only thing that `Taken x` holds of.
use mathlib.Core.Path.{◌≡◌, refl, sym, ap, ◌∙◌}
use mathlib.Core.Bool.{Bool, true, false, ◌&&◌}
use Prim.Native.Nat.{ℕ, zero, suc, ◌*◌, ◌^◌}
use native.Mathlib.Nat.{lt_of_le_of_lt}
use Rattle.std.specs.Prelude.{Result, Ok}
use lib.Dec.{leb, leb-suc-suc, lit<}
use lib.IntN.{ℤ, pos}
use lib.Ieee.{Float, nan, inf, fin, up, down}
use lib.Ieee.Fits.{down_pos}
use lib.Ieee.Nearest.{closest}
use mir.Syntax.{w32}
use mir.Val.{to_z, of_z}
use mir.Facts.{to_z-of_z}
use Rattle.whole.specs.Rounding.{Rounds, to_even}
use Rattle.whole.proofs.Order.{zarith}
use Rattle.whole.proofs.Ranges.{within_abs, fits_abs}
use Rattle.whole.proofs.Rounding.{rounded_unique, rounded_mirror, even_mirror, closest_is}
use Rattle.grid.proofs.Ranges.{on_within}
use Rattle.whole.specs.Choice.{when◌then◌else◌}
use Rattle.grid.specs.Table.{on_table, farthest}
use Rattle.grid.specs.Refusals.{not_a_number, too_far}
use Rattle.intake.specs.Millimetres.{signed, GridNumber, nearest, Taken, no_number, infinite, off_range, on_range, faulty, accepted}

-- 32 * m * 2 ^ e to the nearest whole number
abbrev pub steps : ℕ → ℤ → ℕ
steps m e = closest (m * up e * 32) (down e)

unfoldable pub outcome : Float → Result ℤ ℕ
outcome nan = faulty not_a_number
outcome (inf s) = faulty too_far
outcome (fin s m e) = when leb (steps m e) farthest then accepted (signed s (steps m e)) else faulty too_far

signed_on : (s : Bool) (q : ℕ) → on_table (signed s q) ≡ leb q farthest
unfolding on_table
signed_on false q = refl
signed_on true zero = refl
signed_on true (suc q) = also (leb q 16382) ∙ sym (leb-suc-suc q 16382)
  where
    also : (b : Bool) → (b && true) ≡ b
    also true = refl
    also false = refl

signed_steps : (s : Bool) (m : ℕ) (e : ℤ) → Rounds to_even (signed s (m * up e * 32)) (pos (down e)) (signed s (steps m e))
signed_steps true m e = rounded_mirror even_mirror (closest_is (m * up e * 32) (down_pos e))
signed_steps false m e = closest_is (m * up e * 32) (down_pos e)

module _ (s : Bool) (m : ℕ) (e : ℤ) {g : ℤ} (n : Rounds to_even (signed s (m * up e * 32)) (pos (down e)) g) where
  grid_is : g ≡ signed s (steps m e)
  grid_is = let h = down_pos e in rounded_unique (omega zarith) n (signed_steps s m e)

  steps_on : {b : Bool} → on_table g ≡ b → leb (steps m e) farthest ≡ b
  steps_on h = sym (signed_on s (steps m e)) ∙ ap on_table (sym grid_is) ∙ h

-- by the test on its size
pub decided : (s : Bool) (m : ℕ) (e : ℤ) {b : Bool} → leb (steps m e) farthest ≡ b → outcome (fin s m e) ≡ (when b then accepted (signed s (steps m e)) else faulty too_far)
unfolding outcome
decided s m e h = ap (λ (b : Bool). when b then accepted (signed s (steps m e)) else faulty too_far) h

pub taken_is : {x : Float} {o : Result ℤ ℕ} → Taken x o → o ≡ outcome x
unfolding outcome
taken_is no_number = refl
taken_is (infinite s) = refl
taken_is (off_range (nearest s m e n) h) = sym (decided s m e (steps_on s m e n h))
taken_is (on_range (nearest s m e n) h) = ap accepted (grid_is s m e n) ∙ sym (decided s m e (steps_on s m e n h))

pub taken : (x : Float) → Taken x (outcome x)
unfolding outcome
taken nan = no_number
taken (inf s) = infinite s
taken (fin s m e) = go (leb (steps m e) farthest) (signed_on s (steps m e))
  where
    g : GridNumber (fin s m e) (signed s (steps m e))
    g = nearest s m e (signed_steps s m e)

    go : (b : Bool) → on_table (signed s (steps m e)) ≡ b → Taken (fin s m e) (when b then accepted (signed s (steps m e)) else faulty too_far)
    go true h = on_range g h
    go false h = off_range g h

-- a grid number that is given is on the table
pub taken_on : {x : Float} {g : ℤ} → Taken x (Ok g) → on_table g ≡ true
taken_on (on_range n h) = h

-- so the machine reads it back as it is
pub read_back : {x : Float} {g : ℤ} → Taken x (Ok g) → to_z w32 (of_z w32 g) ≡ g
read_back {g = g} t = to_z-of_z {w = w32} (fits_abs (lt_of_le_of_lt (within_abs (on_within g (taken_on t))) (lit< {m = 16383} {n = 2 ^ 31} tt)))
