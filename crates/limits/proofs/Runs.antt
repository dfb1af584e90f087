-- Where a run of corners ends, and a run with the corner before it.
use mathlib.Core.Path.{subst}
use mathlib.Core.Bool.{Bool, true, false, not}
use mathlib.Core.List.{List}
use mathlib.Core.Logic.{⊎_elim}
use Prim.Native.Nat.{ℕ, ◌+◌, ◌<◌, ◌≤◌}
use native.Mathlib.Nat.{eq-or-lt_of_le}
use native.Mathlib.Omega.{arith}
use lib.IntN.{ℤ}
use Rattle.rings.specs.Points.{Line}
use Rattle.memory.specs.Memory.{point_in}
use Rattle.limits.specs.Limits.{LiesSo, RunTo, FirstPlace}

-- a run ends at the first place of which a test is true, where the test is true of what does not lie so, and false of what does
pub run_to_first : {h : Line} {m : List ℤ} {out : Bool} {from to r : ℕ} {tells : ℕ → Bool → Type 0} → FirstPlace tells from to r
    → ((i : ℕ) → from ≤ i → i < to → tells i false → LiesSo out h (point_in m i))
    → ((i : ℕ) → from ≤ i → i < to → tells i true → LiesSo (not out) h (point_in m i)) → RunTo h m out from to r
run_to_first p so ends = record {
  above = p.above;
  below = p.below;
  run = λ i a b. so i a (omega (arith, p.below)) (p.before i a b);
  ends = λ b. ends _ p.above b (p.found b);
}

-- ---- a run and the corner before it
pub run_with : {h : Line} {m : List ℤ} {a to r : ℕ} (out : Bool) → LiesSo out h (point_in m a) → RunTo h m out (a + 1) to r → (i : ℕ) → a ≤ i → i < r
    → LiesSo out h (point_in m i)
run_with {h} {m} out s k i l b = ⊎_elim (λ q. subst (λ (j : ℕ). LiesSo out h (point_in m j)) q s) (λ d. k.run i (omega arith) b) (eq-or-lt_of_le l)
