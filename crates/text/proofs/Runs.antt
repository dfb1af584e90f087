-- How long a run is: it ends at the first byte that does not pass the test, or with the text.
use mathlib.Core.Path.{◌≡◌, refl, sym, ap, ◌∙◌}
use mathlib.Core.Bool.{Bool, true, false, not, ◌||◌}
use mathlib.Core.List.{List, [], ◌∷◌}
use Prim.Native.Nat.{ℕ, zero, suc, ◌+◌, ◌-◌, ◌<◌, ◌≤◌}
use native.Mathlib.Nat.{le_of_eq}
use native.Mathlib.Omega.{arith}
use borrow.Author.Tests.{lt-ltb, le-ltb, ltb-true, ltb-false}
use lib.Dec.{eqb, ltb}
use lib.ListN.{length, get_or, take, drop, length-drop}
use lib.Seq.{take_all}
use Rattle.whole.specs.Choice.{when◌then◌else◌}
use Rattle.std.specs.List.{list_any}
use Rattle.text.specs.Runs.{run, is_not, is_in}

pub run_passed : (test : ℕ → Bool) (b : ℕ) (bs : List ℕ) → test b ≡ true → run test (b ∷ bs) ≡ suc (run test bs)
unfolding run
run_passed test b bs e = simp e

pub run_failed : (test : ℕ → Bool) (b : ℕ) (bs : List ℕ) → test b ≡ false → run test (b ∷ bs) ≡ 0
unfolding run
run_failed test b bs e = simp e

pub run_le : (test : ℕ → Bool) (bs : List ℕ) → run test bs ≤ length bs
unfolding run
run_le test [] = omega arith
run_le test (b ∷ bs) = go (test b) (run_le test bs)
  where
    go : (t : Bool) → run test bs ≤ length bs → (when t then suc (run test bs) else 0) ≤ suc (length bs)
    go true h = omega arith
    go false h = omega arith

-- a run ends at the first byte that does not pass, or at the end
pub run_is : (test : ℕ → Bool) (s : List ℕ) (i : ℕ) → i ≤ length s → ((k : ℕ) → k < i → test (get_or s k 0) ≡ true)
    → (i < length s → test (get_or s i 0) ≡ false) → i ≡ run test s
unfolding run
run_is test [] i h before here = omega arith
run_is test (b ∷ s) zero h before here = sym (run_failed test b s (here (omega arith)))
run_is test (b ∷ s) (suc i) h before here =
    ap suc (run_is test s i (omega arith) (λ k l. before (suc k) (omega arith)) (λ l. here (omega arith)))
    ∙ sym (run_passed test b s (before 0 (omega arith)))

-- all of a text from a place on, as a slice has it
pub rest_is : (s : List ℕ) (i : ℕ) → take (length s - i) (drop i s) ≡ drop i s
rest_is s i = take_all _ _ (le_of_eq (length-drop i s))

-- of the walk along such a slice
pub run_in : (test : ℕ → Bool) (s : List ℕ) (i k : ℕ) {rest : List ℕ} → rest ≡ take (length s - i) (drop i s) → k ≡ run test rest
    → i + k ≡ i + run test (drop i s)
run_in test s i k e r = ap (λ (n : ℕ). i + n) (r ∙ ap (run test) (e ∙ rest_is s i))

-- ---- a byte that stands in a text

less_both : (m n : ℕ) → ltb m n ≡ ltb (suc m) (suc n)
less_both m n = go (ltb m n) refl
  where
    go : (t : Bool) → ltb m n ≡ t → t ≡ ltb (suc m) (suc n)
    go true e = sym (lt-ltb (suc m) (suc n) (omega (arith, ltb-true m n e)))
    go false e = sym (le-ltb (suc m) (suc n) (omega (arith, ltb-false m n e)))

pub any_is_in : (b : ℕ) (s : List ℕ) → list_any (λ y. eqb y b) s ≡ is_in b s
unfolding is_in run
any_is_in b [] = refl
any_is_in b (x ∷ s) = go (eqb x b) (any_is_in b s)
  where
    go : (t : Bool) → list_any (λ y. eqb y b) s ≡ ltb (run (is_not b) s) (length s)
        → (t || list_any (λ y. eqb y b) s) ≡ ltb (when not t then suc (run (is_not b) s) else 0) (suc (length s))
    go true h = sym (lt-ltb 0 (suc (length s)) (omega arith))
    go false h = h ∙ less_both _ _
