-- A head without a fault is whole, and the file is not too long: by the tests of the definition.
use mathlib.Core.Path.{◌≡◌}
use mathlib.Core.Bool.{Bool, true, false, not, ◌||◌}
use mathlib.Core.List.{List}
use Prim.Native.Nat.{ℕ, ◌+◌, ◌≤◌}
use native.Mathlib.Omega.{arith}
use borrow.Author.Tests.{ltb-false}
use lib.Dec.{eqb, ltb}
use lib.ListN.{length, get_or}
use Rattle.whole.proofs.Comparisons.{by-test, tt_ff}
use Rattle.format.specs.Format.{number_at, most_bytes, head_size, head_fault}

second : (a b : Bool) → (a || b) ≡ false → b ≡ false
second true b e = absurd (tt_ff e)
second false b e = e

pub whole_head : (bs : List ℕ) → head_fault bs ≡ head_size → (head_size ≤ length bs) × (length bs ≤ most_bytes)
unfolding head_fault
whole_head bs =
    let P : ℕ → Type 0 = λ k. k ≡ head_size → (head_size ≤ length bs) × (length bs ≤ most_bytes) in
    by-test (not (eqb (number_at bs 0 + 4) (length bs)) || ltb most_bytes (length bs)) P (λ _ e. absurd (omega arith)) λ h.
    by-test (not (eqb (get_or bs 4 0) 1)) P (λ _ e. absurd (omega arith)) λ _.
    by-test (ltb (length bs) head_size) P (λ _ e. absurd (omega arith)) λ k e.
    (ltb-false (length bs) head_size k, ltb-false most_bytes (length bs) (second (not (eqb (number_at bs 0 + 4) (length bs))) (ltb most_bytes (length bs)) h))
