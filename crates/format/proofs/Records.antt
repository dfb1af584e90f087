-- A record ends past its first byte and within the bytes: by the tests of the definition.
use mathlib.Core.List.{List}
use Prim.Native.Nat.{ℕ, ◌+◌, ◌≤◌, ◌<◌}
use native.Mathlib.Omega.{arith}
use borrow.Author.Tests.{leb-false, ltb-false}
use lib.Dec.{eqb, leb, ltb}
use lib.ListN.{length, get_or}
use Rattle.whole.proofs.Comparisons.{by-test}
use Rattle.format.specs.Format.{record_at}
use Rattle.format.specs.declared.Found.{Found}

-- n is the length of the bytes
abbrev pub EndsWithin : ℕ → ℕ → Found → Type 0
EndsWithin n at (Found.Record s next) = (at < next) × (next ≤ n)
EndsWithin n at Found.Bad = Unit
EndsWithin n at Found.End = Unit

pub record_ends : (bs : List ℕ) (at : ℕ) → EndsWithin (length bs) at (record_at bs at)
unfolding record_at
record_ends bs at =
    by-test (leb (length bs) at) (EndsWithin (length bs) at) (λ _. tt) λ h.
    by-test (eqb (get_or bs at 0) 0x5A) (EndsWithin (length bs) at) (λ _. omega (arith, leb-false (length bs) at h)) λ _.
    by-test (ltb (length bs) (at + 9)) (EndsWithin (length bs) at) (λ _. tt) λ g.
    let l = ltb-false (length bs) (at + 9) g in
    by-test (eqb (get_or bs at 0) 0x4D) (EndsWithin (length bs) at) (λ _. omega arith) λ _.
    by-test (eqb (get_or bs at 0) 0x4C) (EndsWithin (length bs) at) (λ _. omega arith) (λ _. tt)
