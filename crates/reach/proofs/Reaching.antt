-- A rectangle as it is read, and found corner by corner; an outline is on the table where what it reaches is.
use mathlib.Core.Path.{◌≡◌, refl, sym, subst}
use mathlib.Core.Bool.{Bool, true, false}
use mathlib.Core.List.{List}
use Prim.Native.Nat.{ℕ, ◌+◌, ◌*◌, ◌/◌, ◌%◌, ◌^◌, ◌<◌}
use native.Mathlib.Omega.{arith}
use borrow.Author.Count.{below_more}
use borrow.Author.Tests.{eqb-true, eqb-false}
use lib.Dec.{eqb}
use lib.IntN.{ℤ, pos}
use lib.ListN.{length, get_or}
use lib.Signed.{◌≤ℤ◌, mag}
use mir.Syntax.{w32}
use mir.Val.{to_z, of_z}
use Rattle.whole.specs.Within.{Within}
use Rattle.whole.proofs.Comparisons.{back}
use Rattle.whole.proofs.Order.{zarith}
use Rattle.grid.specs.Table.{farthest, NumbersOnTable}
use Rattle.grid.specs.declared.Window.{Window}
use Rattle.reach.specs.Reach.{Round, Reaches, ReachOnTable}

-- ---- a rectangle of the numbers that the program holds, and one as it is read
abbrev pub held : (l b r t : ℕ) → Window
held l b r t = record { left = to_z w32 l; bottom = to_z w32 b; right = to_z w32 r; top = to_z w32 t }

abbrev pub reading : Window → Window
reading b = held (of_z w32 b.left) (of_z w32 b.bottom) (of_z w32 b.right) (of_z w32 b.top)

pub is_reading : (b : Window) → mag b.left < 2 ^ 31 → mag b.bottom < 2 ^ 31 → mag b.right < 2 ^ 31 → mag b.top < 2 ^ 31 → b ≡ reading b
is_reading b l o r t = λ i. record {
  left = sym (back w32 b.left l) i;
  bottom = sym (back w32 b.bottom o) i;
  right = sym (back w32 b.right r) i;
  top = sym (back w32 b.top t) i;
}

-- ---- the rectangle round the first n corners
-- one corner more, and a rectangle that holds it and the one before
pub round_more : {zs : List ℤ} {n : ℕ} {b c : Window} → Round zs n b
    → (c.left ≤ℤ b.left) × (c.left ≤ℤ get_or zs (2 * n) (pos 0)) → (b.right ≤ℤ c.right) × (get_or zs (2 * n) (pos 0) ≤ℤ c.right)
    → (c.bottom ≤ℤ b.bottom) × (c.bottom ≤ℤ get_or zs (2 * n + 1) (pos 0)) → (b.top ≤ℤ c.top) × (get_or zs (2 * n + 1) (pos 0) ≤ℤ c.top) → Round zs (n + 1) c
round_more {zs} {n} {b} {c} r hl hr hb ht = record {
  left = λ k l. below_more (λ (k : ℕ). c.left ≤ℤ get_or zs (2 * k) (pos 0)) n (λ k h. let a = r.left k h in omega zarith) hl.1 k (omega arith);
  right = λ k l. below_more (λ (k : ℕ). get_or zs (2 * k) (pos 0) ≤ℤ c.right) n (λ k h. let a = r.right k h in omega zarith) hr.1 k (omega arith);
  bottom = λ k l. below_more (λ (k : ℕ). c.bottom ≤ℤ get_or zs (2 * k + 1) (pos 0)) n (λ k h. let a = r.bottom k h in omega zarith) hb.1 k (omega arith);
  top = λ k l. below_more (λ (k : ℕ). get_or zs (2 * k + 1) (pos 0) ≤ℤ c.top) n (λ k h. let a = r.top k h in omega zarith) ht.1 k (omega arith);
}

-- ---- an outline is on the table where what it reaches is
pub numbers_on : {zs : List ℤ} {b : Window} → length zs % 2 ≡ 0 → Reaches zs b → ReachOnTable b → NumbersOnTable zs
numbers_on {zs} {b} even r t k h = go (eqb (k % 2) 0) refl
  where
    go : (e : Bool) → eqb (k % 2) 0 ≡ e → Within farthest (get_or zs k (pos 0))
    go true e =
        let d = eqb-true (k % 2) 0 e in
        let at : 2 * (k / 2) ≡ k = omega arith in
        let l = r.left (k / 2) (omega arith) in
        let u = r.right (k / 2) (omega arith) in
        subst (λ (i : ℕ). Within farthest (get_or zs i (pos 0))) at (record { low = omega (zarith, t.left); high = omega (zarith, t.right) })
    go false e =
        let d = eqb-false (k % 2) 0 e in
        let at : 2 * (k / 2) + 1 ≡ k = omega arith in
        let l = r.bottom (k / 2) (omega arith) in
        let u = r.top (k / 2) (omega arith) in
        subst (λ (i : ℕ). Within farthest (get_or zs i (pos 0))) at (record { low = omega (zarith, t.bottom); high = omega (zarith, t.top) })
