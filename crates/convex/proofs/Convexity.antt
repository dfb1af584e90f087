-- The test of strict convexity by all places is the ring's definition.
use mathlib.Core.Path.{◌≡◌, refl, ◌∙◌, subst}
use mathlib.Core.Bool.{Bool, true, false, ◌||◌}
use mathlib.Core.List.{List, [], ◌∷◌}
use mathlib.Core.Logic.{◌↔◌, ◌≢◌}
use Prim.Native.Nat.{ℕ, suc, ◌*◌, ◌<◌, ◌≤◌}
use native.Mathlib.Omega.{arith}
use borrow.Author.Tests.{eq-eqb, ne_eqb, eqb-true, eqb-false}
use lib.Dec.{eqb}
use lib.Ieee.Bits.{is_true}
use lib.IntN.{ℤ, pos}
use lib.ListN.{length}
use lib.Signed.{◌<ℤ◌, lt_z}
use Rattle.whole.specs.Choice.{when◌then◌else◌}
use Rattle.whole.proofs.Comparisons.{lt_yes}
use Rattle.whole.proofs.Order.{zarith}
use Rattle.rings.specs.Lists.{All, ∅, ◌◂◌}
use Rattle.rings.specs.Points.{Point, Left, Proper, det}
use Rattle.rings.specs.Rings.{at, Edge, along, closing, StrictlyConvex, Ring}
use Rattle.convex.specs.Corners.{corners_of, fewest, next, joins, is_left, strictly_convex}
use Rattle.convex.proofs.Places.{every_at, every_of, count}

-- ---- the test of one corner
pub left_yes : {a b p : Point} → is_left a b p ≡ true → Left a b p
unfolding is_left
left_yes e = record { left = lt_yes refl refl e }

pub left_is : {a b p : Point} → Left a b p → is_left a b p ≡ true
unfolding is_left
left_is {a} {b} {p} h = is_true (lt_z (pos 0) (det a b p)) h.left.lt

-- ---- the edge from a place
pub edge_next : {n i k : ℕ} → Edge n i k → next n i ≡ k
unfolding next
edge_next {n} {i} (along h) = simp (ne_eqb (suc i) n (omega arith))
edge_next {n} {i} (closing e) = simp (eq-eqb (suc i) n e)

pub next_edge : {n i : ℕ} → i < n → Edge n i (next n i)
unfolding next
next_edge {n} {i} h = go (eqb (suc i) n) refl
  where
    go : (b : Bool) → eqb (suc i) n ≡ b → Edge n i (when b then 0 else suc i)
    go true e = closing (eqb-true (suc i) n e)
    go false e = let l = eqb-false (suc i) n e in along {i = i} (omega arith)

not_joined : {n i j k : ℕ} → Edge n i k → j ≢ i → j ≢ k → joins n i j ≡ false
unfolding joins
not_joined {n} {i} {j} {k} e ni nk = simp (ne_eqb j i ni, ne_eqb j (next n i) (λ h. nk (h ∙ edge_next e)))

edge_below : {n i k : ℕ} → Edge n i k → i < n
edge_below (along h) = omega arith
edge_below (closing e) = omega arith

-- ---- the test by all places is the definition
pub convex_yes : (r : List Point) → strictly_convex r ≡ true → StrictlyConvex r
unfolding strictly_convex
convex_yes r e = record {
  left_of = λ i k j g h ni nk.
      let t : (joins (length r) i j || is_left (at r i) (at r (next (length r) i)) (at r j)) ≡ true = every_at (length r) _
      (every_at (length r) _ e i (edge_below g)) j h in
      left_yes (subst (λ (m : ℕ). is_left (at r i) (at r m) (at r j) ≡ true) (edge_next g) (rw (not_joined g ni nk) at t));
}

pub convex_is : (r : List Point) → StrictlyConvex r → strictly_convex r ≡ true
unfolding strictly_convex joins
convex_is r c = every_of (length r) _ (λ i hi. every_of (length r) _ (λ j hj. go i hi j hj (eqb j i) (eqb j (next (length r) i)) refl refl))
  where
    go : (i : ℕ) → i < length r → (j : ℕ) → j < length r → (x y : Bool) → eqb j i ≡ x → eqb j (next (length r) i) ≡ y
        → ((x || y) || is_left (at r i) (at r (next (length r) i)) (at r j)) ≡ true
    go i hi j hj true y e f = refl
    go i hi j hj false true e f = refl
    go i hi j hj false false e f = left_is (c.left_of i (next (length r) i) j (next_edge hi) hj (eqb-false j i e) (eqb-false j (next (length r) i) f))

pub convex_same : (r : List Point) → (strictly_convex r ≡ true) ↔ StrictlyConvex r
convex_same r = (convex_yes r, convex_is r)

-- of the corners of a list of numbers, a ring
pub all_proper : (zs : List ℤ) → All Proper (corners_of zs)
unfolding corners_of
all_proper [] = ∅
all_proper (x ∷ []) = ∅
all_proper (x ∷ y ∷ zs) = let h : pos 0 <ℤ pos 1 = omega zarith in h ◂ all_proper zs

pub ring_same : (zs : List ℤ) → 2 * fewest ≤ length zs → (strictly_convex (corners_of zs) ≡ true) ↔ Ring (corners_of zs)
ring_same zs h = (
  λ e. record { three = omega (arith, count zs); proper = all_proper zs; convex = convex_yes (corners_of zs) e },
  λ g. convex_is (corners_of zs) g.convex,
)
