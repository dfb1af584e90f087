-- The corners of an outline and its edges, by their places in its list of numbers.
use mathlib.Core.Path.{◌≡◌, sym, ap, ◌∙◌, subst, transport}
use mathlib.Core.List.{List, [], ◌∷◌}
use mathlib.Core.Logic.{⊎_elim, ◌≢◌}
use Prim.Native.Nat.{ℕ, zero, suc, ◌+◌, ◌*◌, ◌/◌, ◌^◌, ◌<◌, ◌≤◌}
use native.Mathlib.Nat.{eq-or-lt_of_le}
use native.Mathlib.Omega.{arith}
use borrow.Author.Tests.{eq-eqb, ne_eqb}
use lib.IntN.{ℤ, pos}
use lib.ListN.{length, get_or}
use lib.Signed.{mag}
use mir.Syntax.{w32}
use mir.Val.{to_z, of_z}
use Rattle.whole.proofs.Comparisons.{back}
use Rattle.grid.specs.declared.Window.{Window}
use Rattle.grid.specs.declared.Stroke.{Stroke}
use Rattle.grid.specs.Table.{StrokeOnTable}
use Rattle.rings.specs.Lists.{All, ∅, ◌◂◌}
use Rattle.rings.specs.Points.{Point, through, Real, Proper}
use Rattle.rings.specs.Rings.{at, Edge, along, closing, Ring}
use Rattle.convex.specs.Corners.{grid_point, corners_of, next}
use Rattle.convex.proofs.Places.{count, point_at_lem}
use Rattle.crossings.specs.Outlines.{OutlineOnTable}
use Rattle.crossings.specs.Tags.{stroke_from, line_of, edge_of, Names, edge, side}
use Rattle.crossings.proofs.SideStrokes.{side_real}

-- ---- four numbers as they are read
pub read_stroke : (a b c d : ℤ) → mag a < 2 ^ 31 → mag b < 2 ^ 31 → mag c < 2 ^ 31 → mag d < 2 ^ 31
    → stroke_from (to_z w32 (of_z w32 a)) (to_z w32 (of_z w32 b)) (to_z w32 (of_z w32 c)) (to_z w32 (of_z w32 d)) ≡ stroke_from a b c d
read_stroke a b c d ha hb hc hd = λ i. stroke_from (back w32 a ha i) (back w32 b hb i) (back w32 c hc i) (back w32 d hd i)

-- ---- the next corner
pub next_on : (n k : ℕ) → suc k < n → next n k ≡ suc k
unfolding next
next_on n k h = simp (ne_eqb (suc k) n (λ e. omega arith))

pub next_round : (n k : ℕ) → suc k ≡ n → next n k ≡ 0
unfolding next
next_round n k e = simp (eq-eqb (suc k) n e)

pub next_below : (n k : ℕ) → k < n → next n k < n
next_below n k h = ⊎_elim (λ e. rw (next_round n k e) (omega arith)) (λ l. rw (next_on n k l) l) (eq-or-lt_of_le h)

-- ---- the corners
pub corner_at_lem : (zs : List ℤ) (k : ℕ) → k < length zs / 2 → at (corners_of zs) k ≡ grid_point (get_or zs (2 * k) (pos 0)) (get_or zs (2 * k + 1) (pos 0))
corner_at_lem zs k h = point_at_lem zs k (omega (arith, count zs))

pub corners_all : {P : Point → Type 0} (zs : List ℤ) → ((k : ℕ) → k < length zs / 2 → P (grid_point (get_or zs (2 * k) (pos 0)) (get_or zs (2 * k + 1) (pos 0))))
    → All P (corners_of zs)
unfolding corners_of
corners_all [] f = ∅
corners_all (x ∷ []) f = ∅
corners_all {P} (x ∷ y ∷ zs) f =
    f 0 (omega arith)
    ◂ corners_all zs
    (λ k h.
    let e : 2 * suc k ≡ suc (suc (2 * k)) = omega arith in
    let g : 2 * suc k + 1 ≡ suc (suc (2 * k + 1)) = omega arith in
    transport (λ i. P (grid_point (get_or (x ∷ y ∷ zs) (e i) (pos 0)) (get_or (x ∷ y ∷ zs) (g i) (pos 0)))) (f (suc k) (omega arith)))

-- ---- each edge is a stroke on the table, and each line that a tag names is real
corners_proper : (zs : List ℤ) → All Proper (corners_of zs)
unfolding corners_of
corners_proper [] = ∅
corners_proper (x ∷ []) = ∅
corners_proper (x ∷ y ∷ zs) = record { lt = tt } ◂ corners_proper zs

-- of three corners or more, one that an edge does not join
record Third (n k j : ℕ) : Type 0 where
  place : ℕ
  fits : place < n
  first : place ≢ k
  second : place ≢ j

third : {n k j : ℕ} → 3 ≤ n → Edge n k j → Third n k j
third h (along {i = zero} l) = record { place = 2; fits = omega arith; first = λ e. omega arith; second = λ e. omega arith }
third h (along {i = suc i} l) = record { place = 0; fits = omega arith; first = λ e. omega arith; second = λ e. omega arith }
third h (closing e) = record { place = 1; fits = omega arith; first = λ d. omega arith; second = λ d. omega arith }

next_edge : {n k : ℕ} → k < n → Edge n k (next n k)
next_edge {n} {k} h = ⊎_elim (λ e. subst (Edge n k) (sym (next_round n k e)) (closing e)) (λ l. subst (Edge n k) (sym (next_on n k l)) (along l)) (eq-or-lt_of_le h)

pub edge_from : {n k j : ℕ} → Edge n k j → k < n
edge_from (along l) = omega arith
edge_from (closing e) = omega arith

pub edge_below : {n k j : ℕ} → Edge n k j → j < n
edge_below (along l) = l
edge_below (closing e) = omega arith

edge_next : {n k j : ℕ} → Edge n k j → next n k ≡ j
edge_next {n} (along {i = k} l) = next_on n k l
edge_next {n} (closing {i = k} e) = next_round n k e

pub edge_line : (zs : List ℤ) {k j : ℕ} → Edge (length zs / 2) k j → line_of (edge_of zs k) ≡ through (at (corners_of zs) k) (at (corners_of zs) j)
unfolding edge_of
edge_line zs {k} {j} e =
    ap (λ (i : ℕ). through (grid_point (get_or zs (2 * k) (pos 0)) (get_or zs (2 * k + 1) (pos 0)))
    (grid_point (get_or zs (2 * i) (pos 0)) (get_or zs (2 * i + 1) (pos 0)))) (edge_next e)
    ∙ (λ i. through (sym (corner_at_lem zs k (edge_from e)) i) (sym (corner_at_lem zs j (edge_below e)) i))

module _ {zs : List ℤ} (o : OutlineOnTable zs) where
  pub outline_ring : Ring (corners_of zs)
  outline_ring = record { three = omega (arith, count zs, o.corners.three); proper = corners_proper zs; convex = o.convex }

  edge_real : (k : ℕ) → k < length zs / 2 → Real (line_of (edge_of zs k))
  edge_real k h =
      let j = next (length zs / 2) k in
      let e = subst (λ (n : ℕ). Edge n k j) (sym (count zs)) (next_edge h) in
      let m = third outline_ring.three e in
      subst Real (sym (edge_line zs (next_edge h))) (at (corners_of zs) m.place, (o.convex.left_of k j m.place e m.fits m.first m.second).left)

  pub edge_on_table : (k : ℕ) → k < length zs / 2 → StrokeOnTable (edge_of zs k)
  unfolding edge_of
  edge_on_table k h =
      let l = edge_below (next_edge h) in
      let j = next (length zs / 2) k in
      record {
        x1 = o.corners.on (2 * k) (omega arith);
        y1 = o.corners.on (2 * k + 1) (omega arith);
        x2 = o.corners.on (2 * j) (omega arith);
        y2 = o.corners.on (2 * j + 1) (omega arith);
      }

pub named_real : {w : Window} {zs : List ℤ} {a : ℤ} {e : Stroke} → OutlineOnTable zs → Names w zs a e → Real (line_of e)
named_real o (edge k h) = edge_real o k h
named_real {w} o (side k) = side_real w k
