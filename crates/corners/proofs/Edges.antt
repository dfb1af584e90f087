-- One edge is one condition p·t ≤ q, since det(a, b, point at n/d) = q·d − p·n; what the edges so far leave, one more cuts.
use mathlib.Core.Path.{◌≡◌, refl, sym, ap, ◌∙◌, subst, transport}
use mathlib.Core.List.{List, [], ◌∷◌}
use Prim.Native.Nat.{ℕ, zero, suc, ◌<◌}
use native.Mathlib.Omega.{arith}
use borrow.Author.Count.{below_more}
use lib.IntN.{ℤ, pos, ◌-ℤ◌, ◌*ℤ◌}
use lib.ListN.{length, length-append}
use lib.Signed.{◌≤ℤ◌}
use Rattle.whole.specs.Within.{Within}
use Rattle.whole.proofs.Expressions.{Expr, Env, var, con, ◌⊕◌, ◌⊖◌, ◌⊗◌}
use Rattle.whole.proofs.Order.{≤_diff, diff-≤}
use Rattle.whole.proofs.Polynomials.{ring}
use Rattle.whole.proofs.Ranges.{Bounds, within}
use Rattle.grid.specs.Table.{farthest, StrokeOnTable}
use Rattle.grid.specs.declared.Stroke.{Stroke}
use Rattle.rings.specs.Lists.{All, ∅, ◌◂◌}
use Rattle.rings.specs.Points.{Point, LeftOn, value, through, det}
use Rattle.rings.specs.Rings.{at}
use Rattle.rings.proofs.Tours.{edge_end}
use Rattle.rings.proofs.Lists.{all_append, all_left, all_right, all_head}
use Rattle.convex.specs.declared.Corner.{Corner}
use Rattle.convex.specs.Corners.{corners_of, next, CornersOnTable}
use Rattle.convex.specs.Ways.{CornerOnTable, way_from, cross_of}
use Rattle.convex.proofs.Places.{side_by, cross_by, point_of, corner, point_at_lem, corner_on}
use Rattle.convex.proofs.Convexity.{next_edge}
use Rattle.spans.specs.declared.SidedSpan.{SidedSpan}
use Rattle.spans.specs.Sides.{Condition}
use Rattle.spans.specs.Spans.{largest, SidedCut, KeptBy}
use Rattle.spans.proofs.SidedCuts.{kept_by_more}
use Rattle.corners.specs.Corners.{point_at}
use Rattle.corners.specs.Edges.{edge_p, edge_q, edge_condition, first_conditions, EdgeCut}
use Rattle.corners.specs.Laws.{EveryEdge}
use Rattle.corners.proofs.Places.{edges_of, edges_at}

-- ---- one edge
module _ (a b : Point) (s : Stroke) (n d : ℤ) where
  -- the two ends of the edge, those of the stroke, and the fraction
  abbrev edge_side_env : Env
  edge_side_env = a.X ∷ a.Y ∷ a.W ∷ b.X ∷ b.Y ∷ b.W ∷ s.x1 ∷ s.y1 ∷ s.x2 ∷ s.y2 ∷ n ∷ d ∷ []

  -- det a b (X, Y, W)
  abbrev det_by : Expr → Expr → Expr → Expr
  det_by X Y W =
      (var 1 ⊗ var 5 ⊖ var 2 ⊗ var 4) ⊗ X ⊕ (var 2 ⊗ var 3 ⊖ var 0 ⊗ var 5) ⊗ Y ⊕ (var 0 ⊗ var 4 ⊖ var 1 ⊗ var 3) ⊗ W

  abbrev along_by : Expr → Expr → Expr
  along_by x y = x ⊗ var 11 ⊕ var 10 ⊗ (y ⊖ x)

  edge_side : det a b (point_at s n d) ≡ edge_q a b s *ℤ d -ℤ edge_p a b s *ℤ n
  unfolding value through
  edge_side =
      let q = det_by (var 6) (var 7) (con (pos 1)) in
      ring edge_side_env (det_by (along_by (var 6) (var 8)) (along_by (var 7) (var 9)) (var 11))
      (q ⊗ var 11 ⊖ (q ⊖ det_by (var 8) (var 9) (con (pos 1))) ⊗ var 10) tt

  edge_keeps : (edge_p a b s *ℤ n) ≤ℤ (edge_q a b s *ℤ d) → LeftOn a b (point_at s n d)
  edge_keeps h = record { left_on = subst (λ (z : ℤ). pos 0 ≤ℤ z) (sym edge_side) (≤_diff h) }

  kept_edge : LeftOn a b (point_at s n d) → (edge_p a b s *ℤ n) ≤ℤ (edge_q a b s *ℤ d)
  kept_edge h = diff-≤ (subst (λ (z : ℤ). pos 0 ≤ℤ z) edge_side h.left_on)

-- ---- all edges
module _ {P : Condition → Type 0} (cs : List Point) (s : Stroke) where
  pub first_all : (k : ℕ) → ((j : ℕ) → j < k → P (edge_condition cs s j)) → All P (first_conditions cs s k)
  first_all zero f = ∅
  first_all (suc k) f = all_append (first_all k (λ j h. f j (omega arith))) (f k (omega arith) ◂ ∅)

  all_first : (k : ℕ) → All P (first_conditions cs s k) → (j : ℕ) → j < k → P (edge_condition cs s j)
  all_first zero a j h = absurd (omega arith)
  all_first (suc k) a j h =
      below_more (λ (j : ℕ). P (edge_condition cs s j)) k (all_first k (all_left (first_conditions cs s k) _ a))
      (all_head (all_right (first_conditions cs s k) a)) j (omega arith)

pub every_edge : EveryEdge
every_edge cs s n d = (
  λ k. record { time = k.time; each = first_all cs s (length cs) (λ j h. kept_edge _ _ s n d (edges_at k.inside j h)) },
  λ m. record { time = m.time; inside = edges_of cs (λ j h. edge_keeps _ _ s n d (all_first cs s (length cs) m.each j h)) },
)

pub edges_count : (cs : List Point) (s : Stroke) (k : ℕ) → length (first_conditions cs s k) ≡ k
edges_count cs s zero = refl
edges_count cs s (suc k) = omega (arith, length-append (first_conditions cs s k) (edge_condition cs s k ∷ []), edges_count cs s k)

-- ---- of corners of the table
module _ (a b : Corner) (s : Stroke) where
  abbrev ρ : Env
  ρ = a.x ∷ a.y ∷ b.x ∷ b.y ∷ s.x1 ∷ s.y1 ∷ s.x2 ∷ s.y2 ∷ []

  abbrev p_by : Expr
  p_by = cross_by 4 6 0 2

  abbrev q_by : Expr
  q_by = cross_by 0 2 0 4

  -- the cross products that the code computes
  pub p_is : cross_of (way_from (record { x = s.x1; y = s.y1 }) (record { x = s.x2; y = s.y2 })) (way_from a b) ≡ edge_p (point_of a) (point_of b) s
  unfolding value through
  p_is =
      ring ρ p_by
      (side_by (var 0) (var 1) (var 2) (var 3) (var 4) (var 5) (con (pos 1)) ⊖ side_by (var 0) (var 1) (var 2) (var 3) (var 6) (var 7) (con (pos 1))) tt

  pub q_is : cross_of (way_from a b) (way_from a (record { x = s.x1; y = s.y1 })) ≡ edge_q (point_of a) (point_of b) s
  unfolding value through
  q_is = ring ρ q_by (side_by (var 0) (var 1) (var 2) (var 3) (var 4) (var 5) (con (pos 1))) tt

  module _ (ha : CornerOnTable a) (hb : CornerOnTable b) (hs : StrokeOnTable s) where
    abbrev β : List ℕ
    β = farthest ∷ farthest ∷ farthest ∷ farthest ∷ farthest ∷ farthest ∷ farthest ∷ farthest ∷ []

    bounds : Bounds β ρ
    bounds = (ha.x, (ha.y, (hb.x, (hb.y, (hs.x1, (hs.y1, (hs.x2, (hs.y2, tt))))))))

    pub p_within : Within largest (edge_p (point_of a) (point_of b) s)
    p_within = subst (Within largest) p_is (within β ρ bounds p_by tt)

    pub q_within : Within largest (edge_q (point_of a) (point_of b) s)
    q_within = subst (Within largest) q_is (within β ρ bounds q_by tt)

-- ---- one more edge, that from the corner k
abbrev pub ahead : List ℤ → ℕ → ℕ
ahead zs k = next (length (corners_of zs)) k

module _ {zs : List ℤ} (g : CornersOnTable zs) (k : ℕ) (h : k < length (corners_of zs)) where
  pub ahead_below : ahead zs k < length (corners_of zs)
  ahead_below = edge_end (next_edge h)

  pub both_on : CornerOnTable (corner zs k) × CornerOnTable (corner zs (ahead zs k))
  both_on = (corner_on g k h, corner_on g (ahead zs k) ahead_below)

  pub edge_within : {s : Stroke} → StrokeOnTable s
      → Within largest (edge_condition (corners_of zs) s k).p × Within largest (edge_condition (corners_of zs) s k).q
  edge_within {s} hs =
      let first = sym (point_at_lem zs k h) in
      let second = sym (point_at_lem zs (ahead zs k) ahead_below) in (
        transport (λ t. Within largest (edge_p (first t) (second t) s)) (p_within (corner zs k) (corner zs (ahead zs k)) s both_on.0 both_on.1 hs),
        transport (λ t. Within largest (edge_q (first t) (second t) s)) (q_within (corner zs k) (corner zs (ahead zs k)) s both_on.0 both_on.1 hs),
      )

  pub edges_more : {s : Stroke} {kept : SidedSpan} {a b : Corner} {after : SidedSpan} → StrokeOnTable s → KeptBy largest (first_conditions (corners_of zs) s k) kept
      → a ≡ corner zs k → b ≡ corner zs (ahead zs k) → EdgeCut a b s k kept after → KeptBy largest (first_conditions (corners_of zs) s (suc k)) after
  edges_more {s} {kept} {a} {b} {after} hs f ea eb c =
      let w = edge_within hs in
      kept_by_more f (transport (λ t. SidedCut (edge_p (first t) (second t) s) (edge_q (first t) (second t) s) (number t) kept after) c) (omega arith) w.0 w.1
    where
      first : point_of a ≡ at (corners_of zs) k
      first = ap point_of ea ∙ sym (point_at_lem zs k h)

      second : point_of b ≡ at (corners_of zs) (ahead zs k)
      second = ap point_of eb ∙ sym (point_at_lem zs (ahead zs k) ahead_below)

      number : k ≡ length (first_conditions (corners_of zs) s k)
      number = sym (edges_count (corners_of zs) s k)
