-- Where a stroke meets a line: the point that `meet` computes, the same with x and y exchanged, and that a stroke with points on both sides of a line does not
-- run along it.
use mathlib.Core.Path.{◌≡◌, refl, sym, ap, ◌∙◌}
use mathlib.Core.Bool.{Bool, true, false}
use mathlib.Core.List.{List, [], ◌∷◌}
use mathlib.Core.Logic.{⊎_elim}
use Prim.Native.Nat.{ℕ, zero, suc}
use native.Mathlib.Omega.{arith}
use lib.Dec.{T, leb}
use lib.IntN.{ℤ, pos, neg_ℤ, ◌*ℤ◌}
use lib.Signed.{◌≤ℤ◌, ◌<ℤ◌}
use Rattle.whole.specs.Within.{Within}
use Rattle.whole.proofs.Expressions.{Expr, Env, means, var, con, ◌⊕◌, ◌⊖◌, ◌⊗◌, neg}
use Rattle.whole.proofs.Polynomials.{ring, same}
use Rattle.whole.proofs.Order.{zarith, ≤_total, ≤_antisym, <_diff}
use Rattle.whole.proofs.Certificates.{clash, po, lt, eq, ◌⊞◌, ◌⊠◌, eq_by, eqn, eq_cancel, ◌⊹◌}
use Rattle.whole.proofs.Ranges.{Bounds, bound, within, within_up}
use Rattle.grid.specs.declared.Window.{Window}
use Rattle.grid.specs.declared.Stroke.{Stroke}
use Rattle.grid.specs.Table.{farthest, WindowOnTable, StrokeOnTable}
use Rattle.rings.specs.Points.{Point, Line, value, through, Over, Out, On, Real, Proper}
use Rattle.rings.specs.Cuts.{Across, leaves, enters}
use Rattle.rings.specs.Windows.{left_side, bottom_side}
use Rattle.rings.proofs.Plane.{nought, with_line, value_of, det_of, w_of}
use Rattle.convex.specs.Corners.{grid_point}
use Rattle.memory.specs.Memory.{largest_number}
use Rattle.crossings.specs.Tags.{stroke_from, line_of, side_stroke}
use Rattle.grid.specs.Sides.{Side, left, right, bottom, top, number_of}
use Rattle.limits.specs.Limits.{line_by, limit_line}
use Rattle.crossings.specs.Meetings.{NotAlong, Meets}
use Rattle.limits.specs.declared.Limit.{Limit}
use Rattle.crossings.proofs.SideStrokes.{Opposite, right_opposite, top_opposite}

abbrev one : Expr
one = con (pos 1)

-- ---- the line x = c, met by the line from (ax, ay) to (bx, by); these are the variables 0 to 4
abbrev run : Expr
run = var 3 ⊖ var 1

abbrev height : Expr
height = var 2 ⊗ run ⊕ (var 0 ⊖ var 1) ⊗ (var 4 ⊖ var 2)

abbrev pub sizes : List ℕ
sizes = farthest ∷ farthest ∷ farthest ∷ farthest ∷ farthest ∷ []

module _ (c ax ay bx by : ℤ) (hc : Within farthest c) (on : StrokeOnTable (stroke_from ax ay bx by)) where
  abbrev ρ : Env
  ρ = c ∷ ax ∷ ay ∷ bx ∷ by ∷ []

  pub bounds : Bounds sizes ρ
  bounds = (hc, (on.x1, (on.y1, (on.x2, (on.y2, tt)))))

  -- the point (k/d, l/d)
  abbrev point : Expr → Expr → Expr → Point
  point k l d = record { X = means ρ k; Y = means ρ l; W = means ρ d }

  -- the quoted value of the line x = c, and of the line from a to b
  abbrev at_side : Expr → Expr → Expr → Expr
  at_side k l d = one ⊗ k ⊕ nought ⊗ l ⊕ neg (var 0) ⊗ d

  abbrev at_stroke : Expr → Expr → Expr → Expr
  at_stroke k l d = (var 2 ⊗ one ⊖ one ⊗ var 4) ⊗ k ⊕ (one ⊗ var 3 ⊖ var 1 ⊗ one) ⊗ l ⊕ (var 1 ⊗ var 4 ⊖ var 2 ⊗ var 3) ⊗ d

  -- the ends of the stroke are as far from x = c where it is upright
  upright : means ρ run ≡ pos 0 → value (left_side c) (grid_point ax ay) ≡ value (left_side c) (grid_point bx by)
  unfolding left_side value
  upright e = eq_by ρ (at_side (var 1) (var 2) one) (at_side (var 3) (var 4) one) (eqn (neg one) run nought e) tt

  met : (k l d : Expr) → T (same (at_side k l d) nought) → T (same (at_stroke k l d) nought)
      → T (leb (bound sizes d) 32766) → T (leb (bound sizes k) largest_number) → T (leb (bound sizes l) largest_number)
      → ((means ρ run ≡ pos 0 → ⊥) → pos 0 <ℤ means ρ d) → Meets (left_side c) (stroke_from ax ay bx by) (point k l d)
  unfolding left_side value through
  met k l d s t hd hk hl positive = record {
    on_side = ring ρ (at_side k l d) nought s;
    on_stroke = λ n. ring ρ (at_stroke k l d) nought t;
    small = λ n. record {
      positive = positive (λ e. n (upright e));
      den = (within sizes ρ bounds d hd).high;
      x = within sizes ρ bounds k hk;
      y = within sizes ρ bounds l hl;
    };
  }

  pub meets_forward : pos 0 ≤ℤ means ρ run → Meets (left_side c) (stroke_from ax ay bx by) (point (var 0 ⊗ run) height run)
  meets_forward h = met (var 0 ⊗ run) height run tt tt tt tt tt (λ n. ⊎_elim (λ l. absurd (n (≤_antisym l h))) (λ l. l) (≤_total (means ρ run) (pos 0)))

  pub meets_back : means ρ run <ℤ pos 0 → Meets (left_side c) (stroke_from ax ay bx by) (point (var 0 ⊗ (nought ⊖ run)) (nought ⊖ height) (nought ⊖ run))
  meets_back h = met (var 0 ⊗ (nought ⊖ run)) (nought ⊖ height) (nought ⊖ run) tt tt tt tt tt (λ n. <_diff h)

-- ---- a line of which the value is the opposite; x and y exchanged
not_opposite : (h k : Line) (e : Stroke) → Opposite h k → NotAlong k e → NotAlong h e
not_opposite h k e o n q = n (o (grid_point e.x1 e.y1) ∙ ap neg_ℤ q ∙ sym (o (grid_point e.x2 e.y2)))

opposite : {h k : Line} {e : Stroke} {p : Point} → Opposite h k → Meets h e p → Meets k e p
opposite {h} {k} {e} {p} o m = record {
  on_side = o p ∙ ap neg_ℤ m.on_side;
  on_stroke = λ n. m.on_stroke (not_opposite h k e o n);
  small = λ n. m.small (not_opposite h k e o n);
}

abbrev exchanged : Point → Point
exchanged p = record { X = p.Y; Y = p.X; W = p.W }

bottom_left : (c : ℤ) (q : Point) → value (bottom_side c) q ≡ value (left_side c) (exchanged q)
unfolding left_side bottom_side value
bottom_left c q = ring (c ∷ q.X ∷ q.Y ∷ q.W ∷ []) (nought ⊗ var 1 ⊕ one ⊗ var 2 ⊕ neg (var 0) ⊗ var 3) (one ⊗ var 2 ⊕ nought ⊗ var 1 ⊕ neg (var 0) ⊗ var 3) tt

stroke_exchanged : (ax ay bx by : ℤ) (p : Point) → value (line_of (stroke_from ax ay bx by)) (exchanged p) ≡ neg_ℤ (value (line_of (stroke_from ay ax by bx)) p)
unfolding value through
stroke_exchanged ax ay bx by p = ring (ax ∷ ay ∷ bx ∷ by ∷ p.X ∷ p.Y ∷ p.W ∷ []) (at 0 1 2 3 5 4) (neg (at 1 0 3 2 4 5)) tt
  where
    at : ℕ → ℕ → ℕ → ℕ → ℕ → ℕ → Expr
    at a b c d x y = (var b ⊗ one ⊖ one ⊗ var d) ⊗ var x ⊕ (one ⊗ var c ⊖ var a ⊗ one) ⊗ var y ⊕ (var a ⊗ var d ⊖ var b ⊗ var c) ⊗ var 6

bottom_meets : (c ax ay bx by : ℤ) {p : Point} → Meets (left_side c) (stroke_from ay ax by bx) p → Meets (bottom_side c) (stroke_from ax ay bx by) (exchanged p)
bottom_meets c ax ay bx by {p} m =
    let not : NotAlong (bottom_side c) (stroke_from ax ay bx by) → NotAlong (left_side c) (stroke_from ay ax by bx) =
    λ n q. n (bottom_left c (grid_point ax ay) ∙ q ∙ sym (bottom_left c (grid_point bx by))) in record {
      on_side = bottom_left c (exchanged p) ∙ m.on_side;
      on_stroke = λ n. stroke_exchanged ax ay bx by p ∙ ap neg_ℤ (m.on_stroke (not n));
      small = λ n. let s = m.small (not n) in record { positive = s.positive; den = s.den; x = s.y; y = s.x };
    }

-- ---- a limit's line, by its axis
pub upright_meets : (l : Limit) {e : Stroke} {p : Point} → l.axis ≡ 0 → Meets (left_side l.c) e p → Meets (limit_line l) e p
upright_meets l {e} {p} z m = go l.low l.axis z
  where
    go : (low : Bool) (k : ℕ) → k ≡ 0 → Meets (line_by low k l.c) e p
    go true zero z = m
    go false zero z = opposite (right_opposite l.c) m
    go low (suc k) z = absurd (omega arith)

pub level_meets : (l : Limit) (e : Stroke) {p : Point} → (l.axis ≡ 0 → ⊥) → Meets (left_side l.c) (stroke_from e.y1 e.x1 e.y2 e.x2) p
    → Meets (limit_line l) e (exchanged p)
level_meets l e {p} n m = go l.low l.axis n
  where
    met : Meets (bottom_side l.c) e (exchanged p)
    met = bottom_meets l.c e.x1 e.y1 e.x2 e.y2 m

    go : (low : Bool) (k : ℕ) → (k ≡ 0 → ⊥) → Meets (line_by low k l.c) e (exchanged p)
    go low zero n = absurd (n refl)
    go true (suc k) n = met
    go false (suc k) n = opposite (top_opposite l.c) met

-- ---- the line x = c, met by the lines y = n and x = n; that one runs along it
module _ (c n : ℤ) (hc : Within farthest c) (hn : Within farthest n) where
  abbrev corner : Point
  corner = grid_point c n

  on_upright : On (left_side c) corner
  unfolding left_side value
  on_upright = ring (c ∷ n ∷ []) (one ⊗ var 0 ⊕ nought ⊗ var 1 ⊕ neg (var 0) ⊗ one) nought tt

  level_meets_upright : Meets (left_side c) (stroke_from (pos 0) n (pos 1) n) corner
  unfolding value through
  level_meets_upright = record {
    on_side = on_upright;
    on_stroke = λ _. ring (c ∷ n ∷ []) ((var 1 ⊗ one ⊖ one ⊗ var 1) ⊗ var 0 ⊕ (one ⊗ one ⊖ nought ⊗ one) ⊗ var 1 ⊕ (nought ⊗ var 1 ⊖ var 1 ⊗ one) ⊗ one) nought tt;
    small = λ _. record { positive = omega zarith; den = omega zarith; x = within_up (omega arith) hc; y = within_up (omega arith) hn };
  }

  runs_along : Meets (left_side c) (stroke_from n (pos 0) n (pos 1)) corner
  unfolding left_side value
  runs_along =
      let along : value (left_side c) (grid_point n (pos 0)) ≡ value (left_side c) (grid_point n (pos 1)) =
      ring (c ∷ n ∷ []) (one ⊗ var 1 ⊕ nought ⊗ nought ⊕ neg (var 0) ⊗ one) (one ⊗ var 1 ⊕ nought ⊗ one ⊕ neg (var 0) ⊗ one) tt in
      record { on_side = on_upright; on_stroke = λ k. absurd (k along); small = λ k. absurd (k along) }

-- ---- a limit's line, met by that of a window's side
module _ (w : Window) (l : Limit) (t : WindowOnTable w) where
  pub side_meets_upright : (s : Side) → l.axis ≡ 0 → Meets (limit_line l) (side_stroke w s) (grid_point l.c (number_of w s))
  unfolding side_stroke
  side_meets_upright left z = upright_meets l z (runs_along l.c w.left l.on_table t.left)
  side_meets_upright right z = upright_meets l z (runs_along l.c w.right l.on_table t.right)
  side_meets_upright bottom z = upright_meets l z (level_meets_upright l.c w.bottom l.on_table t.bottom)
  side_meets_upright top z = upright_meets l z (level_meets_upright l.c w.top l.on_table t.top)

  pub side_meets_level : (s : Side) → (l.axis ≡ 0 → ⊥) → Meets (limit_line l) (side_stroke w s) (grid_point (number_of w s) l.c)
  unfolding side_stroke
  side_meets_level left n = level_meets l (stroke_from w.left (pos 0) w.left (pos 1)) n (level_meets_upright l.c w.left l.on_table t.left)
  side_meets_level right n = level_meets l (stroke_from w.right (pos 0) w.right (pos 1)) n (level_meets_upright l.c w.right l.on_table t.right)
  side_meets_level bottom n = level_meets l (stroke_from (pos 0) w.bottom (pos 1) w.bottom) n (runs_along l.c w.bottom l.on_table t.bottom)
  side_meets_level top n = level_meets l (stroke_from (pos 0) w.top (pos 1) w.top) n (runs_along l.c w.top l.on_table t.top)

-- ---- a stroke whose line has points on both sides of h does not run along h: else h would be h(a)·W on it, a being its start
module _ (h : Line) (e : Stroke) where
  abbrev start : Point
  start = grid_point e.x1 e.y1

  abbrev end : Point
  end = grid_point e.x2 e.y2

  -- h is line 0, the start, the end, u and a point inside the stroke's line are points 1 to 4; W is 1 at the start and the end
  along_value : (u : Point) → Real (line_of e) → On (line_of e) u → value h start ≡ value h end → value h u ≡ value h start *ℤ u.W
  unfolding value through
  along_value u (q, real) on same =
      eq_cancel (with_line h (start ∷ end ∷ u ∷ q ∷ [])) (po (det_of 1 2 4) real) (value_of 0 3) (value_of 0 1 ⊗ w_of 3)
      (eqn (neg (det_of 1 3 4)) (value_of 0 1) (value_of 0 2) same
      ⊹ eqn (value_of 0 4 ⊖ value_of 0 1 ⊗ w_of 4) (det_of 1 2 3) nought on
      ⊹ eqn (neg (det_of 3 2 4 ⊗ value_of 0 1)) (w_of 1) one refl
      ⊹ eqn (neg (det_of 1 3 4 ⊗ value_of 0 1)) (w_of 2) one refl) tt

  -- 0 < h(u) = k·W(u) and h(v) = k·W(v) < 0
  no_sign : (u v : Point) → Proper u → Proper v → Over h u → Out h v → value h u ≡ value h start *ℤ u.W → value h v ≡ value h start *ℤ v.W → ⊥
  no_sign u v pu pv hu hv eu ev =
      clash (value h u ∷ value h v ∷ value h start ∷ u.W ∷ v.W ∷ [])
      (po (var 0) hu ⊠ po (var 4) pv ⊞ lt (var 1) nought hv ⊠ po (var 3) pu ⊞ eq (neg (var 4)) (var 0) (var 2 ⊗ var 3) eu ⊞ eq (var 3) (var 1) (var 2 ⊗ var 4) ev) tt

  pub not_along : (u v : Point) → Proper u → Proper v → Real (line_of e) → On (line_of e) u → On (line_of e) v → Across h u v → NotAlong h e
  not_along u v pu pv r lu lv (leaves a b) q = no_sign u v pu pv a b (along_value u r lu q) (along_value v r lv q)
  not_along u v pu pv r lu lv (enters a b) q = no_sign v u pv pu b a (along_value v r lv q) (along_value u r lu q)
