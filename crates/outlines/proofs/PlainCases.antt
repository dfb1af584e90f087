-- The plain cases: where no side cuts anything off, the passes leave the outline; where one side leaves only what is on its line, they leave nothing.
use mathlib.Core.Path.{◌≡◌, sym, subst, transport}
use mathlib.Core.List.Permᴰ
use mathlib.Core.List.{List, [], ◌∷◌, map}
use mathlib.Core.Option.{Option, none, some}
use Prim.Native.Nat.{ℕ, ◌/◌, ◌≤◌}
use native.Mathlib.Omega.{arith}
use lib.IntN.{ℤ, pos, ◌-ℤ◌, neg_ℤ}
use lib.ListN.{length, replicate}
use lib.Signed.{◌≤ℤ◌}
use Rattle.whole.proofs.Expressions.{Expr, var, neg, ◌⊕◌, ◌⊗◌}
use Rattle.whole.proofs.Naturals.{neg_plus, neg_minus}
use Rattle.whole.proofs.Order.{zarith, sub_is, ≤_antisym}
use Rattle.whole.proofs.Polynomials.{ring}
use Rattle.grid.specs.Sides.{Side, left, right, bottom, top, Clear, Beyond}
use Rattle.grid.specs.declared.Window.{Window}
use Rattle.reach.specs.Reach.{Reaches}
use Rattle.rings.specs.Cuts.{Inside, Cuts, Passes, no_pass, pass, Outcome, area, Result, none_left}
use Rattle.rings.specs.Lists.{All, ∅, ◌◂◌}
use Rattle.rings.specs.Points.{Point, Line, value, In, Under, Real}
use Rattle.rings.specs.Rings.{Ring}
use Rattle.rings.specs.Windows.{side_lines}
use Rattle.rings.proofs.Fan.{corners_in}
use Rattle.rings.proofs.Lists.{all_map}
use Rattle.rings.proofs.OneCut.{few_on}
use Rattle.rings.proofs.Orders.{some_result, all_order}
use Rattle.rings.proofs.Theorems.{convex_ccw, fan, one_pass, result_outcome}
use Rattle.convex.specs.Corners.{corners_of}
use Rattle.convex.proofs.Places.{count}
use Rattle.limits.specs.Sides.{side_line}
use Rattle.passes.specs.Orders.{sides_in, lines_in}
use Rattle.passes.proofs.Orders.{lines_arranged, lines_length}
use Rattle.crossings.proofs.Outlines.{corners_all}
use Rattle.limits.proofs.Sides.{side_line_real}
use Rattle.remains.proofs.Pieces.{cut_nothing}
use Rattle.outlines.proofs.Clear.{left_at, right_at, bottom_at, top_at, clear_in}
use Rattle.outlines.proofs.Passes.{lines_real}

-- ---- no side cuts anything off
cuts_nothing : {hs : List Line} {r : List Point} → Ring r → All Real hs → All (λ h. All (In h) r) hs
    → Passes hs r (replicate (length hs) (length r)) r
cuts_nothing g ∅ ∅ = no_pass
cuts_nothing g (real ◂ reals) (i ◂ a) = pass (one_pass real g (cut_nothing i)) g.three (cuts_nothing g reals a)

-- ---- one side leaves only what is on its line: a ring would have three corners there
module _ {hs : List Line} {r : List Point} (reals : All Real hs) (g : Ring r) (h : Line) (real : Real h)
    (among : (p : Point) → Inside hs p → In h p) (under : All (Under h) r) where
  -- the same line, its inside outside
  abbrev turned : Line
  turned = record { A = neg_ℤ h.A; B = neg_ℤ h.B; C = neg_ℤ h.C }

  turned_value : (p : Point) → value turned p ≡ neg_ℤ (value h p)
  unfolding value
  turned_value p = ring (h.A ∷ h.B ∷ h.C ∷ p.X ∷ p.Y ∷ p.W ∷ []) (line_at (neg (var 0)) (neg (var 1)) (neg (var 2))) (neg (line_at (var 0) (var 1) (var 2))) tt
    where
      line_at : Expr → Expr → Expr → Expr
      line_at a b c = ((a ⊗ var 3) ⊕ (b ⊗ var 4)) ⊕ (c ⊗ var 5)

  under_in : (p : Point) → Under h p → In turned p
  under_in p u = subst (λ (z : ℤ). pos 0 ≤ℤ z) (sym (turned_value p)) (omega (zarith, neg_plus (value h p), neg_minus (value h p)))

  in_under : (p : Point) → In turned p → Under h p
  in_under p i = let j = subst (λ (z : ℤ). pos 0 ≤ℤ z) (turned_value p) i in omega (zarith, neg_plus (value h p), neg_minus (value h p))

  no_ring : {s : List Point} → Outcome hs r (some s) → ⊥
  no_ring (area l) =
      let ccw = (convex_ccw _).0 l.ring.convex in
      let on = all_map (λ p i. let k = (l.points p).0 i in ≤_antisym (in_under p (fan turned p r g k.0 (all_map under_in under))) (among p k.1)) (corners_in ccw) in
      let few = few_on h real _ ccw on in
      let three = l.ring.three in
      omega arith

  pub cuts_away : Cuts hs r none
  cuts_away = go (some_result hs r reals g)
    where
      go : (o : Option (List Point)) × Result hs r o → Cuts hs r none
      go (none, none_left c) = c
      go (some s, c) = absurd (no_ring (result_outcome reals g c))

-- ---- the sides of the window, in an order
-- a value of which both parts are compared with a number between them
between : {v x y : ℤ} (m : ℤ) → v ≡ y -ℤ x → y ≤ℤ m → m ≤ℤ x → v ≤ℤ pos 0
between {x = x} {y} m e h k = subst (λ z. z ≤ℤ pos 0) (sym e) (omega (zarith, sub_is y x))

side_among : (w : Window) (k : Side) (p : Point) → Inside (side_lines w.left w.bottom w.right w.top) p → In (side_line w k) p
side_among w left p (i ◂ a) = i
side_among w right p (i ◂ (j ◂ a)) = j
side_among w bottom p (i ◂ (j ◂ (k ◂ a))) = k
side_among w top p (i ◂ (j ◂ (k ◂ (l ◂ a)))) = l

module _ (w : Window) {zs : List ℤ} {b : Window} (r : Reaches zs b) where
  pub whole_left : {o : ℕ} → o ≤ 23 → Ring (corners_of zs) → ((k : Side) → Clear w b k)
      → Passes (lines_in o w) (corners_of zs) (replicate 4 (length zs / 2)) (corners_of zs)
  unfolding lines_in
  whole_left {o} h g f =
      transport (λ j. Passes (lines_in o w) (corners_of zs) (replicate (lines_length o w h j) (count zs j)) (corners_of zs))
      (cuts_nothing g (lines_real w h) clear_all)
    where
      all : (ss : List Side) → All (λ h. All (In h) (corners_of zs)) (map (side_line w) ss)
      all [] = ∅
      all (k ∷ ks) = clear_in w k r (f k) ◂ all ks

      clear_all : All (λ h. All (In h) (corners_of zs)) (lines_in o w)
      clear_all = all (sides_in o)

  beyond_under : (k : Side) → Beyond w b k → All (Under (side_line w k)) (corners_of zs)
  beyond_under left c = corners_all zs (λ k h. between b.right (left_at w.left _ _) (r.right k h) c)
  beyond_under right c = corners_all zs (λ k h. between b.left (right_at w.right _ _) c (r.left k h))
  beyond_under bottom c = corners_all zs (λ k h. between b.top (bottom_at w.bottom _ _) (r.top k h) c)
  beyond_under top c = corners_all zs (λ k h. between b.bottom (top_at w.top _ _) c (r.bottom k h))

  pub nothing_left : {o : ℕ} → o ≤ 23 → Ring (corners_of zs) → (k : Side) × Beyond w b k → Cuts (lines_in o w) (corners_of zs) none
  nothing_left {o} h g (k, c) =
      cuts_away (lines_real w h) g (side_line w k) (side_line_real w k)
      (λ p i. side_among w k p (all_order (Permᴰ.symm (lines_arranged o w h)) i)) (beyond_under k c)
