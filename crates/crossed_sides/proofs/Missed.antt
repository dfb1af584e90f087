-- Where all four corners lie on one side of the line no point of the stroke lies in the window: in each direction one corner is the one that the line would
-- have to leave on its other side.
use mathlib.Core.List.{[], ◌∷◌}
use mathlib.Core.Logic.{inl, inr, ⊎_elim}
use lib.IntN.{ℤ, pos}
use lib.Signed.{◌≤ℤ◌, ◌<ℤ◌}
use Rattle.whole.proofs.Certificates.{clash, po, le, lt, ◌⊞◌, ◌⊠◌}
use Rattle.whole.proofs.Expressions.{Expr, Env, var, ◌⊗◌}
use Rattle.whole.proofs.Order.{≤_total, <→≤}
use Rattle.grid.specs.declared.Stroke.{Stroke}
use Rattle.grid.specs.declared.Window.{Window}
use Rattle.grid.specs.Sides.{left, right, bottom, top}
use Rattle.rings.proofs.Lists.{all_head, all_tail}
use Rattle.spans.specs.Sides.{MeetsAll}
use Rattle.strokes.specs.Sides.{conditions}
use Rattle.strokes.proofs.Sides.{keeps_meets}
use Rattle.crossed_sides.specs.Laws.{OneSideMissed}
use Rattle.crossed_sides.specs.Line.{first_corner}
use Rattle.crossed_sides.proofs.Corners.{L, B, R, T, P, Q, corner, naught}

module _ (w : Window) (s : Stroke) (n d : ℤ) (m : MeetsAll (conditions w s) n d) where
  abbrev ρ : Env
  ρ = w.left ∷ w.bottom ∷ w.right ∷ w.top ∷ s.x1 ∷ s.y1 ∷ s.x2 ∷ s.y2 ∷ n ∷ d ∷ []

  abbrev N : Expr
  N = var 8

  abbrev D : Expr
  D = var 9

  -- a corner that lies to the left of the line, or to its right, by the direction of the stroke
  left_east_north : s.x1 ≤ℤ s.x2 → s.y1 ≤ℤ s.y2 → pos 0 <ℤ first_corner w s right → ⊥
  left_east_north h v f = let r = all_head (all_tail m.each) in let b = all_head (all_tail (all_tail m.each)) in
      clash ρ (po (corner R B) f ⊠ po D m.time.den
      ⊞ le (var 5) (var 7) v ⊠ le (P right ⊗ N) (Q right ⊗ D) r ⊞ le (var 4) (var 6) h ⊠ le (P bottom ⊗ N) (Q bottom ⊗ D) b) tt

  left_east_south : s.x1 ≤ℤ s.x2 → s.y2 ≤ℤ s.y1 → pos 0 <ℤ first_corner w s bottom → ⊥
  left_east_south h v f = let l = all_head m.each in let b = all_head (all_tail (all_tail m.each)) in
      clash ρ (po (corner L B) f ⊠ po D m.time.den
      ⊞ le (var 7) (var 5) v ⊠ le (P left ⊗ N) (Q left ⊗ D) l ⊞ le (var 4) (var 6) h ⊠ le (P bottom ⊗ N) (Q bottom ⊗ D) b) tt

  left_west_north : s.x2 ≤ℤ s.x1 → s.y1 ≤ℤ s.y2 → pos 0 <ℤ first_corner w s top → ⊥
  left_west_north h v f = let r = all_head (all_tail m.each) in let t = all_head (all_tail (all_tail (all_tail m.each))) in
      clash ρ (po (corner R T) f ⊠ po D m.time.den
      ⊞ le (var 5) (var 7) v ⊠ le (P right ⊗ N) (Q right ⊗ D) r ⊞ le (var 6) (var 4) h ⊠ le (P top ⊗ N) (Q top ⊗ D) t) tt

  left_west_south : s.x2 ≤ℤ s.x1 → s.y2 ≤ℤ s.y1 → pos 0 <ℤ first_corner w s left → ⊥
  left_west_south h v f = let l = all_head m.each in let t = all_head (all_tail (all_tail (all_tail m.each))) in
      clash ρ (po (corner L T) f ⊠ po D m.time.den
      ⊞ le (var 7) (var 5) v ⊠ le (P left ⊗ N) (Q left ⊗ D) l ⊞ le (var 6) (var 4) h ⊠ le (P top ⊗ N) (Q top ⊗ D) t) tt

  right_east_north : s.x1 ≤ℤ s.x2 → s.y1 ≤ℤ s.y2 → first_corner w s left <ℤ pos 0 → ⊥
  right_east_north h v f = let l = all_head m.each in let t = all_head (all_tail (all_tail (all_tail m.each))) in
      clash ρ (lt (corner L T) naught f ⊠ po D m.time.den
      ⊞ le (var 5) (var 7) v ⊠ le (P left ⊗ N) (Q left ⊗ D) l ⊞ le (var 4) (var 6) h ⊠ le (P top ⊗ N) (Q top ⊗ D) t) tt

  right_east_south : s.x1 ≤ℤ s.x2 → s.y2 ≤ℤ s.y1 → first_corner w s top <ℤ pos 0 → ⊥
  right_east_south h v f = let r = all_head (all_tail m.each) in let t = all_head (all_tail (all_tail (all_tail m.each))) in
      clash ρ (lt (corner R T) naught f ⊠ po D m.time.den
      ⊞ le (var 7) (var 5) v ⊠ le (P right ⊗ N) (Q right ⊗ D) r ⊞ le (var 4) (var 6) h ⊠ le (P top ⊗ N) (Q top ⊗ D) t) tt

  right_west_north : s.x2 ≤ℤ s.x1 → s.y1 ≤ℤ s.y2 → first_corner w s bottom <ℤ pos 0 → ⊥
  right_west_north h v f = let l = all_head m.each in let b = all_head (all_tail (all_tail m.each)) in
      clash ρ (lt (corner L B) naught f ⊠ po D m.time.den
      ⊞ le (var 5) (var 7) v ⊠ le (P left ⊗ N) (Q left ⊗ D) l ⊞ le (var 6) (var 4) h ⊠ le (P bottom ⊗ N) (Q bottom ⊗ D) b) tt

  right_west_south : s.x2 ≤ℤ s.x1 → s.y2 ≤ℤ s.y1 → first_corner w s right <ℤ pos 0 → ⊥
  right_west_south h v f = let r = all_head (all_tail m.each) in let b = all_head (all_tail (all_tail m.each)) in
      clash ρ (lt (corner R B) naught f ⊠ po D m.time.den
      ⊞ le (var 7) (var 5) v ⊠ le (P right ⊗ N) (Q right ⊗ D) r ⊞ le (var 6) (var 4) h ⊠ le (P bottom ⊗ N) (Q bottom ⊗ D) b) tt

pub one_side_missed : OneSideMissed
one_side_missed w s (inl a) n d k =
    let m = keeps_meets k in
    ⊎_elim
    (λ h. ⊎_elim
    (λ v. left_east_north w s n d m h v (all_head (all_tail a)))
    (λ v. left_east_south w s n d m h (<→≤ v) (all_head (all_tail (all_tail a))))
    (≤_total s.y1 s.y2))
    (λ h. ⊎_elim
    (λ v. left_west_north w s n d m (<→≤ h) v (all_head (all_tail (all_tail (all_tail a)))))
    (λ v. left_west_south w s n d m (<→≤ h) (<→≤ v) (all_head a))
    (≤_total s.y1 s.y2))
    (≤_total s.x1 s.x2)
one_side_missed w s (inr a) n d k =
    let m = keeps_meets k in
    ⊎_elim
    (λ h. ⊎_elim
    (λ v. right_east_north w s n d m h v (all_head a))
    (λ v. right_east_south w s n d m h (<→≤ v) (all_head (all_tail (all_tail (all_tail a)))))
    (≤_total s.y1 s.y2))
    (λ h. ⊎_elim
    (λ v. right_west_north w s n d m (<→≤ h) v (all_head (all_tail (all_tail a))))
    (λ v. right_west_south w s n d m (<→≤ h) (<→≤ v) (all_head (all_tail a)))
    (≤_total s.y1 s.y2))
    (≤_total s.x1 s.x2)
