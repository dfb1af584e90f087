-- What keeps a list counterclockwise: a corner moved towards its neighbour, and two corners for one.
use mathlib.Core.List.{List, [], ◌∷◌}
use Rattle.rings.specs.Lists.{All, ◌◂◌}
use Rattle.rings.specs.Points.{Point, Left, LeftOn}
use Rattle.rings.specs.Cuts.{Between}
use Rattle.rings.proofs.Plane.{cycle, cycle_on, weaken, twice13, twice23, between_left_on, between_left₁, between_left₂}
use Rattle.rings.proofs.Lists.{◌◂ᵖ◌, all_zip, all_map, all_head, all_tail, pairs_zip, pairs_head}
use Rattle.rings.proofs.Convex.{CCW, ◌◂ᶜ◌, ccw_turn, ccw_star, ccw_tail}

module _ {u v c : Point} (m : Between u v c) where
  -- the first corner moved from u towards v
  first : {x y : Point} → Left u x y → LeftOn v x y → Left c x y
  first h k = cycle (cycle (between_left₁ m (cycle h) (cycle_on k)))

  -- v moved towards u, u moved towards v
  pub move_second : {r : List Point} → CCW (u ∷ v ∷ r) → CCW (u ∷ c ∷ r)
  move_second ((a ◂ᵖ q) ◂ᶜ p ◂ᶜ d) =
      (all_map (λ y h. cycle (between_left₂ m (twice23 u y) (cycle (cycle h)))) a ◂ᵖ q) ◂ᶜ pairs_zip (λ x y h k. first h (weaken k)) q p ◂ᶜ d

  move_first : {r : List Point} → CCW (u ∷ v ∷ r) → CCW (c ∷ v ∷ r)
  move_first ((a ◂ᵖ q) ◂ᶜ p ◂ᶜ d) =
      (all_map (λ y h. cycle (cycle (between_left₁ m (cycle h) (twice13 v y)))) a ◂ᵖ pairs_zip (λ x y h k. first h (weaken k)) q p) ◂ᶜ p ◂ᶜ d

-- the second corner moved towards the third
pub move_inner : {l m f c : Point} {q : List Point} → Between m f c → CCW (l ∷ m ∷ f ∷ q) → CCW (l ∷ c ∷ f ∷ q)
move_inner {l} {m} {f} {c} {q} b d = ccw_turn (c ∷ f ∷ q) (l ∷ []) (move_first b (ccw_turn (l ∷ []) (m ∷ f ∷ q) d))

merge : {a b c : Point} {r : List Point} → CCW (a ∷ b ∷ r) → CCW (a ∷ c ∷ r) → Left a b c → All (Left b c) r → CCW (a ∷ b ∷ c ∷ r)
merge ((ab ◂ᵖ ar) ◂ᶜ br ◂ᶜ cr) ((ac ◂ᵖ ar') ◂ᶜ dr) h k = ((h ◂ ab) ◂ᵖ ac ◂ᵖ ar) ◂ᶜ (k ◂ᵖ br) ◂ᶜ dr

-- between l and f stand n and m, perhaps the same: c between l and n, d between m and f
pub move_both : {l n m f c d : Point} {q : List Point} → Between l n c → Between m f d → CCW (l ∷ n ∷ f ∷ q) → CCW (l ∷ m ∷ f ∷ q) → LeftOn l n m
    → All (LeftOn n m) (f ∷ q) → CCW (l ∷ c ∷ d ∷ f ∷ q)
move_both {l} {n} {m} {f} {c} {d} {q} bc bd cn cm lnm (nmf ◂ nmq) =
    merge lcfq (move_inner bd cm) (between_left₂ bd (cycle_on (between_left_on bc (twice23 l m) (cycle_on (cycle_on lnm)))) lcf)
    (cycle (between_left₁ bd (cycle (cycle (first bc lmf nmf))) (twice13 f c))
    ◂ all_zip (λ y h k. cycle (between_left₁ bd (cycle (cycle h)) (weaken (cycle (cycle k))))) (all_zip (λ y h k. first bc h k) lmq nmq) cfq)
  where
    lcfq : CCW (l ∷ c ∷ f ∷ q)
    lcfq = move_second bc cn

    lcf : Left l c f
    lcf = all_head (pairs_head (ccw_star lcfq))

    lmf : Left l m f
    lmf = all_head (pairs_head (ccw_star cm))

    lmq : All (Left l m) q
    lmq = all_tail (pairs_head (ccw_star cm))

    cfq : All (Left c f) q
    cfq = pairs_head (ccw_star (ccw_tail lcfq))
