-- Rings by triples: every three corners, in the list's order, turn left. This passes to every part of a list and does not care where the list starts.
use mathlib.Core.Path.{sym, subst}
use mathlib.Core.List.{List, [], ◌∷◌, ◌++◌, append_assoc, append-nil}
use Rattle.rings.specs.Lists.{Turned}
use Rattle.rings.specs.Points.{Point, Left}
use Rattle.rings.proofs.Plane.{cycle}
use Rattle.rings.proofs.Lists.{Pairs, ∅ᵖ, ◌◂ᵖ◌, ◌⊑◌, done, skip, take, pairs_map, pairs_part, pairs_snoc}

infixr 60 ◌◂ᶜ◌
pub data CCW : List Point → Type 0 where
  ∅ᶜ : CCW []
  ◌◂ᶜ◌ : {v : Point} {r : List Point} → Pairs (Left v) r → CCW r → CCW (v ∷ r)

pub ccw_part : {xs ys : List Point} → xs ⊑ ys → CCW ys → CCW xs
ccw_part done c = ∅ᶜ
ccw_part (skip s) (q ◂ᶜ c) = ccw_part s c
ccw_part (take s) (q ◂ᶜ c) = pairs_part s q ◂ᶜ ccw_part s c

pub ccw_star : {v : Point} {r : List Point} → CCW (v ∷ r) → Pairs (Left v) r
ccw_star (q ◂ᶜ c) = q

pub ccw_tail : {v : Point} {r : List Point} → CCW (v ∷ r) → CCW r
ccw_tail (q ◂ᶜ c) = c

ccw_snoc : {r : List Point} {z : Point} → CCW r → Pairs (λ x y. Left x y z) r → CCW (r ++ (z ∷ []))
ccw_snoc ∅ᶜ ∅ᵖ = ∅ᵖ ◂ᶜ ∅ᶜ
ccw_snoc (q ◂ᶜ c) (a ◂ᵖ p) = pairs_snoc q a ◂ᶜ ccw_snoc c p

pub ccw_turn : (xs ys : List Point) → CCW (xs ++ ys) → CCW (ys ++ xs)
ccw_turn [] ys c = subst CCW (sym (append-nil ys)) c
ccw_turn (x ∷ xs) ys (q ◂ᶜ c) =
    subst CCW (append_assoc ys (x ∷ []) xs) (ccw_turn xs (ys ++ (x ∷ [])) (subst CCW (append_assoc xs ys (x ∷ [])) (ccw_snoc c (pairs_map (λ a b h. cycle h) q))))

pub ccw_turned : {r s : List Point} → Turned r s → CCW r → CCW s
ccw_turned t c = subst CCW (sym t.now) (ccw_turn t.front t.back (subst CCW t.was c))
