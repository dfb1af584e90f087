-- That the passes of an outline run in the order given can be seen: the ring is the same in every order, but the corners
-- on the way are not.
--   hexagon     an outline of which every order of the sides leaves other corners on the way
--   OrderSeen   no answer for the hexagon is right in two orders. So a program that cuts it in another order than the one
--               given, be it always order 0, does not keep what `outlines::clip_outline` promises, whatever ring it gives
use Rattle.std.specs.Prelude.{◌≡◌, List, [], ◌∷◌, ℕ, ◌≤◌, ℤ}
use Rattle.outlines.specs.Outlines.{last_order, Outline}
use Rattle.outlines.specs.declared.OutlineAnswer.{OutlineAnswer}
use Rattle.worked.specs.Examples.{ten, zeros, coordinates, +◌, -◌}

unfoldable pub hexagon : List ℤ
hexagon = coordinates ((+ 1, - 3) ∷ (+ 2, - 4) ∷ (+ 6, - 4) ∷ (+ 11, - 1) ∷ (+ 12, + 4) ∷ (+ 10, + 12) ∷ [])

abbrev pub OrderSeen : Type 0
OrderSeen =
    (o o' : ℕ) (a : OutlineAnswer) (after after' : List ℤ)
    → o ≤ last_order → o' ≤ last_order
    → Outline ten o hexagon a (zeros 32) after → Outline ten o' hexagon a (zeros 32) after' → o ≡ o'
