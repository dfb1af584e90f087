-- Rings of corners: strict convexity, the points of a ring, where a ring starts.
--   at r i            the corner of r at the place i
--   Edge n i k        of n corners in a ring, the one at i is joined to the one at k: the next place, or the first after the last
--   StrictlyConvex r  for every edge, each corner of the list but the two that it joins lies strictly to its left; corners count by their place in the list
--   Ring r            three corners or more, all proper, strictly convex
--   InRing r p        p lies in r: left of every edge or on it
--   Starts r          r starts at its lowest corner, of those the leftmost
use Rattle.std.specs.Prelude.{◌≡◌, List, [], ◌∷◌, ◌≢◌, ℕ, suc, ◌≤◌, ◌<◌, length, get_or, pos}
use Rattle.rings.specs.Lists.{All, Edges}
use Rattle.rings.specs.Points.{Point, Left, LeftOn, Proper, Before}

abbrev pub nowhere : Point
nowhere = record { X = pos 0; Y = pos 0; W = pos 0 }

abbrev pub at : List Point → ℕ → Point
at r i = get_or r i nowhere

pub data Edge (n : ℕ) : ℕ → ℕ → Type 0 where
  along : {i : ℕ} → suc i < n → Edge n i (suc i)
  closing : {i : ℕ} → suc i ≡ n → Edge n i 0

pub record StrictlyConvex (r : List Point) : Type 0 where
  pub left_of : (i k j : ℕ) → Edge (length r) i k → j < length r → j ≢ i → j ≢ k → Left (at r i) (at r k) (at r j)

pub record Ring (r : List Point) : Type 0 where
  pub three : 3 ≤ length r
  pub proper : All Proper r
  pub convex : StrictlyConvex r

abbrev pub InRing : List Point → Point → Type 0
InRing r p = Edges (λ a b. LeftOn a b p) r

abbrev pub Starts : List Point → Type 0
Starts [] = Unit {0}
Starts (v ∷ vs) = All (Before v) vs
