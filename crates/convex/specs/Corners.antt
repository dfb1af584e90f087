-- Lists of corners: how many there may be, strict convexity by place, and the two refusals that every call with corners makes.
--   grid_point x y            the point (x, y), as a point of the plane
--   corners_of zs             the corners of a list of numbers, x and y each
--   every n f                f at every place below n
--   next n i                 of n corners, the place to which the edge from place i leads: the next, and from the last the first
--   joins n i j              of n corners, the edge from place i joins the corner at place j to another
--   is_left a b p             p lies strictly left of the line from a to b
--   strictly_convex r         for every edge, each corner of the list but the two that it joins lies strictly to its left
--   fewest, most_corners      no list has fewer than 3 corners, and none more than 64
--   right_count most n        so many numbers are 3 to `most` corners, two numbers each
--   count_refusal most n zs   n where a list is of odd length or wrong count
--   convex_refusal n zs       n where its corners are not strictly convex counterclockwise
--   CornersOnTable zs        zs are 3 to 64 corners, two numbers each, all on the table
use Rattle.std.specs.Prelude.{◌≡◌, Bool, true, ◌&&◌, ◌||◌, List, [], ◌∷◌, ℕ, zero, suc, ◌*◌, ◌%◌, ◌≤◌, eqb, leb, ℤ, pos, length}
use Rattle.std.specs.Int.Signed.{lt_z}
use Rattle.whole.specs.Choice.{when◌then◌else◌}
use Rattle.grid.specs.declared.Refusal.{Refusal}
use Rattle.grid.specs.Refusals.{refuse, none}
use Rattle.grid.specs.Table.{NumbersOnTable}
use Rattle.rings.specs.Points.{Point, det}
use Rattle.rings.specs.Rings.{at}

-- ---- corners
abbrev pub grid_point : ℤ → ℤ → Point
grid_point x y = record { X = x; Y = y; W = pos 1 }

unfoldable pub corners_of : List ℤ → List Point
corners_of (x ∷ y ∷ zs) = grid_point x y ∷ corners_of zs
corners_of (x ∷ []) = []
corners_of [] = []

-- ---- strict convexity; corners count by their place, so a repeated point fails
unfoldable pub every : ℕ → (ℕ → Bool) → Bool
every zero f = true
every (suc n) f = f n && every n f

unfoldable pub next : ℕ → ℕ → ℕ
next n i = when eqb (suc i) n then 0 else suc i

unfoldable pub joins : ℕ → ℕ → ℕ → Bool
joins n i j = eqb j i || eqb j (next n i)

unfoldable pub is_left : Point → Point → Point → Bool
is_left a b p = lt_z (pos 0) (det a b p)

unfoldable pub strictly_convex : List Point → Bool
strictly_convex r =
    every (length r) (λ i. every (length r) (λ j. joins (length r) i j || is_left (at r i) (at r (next (length r) i)) (at r j)))

-- ---- how many; a call may take fewer than 64, so the limit is a parameter
abbrev pub fewest : ℕ
fewest = 3

abbrev pub most_corners : ℕ
most_corners = 64

unfoldable pub right_count : ℕ → ℕ → Bool
right_count most n = eqb (n % 2) 0 && (leb (2 * fewest) n && leb n (2 * most))

-- ---- refusals
unfoldable pub count_refusal : ℕ → ℕ → List ℤ → Refusal
count_refusal most n zs = when right_count most (length zs) then none else refuse n 0

unfoldable pub convex_refusal : ℕ → List ℤ → Refusal
convex_refusal n zs = when strictly_convex (corners_of zs) then none else refuse n 0

-- ---- corners in which neither the count nor the range is refused
pub record CornersOnTable (zs : List ℤ) : Type 0 where
  pub even : length zs % 2 ≡ 0
  pub three : 2 * fewest ≤ length zs
  pub few : length zs ≤ 2 * most_corners
  pub on : NumbersOnTable zs
