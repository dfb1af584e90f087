-- What is known of corners that are not refused: a test that is not refused is passed, and what is counted right is 3 to 64 corners.
use mathlib.Core.Path.{◌≡◌, refl}
use mathlib.Core.Bool.{Bool, true, false, and-eq-true_iff}
use mathlib.Core.List.{List}
use Prim.Native.Nat.{ℕ, ◌*◌, ◌%◌, ◌≤◌}
use native.Mathlib.Omega.{arith}
use borrow.Author.Tests.{eqb-true, leb-true}
use lib.Dec.{eqb, leb}
use lib.IntN.{ℤ}
use lib.ListN.{length}
use Rattle.whole.specs.Choice.{when◌then◌else◌}
use Rattle.grid.specs.Refusals.{refuse, none}
use Rattle.grid.specs.Table.{NumbersOnTable}
use Rattle.convex.specs.Corners.{corners_of, strictly_convex, fewest, most_corners, right_count, count_refusal, convex_refusal, CornersOnTable}

-- ---- a test that is not refused by number n is passed
pub passed : {n : ℕ} (b : Bool) → (n ≡ 0 → ⊥) → (when b then none else refuse n 0).number ≡ 0 → b ≡ true
passed true h e = refl
passed false h e = absurd (h e)

pub count_passed : (most n : ℕ) (zs : List ℤ) → (n ≡ 0 → ⊥) → (count_refusal most n zs).number ≡ 0 → right_count most (length zs) ≡ true
unfolding count_refusal
count_passed most n zs = passed (right_count most (length zs))

pub convex_passed : (n : ℕ) (zs : List ℤ) → (n ≡ 0 → ⊥) → (convex_refusal n zs).number ≡ 0 → strictly_convex (corners_of zs) ≡ true
unfolding convex_refusal
convex_passed n zs = passed (strictly_convex (corners_of zs))

-- ---- a count that is right
pub right_even : (most n : ℕ) → right_count most n ≡ true → n % 2 ≡ 0
unfolding right_count
right_even most n c = eqb-true (n % 2) 0 ((and-eq-true_iff (eqb (n % 2) 0) _).0 c).0

limits : (most n : ℕ) → right_count most n ≡ true → (leb (2 * fewest) n ≡ true) × (leb n (2 * most) ≡ true)
unfolding right_count
limits most n c = (and-eq-true_iff (leb (2 * fewest) n) (leb n (2 * most))).0 ((and-eq-true_iff (eqb (n % 2) 0) _).0 c).1

pub right_three : (most n : ℕ) → right_count most n ≡ true → 2 * fewest ≤ n
right_three most n c = leb-true (2 * fewest) n (limits most n c).0

pub right_few : (most n : ℕ) → right_count most n ≡ true → n ≤ 2 * most
right_few most n c = leb-true n (2 * most) (limits most n c).1

pub counted_on_table : (most : ℕ) (zs : List ℤ) → most ≤ most_corners → right_count most (length zs) ≡ true → NumbersOnTable zs → CornersOnTable zs
counted_on_table most zs h c on =
    let n = length zs in
    record { even = right_even most n c; three = right_three most n c; few = omega (arith, right_few most n c); on = on }
