-- The lowest corner of a ring, of those the leftmost: where it stands, how a walk comes there, and the ring started at it.
--   LowestIn r k    what `lowest_corner` promises of its answer k: of the corners of the ring r none comes before that at place k
--   Forward r k     the walk down from the first corner of r forward ends at place k: at the lowest corner, or at the first, where the second does not come before it
--   Told n answers r   r is a ring of n corners, and what a test answers of two places is whether the corner at the first comes before that at the second
--   started_at r k   the ring r, started at place k
use Rattle.std.specs.Prelude.{◌≡◌, Bool, List, ◌++◌, ℕ, ◌<◌, length, take, drop}
use Rattle.whole.specs.Choice.{Decides}
use Rattle.rings.specs.Points.{Point, Before}
use Rattle.rings.specs.Rings.{at, Ring}

pub record LowestIn (r : List Point) (k : ℕ) : Type 0 where
  pub inside : k < length r
  pub least : (i : ℕ) → i < length r → Before (at r i) (at r k) → ⊥

pub data Forward (r : List Point) : ℕ → Type 0 where
  stays : (Before (at r 1) (at r 0) → ⊥) → Forward r 0
  moves : {k : ℕ} → 0 < k → LowestIn r k → Forward r k

pub record Told (n : ℕ) (answers : ℕ → ℕ → Bool → Type 0) (r : List Point) : Type 0 where
  pub ring : Ring r
  pub count : n ≡ length r
  pub told : (i j : ℕ) → i < n → j < n → (b : Bool) → answers i j b → Decides b (Before (at r i) (at r j))

abbrev pub started_at : List Point → ℕ → List Point
started_at r k = drop k r ++ take k r
