-- Pairs of places of a rack, and what comparing some of them tells.
--   overlap_at rack row p q   how far the strips at the places p and q lie over each other: from left to right in the row 0, from bottom to top in
--                       the row 72, from the greater of their beginnings to the lesser of their ends
--   share rack p q      the strips at the places p and q share area
--   above zs            one of the numbers zs is above 0
--   Met i from to p q   p is one of the eight places from i on, and q is as far behind p as a place from `from` up to `to` is behind i
--   Sharing rack        two places, one behind the other, whose strips share area
--   Compares rack Pairs before after   some of the numbers `after` are above 0 where some were before, and where the strips at one of the Pairs share
--                                      area; and for no other reason than that some two strips do
--   Crowd rack n r      r tells whether two of the strips at the first n places share area
use Rattle.std.specs.Prelude.{◌≡◌, Bool, true, false, List, ◌⊎◌, ℕ, ◌+◌, ◌≤◌, ◌<◌, ℤ, pos, ◌-ℤ◌, get_or}
use Rattle.std.specs.Int.Signed.{lt_z}
use Rattle.whole.specs.Extremes.{lesser, greater}
use Rattle.racks.specs.Areas.{shares_area}
use Rattle.racks.specs.Members.{any}
use Rattle.racks.specs.Racks.{strip_at}

abbrev pub overlap_at : List ℤ → ℕ → ℕ → ℕ → ℤ
overlap_at rack row p q =
    lesser (get_or rack (row + 144 + p) (pos 0)) (get_or rack (row + 144 + q) (pos 0))
    -ℤ greater (get_or rack (row + p) (pos 0)) (get_or rack (row + q) (pos 0))

abbrev pub share : List ℤ → ℕ → ℕ → Bool
share rack p q = shares_area (strip_at rack p) (strip_at rack q)

abbrev pub above : List ℤ → Bool
above zs = any (lt_z (pos 0)) zs

pub record Met (i from to p q : ℕ) : Type 0 where
  pub first : i ≤ p
  pub last : p < i + 8
  pub near : from + p ≤ q + i
  pub far : q + i < to + p

pub record Sharing (rack : List ℤ) : Type 0 where
  pub one : ℕ
  pub other : ℕ
  pub behind : one < other
  pub there : other < 72
  pub shares : share rack one other ≡ true

pub record Compares (rack : List ℤ) (Pairs : ℕ → ℕ → Type 0) (before after : List ℤ) : Type 0 where
  pub keeps : above before ≡ true → above after ≡ true
  pub finds : (p q : ℕ) → Pairs p q → share rack p q ≡ true → above after ≡ true
  pub only : above after ≡ true → (above before ≡ true) ⊎ Sharing rack

pub record Crowd (rack : List ℤ) (n : ℕ) (r : Bool) : Type 0 where
  pub apart : r ≡ false → (p q : ℕ) → p < q → q < n → share rack p q ≡ false
  pub sharing : r ≡ true → (p : ℕ) × (q : ℕ) × (p < q) × (q < n) × (share rack p q ≡ true)
