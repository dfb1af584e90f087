-- How far the reading may have come.
--   long c      so many bytes of a line have come
--   IsWhole c   they are all of it
--   InReach s   what is left of the chunk lies within it, and the line within its place
use Rattle.std.specs.Prelude.{ℕ, ◌≤◌}
use Rattle.input.specs.declared.Come.{Come}
use Rattle.input.specs.declared.Come.TheVariants.{Part, Whole}
use Rattle.input.specs.declared.Source.{Source}

abbrev pub long : Come → ℕ
long (Part n) = n
long (Whole n) = n

abbrev pub IsWhole : Come → Type 0
IsWhole (Part n) = ⊥
IsWhole (Whole n) = Unit {0}

abbrev pub InReach : Source → Type 0
InReach s = (s.from ≤ s.to) × (s.to ≤ 65536) × (long s.come ≤ 400001)
