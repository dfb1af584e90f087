-- Of two whole numbers the one or the other.
--   lesser a b    the lesser of the two
--   greater a b   the greater of the two
use Rattle.std.specs.Prelude.{ℤ}
use Rattle.std.specs.Int.Signed.{lt_z}
use Rattle.whole.specs.Choice.{when◌then◌else◌}

unfoldable pub lesser : ℤ → ℤ → ℤ
lesser a b = when lt_z b a then b else a

unfoldable pub greater : ℤ → ℤ → ℤ
greater a b = when lt_z a b then b else a
