-- Strips that share area.
--   shares_area v w   the windows v and w, which have area, share some: each begins before the other ends, from left to right and from bottom to
--                    top. Where they only touch they share none
use Rattle.std.specs.Prelude.{Bool, ◌&&◌}
use Rattle.std.specs.Int.Signed.{lt_z}
use Rattle.grid.specs.declared.Window.{Window}

unfoldable pub shares_area : Window → Window → Bool
shares_area v w =
    lt_z v.left w.right && lt_z w.left v.right && lt_z v.bottom w.top && lt_z w.bottom v.top
