-- The artwork of a picture.
--   artwork w v zs n xs k   for the strip w in the view v, the numbers zs of its n strokes, and the rows xs of the k that are kept: the strip, what
--                           was drawn and what is kept, in the group that has been started; the numbers outside it, since it is turned over; and,
--                           in such a group again, the points, which no number hides
use Rattle.std.specs.Prelude.{List, ◌++◌, ℕ, ℤ}
use Rattle.grid.specs.declared.Window.{Window}
use Rattle.view.specs.Views.{extent}
use Rattle.layers.specs.Layers.{strip_path, drawn_paths}
use Rattle.frames.specs.Frames.{placed}
use Rattle.labels.specs.Labels.{labels}
use Rattle.dots.specs.Dots.{points}

unfoldable pub artwork : Window → Window → List ℤ → ℕ → List ℤ → ℕ → List ℕ
artwork w v zs n xs k =
    strip_path w (extent v) ++ drawn_paths (extent v) zs n xs k ++ labels v zs n ++ placed v ++ points (extent v) zs xs k
