-- The picture of a drawing.
--   picture w zs n xs k   the picture of a drawing that is cut: its strip w, the numbers zs of its n strokes, and the rows xs of the k that are kept
--   Picture bytes text told   what `draw` promises to put on its page and to answer: text is the picture of the drawing whose bytes these
--                         are, or of its refusal, which is told; or none is
use Rattle.std.specs.Prelude.{Option, List, ◌++◌, ℕ, ◌/◌, ℤ, length}
use Rattle.grid.specs.declared.Refusal.{Refusal}
use Rattle.grid.specs.declared.Window.{Window}
use Rattle.view.specs.Views.{reach}
use Rattle.frames.specs.Frames.{frame, placed}
use Rattle.artwork.specs.Artwork.{artwork}
use Rattle.captions.specs.Captions.{caption}
use Rattle.refused.specs.Refused.{refused_picture}
use Rattle.reports.specs.Reports.{Report}

unfoldable pub picture : Window → List ℤ → ℕ → List ℤ → ℕ → List ℕ
picture w zs n xs k =
    let v = reach w zs (length zs / 2) in
    frame v k n ++ placed v ++ artwork w v zs n xs k ++ caption w v k n

abbrev pub Picture : List ℕ → List ℕ → Option Refusal → Type 0
Picture bytes text told = Report refused_picture picture bytes text told
