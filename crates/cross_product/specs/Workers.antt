-- What the workers behind the cross-product call promise each other.
--   part_way n d           n/d, not in lowest terms
--   MeetsUpright, MeetsLevel s at n d   n/d is a fraction of the stroke's way, and the stroke's x, or its y, is there exactly `at`
--   EndFound Named w s e  e is an end of what is kept: its fraction of the stroke's way meets all conditions of the window, its point is the stroke's there,
--                         rounded, and its side is Named for it
use Rattle.std.specs.Prelude.{◌≡◌, List, ℕ, ℤ, ◌*ℤ◌}
use Rattle.whole.specs.Within.{Within}
use Rattle.fraction.specs.declared.Fraction.{Fraction}
use Rattle.fraction.specs.Rounding.{along}
use Rattle.grid.specs.declared.Stroke.{Stroke}
use Rattle.grid.specs.declared.Window.{Window}
use Rattle.spans.specs.Sides.{Condition, MeetsAll}
use Rattle.strokes.specs.declared.End.{End}
use Rattle.strokes.specs.Sides.{conditions}
use Rattle.strokes.specs.Strokes.{PointAt}
use Rattle.strokes.specs.Workers.{OnWay}

abbrev pub part_way : ℤ → ℤ → Fraction
part_way n d = record { num = n; den = d }

pub record MeetsUpright (s : Stroke) (at n d : ℤ) : Type 0 where
  pub way : OnWay (part_way n d)
  pub on : along s.x1 s.x2 n d ≡ at *ℤ d

pub record MeetsLevel (s : Stroke) (at n d : ℤ) : Type 0 where
  pub way : OnWay (part_way n d)
  pub on : along s.y1 s.y2 n d ≡ at *ℤ d

pub record EndFound (Named : List Condition → Fraction → ℕ → Type 0) (w : Window) (s : Stroke) (e : End) : Type 0 where
  pub small : Within 32766 e.t.den
  pub meets : MeetsAll (conditions w s) e.t.num e.t.den
  pub point : PointAt s e.t e.x e.y
  pub side : Named (conditions w s) e.t e.side
