-- The listing of a drawing.
--   refusal_line n p      the line of a refusal
--   Listing bytes text told   what `list` promises to put on its page and to answer: text is the listing of the drawing whose bytes these
--                        are, a refusal's line alone, or the strip, the kept strokes and their count; told is that refusal, or none
use Rattle.std.specs.Prelude.{Option, List, ◌++◌, ℕ}
use Rattle.grid.specs.declared.Refusal.{Refusal}
use Rattle.text.specs.Pages.{ascii, refusal}
use Rattle.lines.specs.Lines.{listed}
use Rattle.reports.specs.Reports.{Report}

abbrev pub refusal_line : ℕ → ℕ → List ℕ
refusal_line n p = refusal n p ++ ascii "\n"

abbrev pub Listing : List ℕ → List ℕ → Option Refusal → Type 0
Listing bytes text told = Report refusal_line (λ w _ n xs k. listed w n xs k) bytes text told
