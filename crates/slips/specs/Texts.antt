-- Which line of a text shows a slip, and where it is looked for.
--   from n t        the text t without its first n lines
--   line_after n t   the line that comes after these, without its end; nothing where t has no more
--   slip_for l f     the slip in the line l, where f says why it is not taken
use Rattle.std.specs.Prelude.{Option, None, List, ℕ, zero, suc, ◌+◌, take, drop}
use Rattle.text.specs.Runs.{run, is_not}
use Rattle.pen_line.specs.Lines.{spoken}
use Rattle.pen_line.specs.declared.Fault.{Fault}
use Rattle.pen_line.specs.declared.Fault.TheVariants.{NoStrip, SecondStrip, UnknownWord, NotNumbers, LongDrawing, LongText}
use Rattle.slips.specs.Slips.{of_line}
use Rattle.slips.specs.declared.Slip.{Slip}

unfoldable pub from : ℕ → List ℕ → List ℕ
from zero t = t
from (suc n) t = from n (drop (run (is_not 10) t + 1) t)

unfoldable pub line_after : ℕ → List ℕ → List ℕ
line_after n t = take (run (is_not 10) (from n t)) (from n t)

-- Only where a word is wrong may it have been meant otherwise.
unfoldable pub slip_for : List ℕ → Fault → Option Slip
slip_for l NoStrip = None
slip_for l SecondStrip = None
slip_for l UnknownWord = of_line (spoken l) 0
slip_for l (NotNumbers n) = of_line (spoken l) n
slip_for l LongDrawing = None
slip_for l LongText = None
