-- The line that says why a line of the pen's text is not taken.
--   expectation n     what is expected of a line whose word asks for n numbers
--   reason f          why a line is not taken
--   remark s f        what is said of it: its slip, or the reason where it shows none
--   complaint t n f   the line that says why the line n of the text t, counted from 1, is not taken
use Rattle.std.specs.Prelude.{Option, Some, None, List, ◌++◌, ℕ, ◌-◌, eqb}
use Rattle.whole.specs.Choice.{when◌then◌else◌}
use Rattle.text.specs.Pages.{ascii, natural}
use Rattle.pen_line.specs.declared.Fault.{Fault}
use Rattle.pen_line.specs.declared.Fault.TheVariants.{NoStrip, SecondStrip, UnknownWord, NotNumbers, LongDrawing, LongText}
use Rattle.slips.specs.Texts.{line_after, slip_for}
use Rattle.slips.specs.declared.Slip.{Slip}
use Rattle.slips.specs.declared.Slip.TheVariants.{Mark, Unseen, Capital, Comma, PointLast, PointFirst, Plus, Exponent}

unfoldable pub expectation : ℕ → List ℕ
expectation n =
    when eqb n 0 then ascii "expected nothing after close"
    else when eqb n 2 then ascii "expected two numbers of up to 9 digits"
    else ascii "expected four numbers of up to 9 digits"

unfoldable pub reason : Fault → List ℕ
reason NoStrip = ascii "expected strip first"
reason SecondStrip = ascii "a second strip"
reason UnknownWord = ascii "expected strip, move, line or close"
reason (NotNumbers n) = expectation n
reason LongDrawing = ascii "the drawing is longer than 65,536 bytes"
reason LongText = ascii "the text is longer than 524,288 bytes"

unfoldable pub remark : Option Slip → Fault → List ℕ
remark (Some Mark) f = ascii "a byte-order mark before the first word; save the file without it"
remark (Some Unseen) f = ascii "a tab or a carriage return; words are parted by spaces"
remark (Some Capital) f = ascii "a capital letter; the words are strip, move, line and close"
remark (Some Comma) f = ascii "a comma in a number; write a point, or a space between two numbers"
remark (Some PointLast) f = ascii "a point with no digit after it; leave it out"
remark (Some PointFirst) f = ascii "a point with no digit before it; write a 0 there"
remark (Some Plus) f = ascii "a plus sign; leave it out"
remark (Some Exponent) f = ascii "an e in a number; write out its digits"
remark None f = reason f

unfoldable pub complaint : List ℕ → ℕ → Fault → List ℕ
complaint t n f = ascii "line " ++ natural n ++ ascii ": " ++ remark (slip_for (line_after (n - 1) t) f) f ++ ascii "\n"
