-- What a drawing's bytes mean, and the call that reads them.
--   Drawing              a fault and its place, the byte where the first one shows; or a window and strokes in order
--   in_front s d          d with the stroke s in front
--   onward w pen rest t  what the records mean from a turn t on, where `rest` is what they mean after it
--   walk intake bs w n at pen   what n records from `at` on mean in a drawing with the window w, with the pen as it is there
--   windowed intake bs a what the records mean after a window that the intake answered by a: a refused one is a fault at that number's first byte
--   meaning intake bs    what the bytes mean. They have no more records than bytes
--   Means bs d           d is what the bytes mean
--   numbers_of ss, numbers d   the strokes' numbers, four each
--   drawing_refusal d     what is refused before the output's room is looked at: 11 is decided first, then 3
--   refused r            the answer that refuses by r: every other field is 0
--   told d               the answer for d where nothing but a fault is refused
--   surveyed d           its window and how many strokes it has, or the refusal of its fault
--   answered r           a window and how many strokes, or a refusal, as an answer
--   ReadsAs d a before after   the call on bytes that mean d: its answer a, and its output before and after
--   Drawable bs room     the bytes mean a drawing whose strokes have room in an output of so many numbers
--   ReadDrawing bs a before after   what `drawing::read_drawing` promises on the bytes bs: its answer a,
--                                   and its output before and after
use Rattle.std.specs.Prelude.{◌≡◌, List, [], ◌∷◌, ◌++◌, ℕ, zero, suc, ◌+◌, ◌*◌, ◌≤◌, eqb, ℤ, pos, length, Result, Ok, Err}
use Rattle.whole.specs.Choice.{when◌then◌else◌}
use Rattle.grid.specs.Table.{ends}
use Rattle.grid.specs.Refusals.{refuse, no_area, bad_drawing}
use Rattle.grid.specs.Calls.{Lent, GivenBy}
use Rattle.grid.specs.declared.Window.{Window}
use Rattle.grid.specs.declared.Stroke.{Stroke}
use Rattle.grid.specs.declared.Refusal.{Refusal}
use Rattle.intake.specs.declared.WindowAnswer.{WindowAnswer}
use Rattle.drawing.specs.Intake.{Intake, ByIntake}
use Rattle.format.specs.Format.{head_size, head_fault, window_at}
use Rattle.drawing.specs.Pen.{fresh, turn_at, drawn_stroke}
use Rattle.drawing.specs.declared.pen.Pen.{Pen}
use Rattle.drawing.specs.declared.pen.Turn.{Turn}
use Rattle.drawing.specs.declared.Surveyed.{Surveyed}
use Rattle.drawing.specs.declared.DrawingAnswer.{DrawingAnswer}

pub data Drawing : Type 0 where
  fault : ℕ → Drawing
  drawn : Window → List Stroke → Drawing

-- ---- the records in order

abbrev pub in_front : Stroke → Drawing → Drawing
in_front s (fault place) = fault place
in_front s (drawn w ss) = drawn w (s ∷ ss)

abbrev pub onward : Window → Pen → (ℕ → Pen → Drawing) → Turn → Drawing
onward w pen rest Turn.End = drawn w []
onward w pen rest (Turn.Fault place) = fault place
onward w pen rest (Turn.Goes to next) = rest next to
onward w pen rest (Turn.Draws to next) = in_front (drawn_stroke pen to) (rest next to)

unfoldable pub walk : Intake → List ℕ → Window → ℕ → ℕ → Pen → Drawing
walk intake bs w zero at pen = drawn w []
walk intake bs w (suc n) at pen = onward w pen (walk intake bs w n) (turn_at intake bs at pen)

-- ---- the whole file

abbrev pub windowed : Intake → List ℕ → WindowAnswer → Drawing
windowed intake bs a = when eqb a.number 0 then walk intake bs a.window (length bs) head_size fresh else fault (5 + 4 * a.place)

unfoldable pub meaning : Intake → List ℕ → Drawing
meaning intake bs = when eqb (head_fault bs) head_size then windowed intake bs (intake.window (window_at bs)) else fault (head_fault bs)

abbrev pub Means : List ℕ → Drawing → Type 0
Means bs d = ByIntake (λ intake. meaning intake bs) d

-- ---- the call

unfoldable pub numbers_of : List Stroke → List ℤ
numbers_of [] = []
numbers_of (s ∷ ss) = ends s ++ numbers_of ss

abbrev pub numbers : Drawing → List ℤ
numbers (fault place) = []
numbers (drawn w ss) = numbers_of ss

abbrev pub drawing_refusal : Drawing → Refusal
drawing_refusal (fault place) = refuse bad_drawing 0
drawing_refusal (drawn w ss) = no_area w

abbrev pub refused : Refusal → DrawingAnswer
refused r = record { number = r.number; place = r.place; window = record { left = pos 0; bottom = pos 0; right = pos 0; top = pos 0 }; count = 0 }

abbrev pub told : Drawing → DrawingAnswer
told (fault place) = refused (refuse bad_drawing 0)
told (drawn w ss) = record { number = 0; place = 0; window = w; count = length ss }

abbrev pub surveyed : Drawing → Result Surveyed Refusal
surveyed (fault place) = Err (refuse bad_drawing 0)
surveyed (drawn w ss) = Ok (record { window = w; strokes = length ss })

abbrev pub answered : Result Surveyed Refusal → DrawingAnswer
answered (Ok s) = record { number = 0; place = 0; window = s.window; count = s.strokes }
answered (Err r) = refused r

abbrev pub ReadsAs : Drawing → DrawingAnswer → List ℤ → List ℤ → Type 0
ReadsAs d = Lent refused (drawing_refusal d) (GivenBy refused (λ _. told d) (λ xs. xs ≡ numbers d))

pub record Drawable (bs : List ℕ) (room : ℕ) : Type 0 where
  pub window : Window
  pub strokes : List Stroke
  pub means : Means bs (drawn window strokes)
  pub has_room : 4 * length strokes ≤ room

-- The meaning comes first and the call second: what bytes mean needs no output, and programs rest on that alone.
pub record ReadDrawing (bs : List ℕ) (a : DrawingAnswer) (before after : List ℤ) : Type 0 where
  pub drawing : Drawing
  pub means : Means bs drawing
  pub call : ReadsAs drawing a before after
