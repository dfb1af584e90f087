-- The drawing that a text tells, or the first of its lines that is not taken.
--   most_text             the longest text that is taken, 524,288 bytes; a line end may follow it
--   line_end t i          where the line of the text t that starts at the place i ends
--   line_at t i           what that line says, without its comment
--   LineWithin t i       a line of t starts at the place i, and ends within the longest text
--   Told t room n i bs   the lines of t before its line n, which starts at the place i, are taken, in a page that has
--                        room for so many bytes, and bs are the bytes that they add
--   EndsAs t page i bs s   s is what becomes of t at the place i, after the bytes bs: the text is over, and the page
--                        starts with its drawing, the count of bytes and then bs; or the line there is not taken, and
--                        s says why
--   Becomes t page r     the promise of `draw`: r is what became of the text t, and at which line; the page is that
--                        after the call
use Rattle.std.specs.Prelude.{Result, Ok, Err, ◌≡◌, List, [], ◌++◌, ℕ, ◌+◌, ◌-◌, ◌<◌, ◌≤◌, length, take, drop}
use Rattle.text.specs.Pages.{big_endian}
use Rattle.text.specs.Runs.{run, is_not}
use Rattle.pen_line.specs.Lines.{spoken}
use Rattle.pen_line.specs.Records.{drawing_room, LineAdds, LineRefused}
use Rattle.pen_line.specs.declared.Fault.{Fault}
use Rattle.pen_line.specs.declared.Fault.TheVariants.{NoStrip, LongText}
use Rattle.pen.specs.declared.Outcome.{Outcome}

abbrev pub most_text : ℕ
most_text = 524288

abbrev pub line_end : List ℕ → ℕ → ℕ
line_end t i = i + run (is_not 10) (drop i t)

abbrev pub line_at : List ℕ → ℕ → List ℕ
line_at t i = spoken (take (line_end t i - i) (drop i t))

abbrev pub LineWithin : List ℕ → ℕ → Type 0
LineWithin t i = (i < length t) × (line_end t i ≤ most_text)

-- Both limits are asked of every line, be it only a comment: a line that passes one is not passed over.
pub data Told (t : List ℕ) (room : ℕ) : ℕ → ℕ → List ℕ → Type 0 where
  start : Told t room 1 0 []
  next : {n i : ℕ} {bs added : List ℕ} → Told t room n i bs → LineWithin t i
      → LineAdds (line_at t i) (length bs) room added → Told t room (n + 1) (line_end t i + 1) (bs ++ added)

-- Of the page only the drawing is told: nothing else of it is ever written out.
pub data EndsAs (t page : List ℕ) (i : ℕ) (bs : List ℕ) : Result ℕ Fault → Type 0 where
  drawn : {at : ℕ} → length t ≤ i → (length bs ≡ 0 → ⊥) → at ≤ length page → take at page ≡ big_endian (length bs) ++ bs
      → EndsAs t page i bs (Ok at)
  no_line : length t ≤ i → length bs ≡ 0 → EndsAs t page i bs (Err NoStrip)
  wrong_line : {f : Fault} → LineWithin t i → LineRefused (line_at t i) (length bs) (drawing_room page) f
      → EndsAs t page i bs (Err f)
  long_text : i < length t → most_text < line_end t i → EndsAs t page i bs (Err LongText)

-- The text ends at the first line that is not taken, so that the faults of later ones are no outcome.
pub record Becomes (t page : List ℕ) (r : Outcome) : Type 0 where
  pub place : ℕ
  pub bytes : List ℕ
  pub told : Told t (drawing_room page) r.line place bytes
  pub ends : EndsAs t page place bytes r.step
