-- What the promise of `draw` comes to, for a reader who asks whether it leaves anything open.
--   OneOutcome   what becomes of a text is one thing: two outcomes in pages of one length are equal, and where there
--                is a drawing, so are its bytes
--   SameLine     the line in which `complain` looks for a slip, found by its number, is the one at which the text ended
use Rattle.std.specs.Prelude.{Ok, ◌≡◌, List, ℕ, ◌-◌, length, take}
use Rattle.pen_line.specs.Lines.{spoken}
use Rattle.slips.specs.Texts.{line_after}
use Rattle.pen.specs.Texts.{line_at, Told, Becomes}
use Rattle.pen.specs.declared.Outcome.{Outcome}

-- Two pages, since the promise leaves open what stands behind the drawing.
abbrev pub OneOutcome : Type 0
OneOutcome =
    (t page page' : List ℕ) (a b : Outcome) → length page ≡ length page' → Becomes t page a → Becomes t page' b
    → (a ≡ b) × ((at : ℕ) → a.step ≡ Ok at → take at page ≡ take at page')

abbrev pub SameLine : Type 0
SameLine = (t bs : List ℕ) (room n i : ℕ) → Told t room n i bs → line_at t i ≡ spoken (line_after (n - 1) t)
