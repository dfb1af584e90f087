-- What the bookkeeper is answered where he books a strip or releases a slot. A row is the line of a strip in its slot.
--   booking_text renter w b   the answer where booking the strip w says b: its row in the slot that it has got, or the refusal
--   BooksOnGrid renter w before after text number   the renter asks for the strip w, which is on the grid, in the table `before`: the answer is this
--                            text and this number, 0 where the strip is booked, and the table is then `after`
--   BooksAs renter mm before after text number   the same of a strip in millimetres; where the intake refuses one of its numbers, that is the answer,
--                            and the table is as it was
--   held_in zs k              the strip in the slot k of a table
--   release_text renter z zs b   the answer where releasing the slot z of the table zs says b: the row of the strip that was in it, or the refusal
--   ReleasesAs renter z before after text number   the slot z is released in the table `before`: the answer and the table after it
--   SlotOf renter z k        k is a slot of the table, namely the renter's slot z where he has one of that number
use Rattle.std.specs.Prelude.{◌≡◌, true, List, ℕ, ◌+◌, ◌<◌, eqb, ℤ, pos, nat_abs, ◌≤ℤ◌}
use Rattle.whole.specs.Choice.{when◌then◌else◌}
use Rattle.grid.specs.declared.Window.{Window}
use Rattle.intake.specs.Millimetres.{WindowToGrid}
use Rattle.intake.specs.declared.WindowMm.{WindowMm}
use Rattle.intake.specs.declared.WindowAnswer.{WindowAnswer}
use Rattle.slots.specs.Slots.{slot_at}
use Rattle.strip_book.specs.Books.{BookStrip, ReleaseSlot}
use Rattle.strip_book.specs.Renters.{is_renter, first_slot}
use Rattle.strip_book.specs.declared.BookingAnswer.{BookingAnswer}
use Rattle.strip_book.specs.declared.ReleaseAnswer.{ReleaseAnswer}
use Rattle.strip_lines.specs.Lines.{row_text}
use Rattle.answers.specs.Answers.{refusal_text, strip_refusal_text, Exactly}

-- ---- a strip is booked

unfoldable pub booking_text : ℤ → Window → BookingAnswer → List ℕ
booking_text renter w b = when eqb b.number 0 then row_text (first_slot renter + nat_abs b.slot) w else strip_refusal_text b.number b.place w

pub record BooksOnGrid (renter : ℤ) (w : Window) (before after : List ℤ) (text : List ℕ) (number : ℕ) : Type 0 where
  pub answer : BookingAnswer
  pub booked : BookStrip renter w answer before after
  pub says : Exactly (booking_text renter w answer) answer.number text number

pub record BooksAs (renter : ℤ) (mm : WindowMm) (before after : List ℤ) (text : List ℕ) (number : ℕ) : Type 0 where
  pub taken : WindowAnswer
  pub grid : WindowToGrid mm taken
  pub refused : (taken.number ≡ 0 → ⊥) → (after ≡ before) × Exactly (refusal_text taken.number taken.place) taken.number text number
  pub done : taken.number ≡ 0 → BooksOnGrid renter taken.window before after text number

-- ---- a slot is released

abbrev pub held_in : List ℤ → ℕ → Window
held_in zs k = (slot_at zs k).strip

unfoldable pub release_text : ℤ → ℤ → List ℤ → ReleaseAnswer → List ℕ
release_text renter z zs b =
    let k = first_slot renter + nat_abs z in when eqb b.number 0 then row_text k (held_in zs k) else refusal_text b.number b.place

pub record ReleasesAs (renter z : ℤ) (before after : List ℤ) (text : List ℕ) (number : ℕ) : Type 0 where
  pub answer : ReleaseAnswer
  pub released : ReleaseSlot renter z answer before after
  pub says : Exactly (release_text renter z before answer) answer.number text number

-- ---- of a part of a call

pub record SlotOf (renter z : ℤ) (k : ℕ) : Type 0 where
  pub among : k < 64
  pub own : is_renter renter ≡ true → pos 0 ≤ℤ z → nat_abs z < 32 → k ≡ first_slot renter + nat_abs z
