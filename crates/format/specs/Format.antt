-- The bytes of a drawing file: a head with the count of bytes, the version and the window, then records.
-- A function of src/ gives what the definition of its name says: `head_fault` gives `head_fault`, and so on.
--   number_at bs at   the number in the four bytes from `at` on, big-endian
--   float_at bs at    the f32 in the four bytes from `at` on
--   window_at bs      the window of the head, in millimetres
--   head_size         21, the place of the first record
--   head_fault bs     the place of the first fault before the numbers of the window: 0 the count or the size of the file, 4 the version, 5 a cut window;
--                    head_size, if there is none
--   record_at bs at   what stands at `at`: a step and the place after its record; `Bad`, a cut record or an unknown first byte; `End`, no byte
use Rattle.std.specs.Prelude.{not, ◌||◌, List, ℕ, ◌+◌, ◌*◌, eqb, leb, ltb, Float, length, get_or}
use Rattle.std.specs.Float.{binary32}
use Rattle.std.specs.Float.Ieee.{of_bits}
use Rattle.whole.specs.Choice.{when◌then◌else◌}
use Rattle.intake.specs.declared.WindowMm.{WindowMm}
use Rattle.format.specs.declared.Step.TheVariants as Step
use Rattle.format.specs.declared.Found.{Found}

-- ---- numbers

abbrev pub number32 : ℕ → ℕ → ℕ → ℕ → ℕ
number32 a b c d = ((a * 256 + b) * 256 + c) * 256 + d

unfoldable pub number_at : List ℕ → ℕ → ℕ
number_at bs at = number32 (get_or bs at 0) (get_or bs (at + 1) 0) (get_or bs (at + 2) 0) (get_or bs (at + 3) 0)

unfoldable pub float_at : List ℕ → ℕ → Float
float_at bs at = of_bits binary32 (number_at bs at)

-- ---- the head

abbrev pub most_bytes : ℕ
most_bytes = 65536

abbrev pub head_size : ℕ
head_size = 21

unfoldable pub head_fault : List ℕ → ℕ
head_fault bs =
    when not (eqb (number_at bs 0 + 4) (length bs)) || ltb most_bytes (length bs) then 0
    else when not (eqb (get_or bs 4 0) 1) then 4
    else when ltb (length bs) head_size then 5
    else head_size

abbrev pub window_at : List ℕ → WindowMm
window_at bs = record { left = float_at bs 5; bottom = float_at bs 9; right = float_at bs 13; top = float_at bs 17 }

-- ---- records

unfoldable pub record_at : List ℕ → ℕ → Found
record_at bs at =
    when leb (length bs) at then Found.End
    else when eqb (get_or bs at 0) 0x5A then Found.Record Step.Close (at + 1)
    else when ltb (length bs) (at + 9) then Found.Bad
    else when eqb (get_or bs at 0) 0x4D then Found.Record (Step.Move (float_at bs (at + 1)) (float_at bs (at + 5))) (at + 9)
    else when eqb (get_or bs at 0) 0x4C then Found.Record (Step.Line (float_at bs (at + 1)) (float_at bs (at + 5))) (at + 9)
    else Found.Bad
