-- The numbers that a caller may get back, and the refusals that several calls share.
--   window_off .. bad_drawing   the numbers of the table of refusals
--   refuse n k     refusal n at place k;  none: nothing is refused
--   first rs       of the refusals rs the first that applies. A call lists its refusals in the order in which they are tested, which is by
--                  rising number but for the rules' exceptions
--   off_table n zs  n at the first number of zs that is off the table, if one is
--   no_area w       3 where left >= right or bottom >= top
--   bad_strokes zs  5 where a list is not a multiple of four numbers or has more than 4,096 strokes
--   window_refusal, stroke_refusal, strokes_refusal   what a call refuses in a window, a stroke, a list of strokes
--   room_refusal need room   8 with the numbers needed, where an output of `room` numbers is too short
--   tested r       what a test says that refuses by r: the error r where r applies, else Ok
use Rattle.std.specs.Prelude.{◌&&◌, List, [], ◌∷◌, ℕ, ◌*◌, ◌%◌, eqb, leb, ltb, ℤ, length, ⊤}
use Rattle.std.specs.declared.result.Result.{Result}
use Rattle.std.specs.declared.result.Result.TheVariants.{Ok, Err}
use Rattle.std.specs.Int.Signed.{lt_z}
use Rattle.whole.specs.Choice.{when◌then◌else◌}
use Rattle.grid.specs.Table.{first_off, sides, ends}
use Rattle.grid.specs.declared.Window.{Window}
use Rattle.grid.specs.declared.Stroke.{Stroke}
use Rattle.grid.specs.declared.Refusal.{Refusal}

-- No.                     given exactly when                                                     place
abbrev pub window_off : ℕ
window_off = 2  --          a window number is off the grid range                                  index of the first

abbrev pub no_window : ℕ
no_window = 3  --           left >= right or bottom >= top; a corner window of odd length,         0
    --                     of wrong count, or not strictly convex

abbrev pub no_order : ℕ
no_order = 4  --            side order above 23                                                    0

abbrev pub wrong_length : ℕ
wrong_length = 5  --        stroke list not a multiple of four or too long;                        0
    --                     outline of odd length or wrong count

abbrev pub number_off : ℕ
number_off = 6  --          a stroke or outline number is off the grid range                       index of the first

abbrev pub not_convex : ℕ
not_convex = 7  --          outline not strictly convex counterclockwise                           0

abbrev pub no_room : ℕ
no_room = 8  --             output shorter than needed                                             numbers needed

abbrev pub not_a_number : ℕ
not_a_number = 9  --         a millimetre number is NaN                                             index

abbrev pub too_far : ℕ
too_far = 10  --            a millimetre number is infinite or falls off the range                 index

abbrev pub bad_drawing : ℕ
bad_drawing = 11  --        any fault in a drawing file                                            0

abbrev pub refuse : ℕ → ℕ → Refusal
refuse n k = record { number = n; place = k }

abbrev pub none : Refusal
none = refuse 0 0

unfoldable pub first : List Refusal → Refusal
first [] = none
first (r ∷ rs) = when eqb r.number 0 then first rs else r

unfoldable pub off_table : ℕ → List ℤ → Refusal
off_table n zs = when ltb (first_off zs) (length zs) then refuse n (first_off zs) else none

unfoldable pub no_area : Window → Refusal
no_area w = when lt_z w.left w.right && lt_z w.bottom w.top then none else refuse no_window 0

abbrev pub most_strokes : ℕ
most_strokes = 4096

unfoldable pub bad_strokes : List ℤ → Refusal
bad_strokes zs = when eqb (length zs % 4) 0 && leb (length zs) (4 * most_strokes) then none else refuse wrong_length 0

unfoldable pub window_refusal : Window → Refusal
window_refusal w = first (off_table window_off (sides w) ∷ no_area w ∷ [])

unfoldable pub stroke_refusal : Stroke → Refusal
stroke_refusal s = off_table number_off (ends s)

unfoldable pub strokes_refusal : List ℤ → Refusal
strokes_refusal zs = first (bad_strokes zs ∷ off_table number_off zs ∷ [])

unfoldable pub room_refusal : ℕ → ℕ → Refusal
room_refusal need room = when leb need room then none else refuse no_room need

unfoldable pub tested : Refusal → Result ⊤ Refusal
tested r = when eqb r.number 0 then Ok tt else Err r
