-- Millimetres to the grid of 1/32 mm and back.
-- A float is `nan`, `inf s` or `fin s m e`, which is m * 2 ^ e, negative where s is true; 2 ^ e is the fraction up e / down e (`lib.Ieee`).
-- `HasValue x s n d` says that x is finite, has the sign s and is n / d in size; `fits binary32 x` that x is an f32.
--   signed s n          n with a sign: negative where s is true
--   GridNumber x g      x is finite, and g is 32 x rounded to the nearest whole number, halves to the even one
--   faulty n            what becomes of a number that is refused with n
--   accepted g          what becomes of a number that has the grid number g
--   Taken x o           o is what becomes of the millimetre number x
--   placed place o      the same with the place of the number, where it is refused
--   TakenAt place x r   r is what becomes of the millimetre number x at its place
--   grid_point x y      the point whose numbers became x and y, or what is refused in it: the first faulty one decides, with its index as the place
--   PointOnGrid p r     what `intake::point_on_grid` promises: r is the point of the grid for the point p, or its refusal
--   refused_point r     the answer that refuses by r: every other field is 0
--   told_point r        a point or a refusal as an answer
--   point_answer x y    the answer for a point whose numbers became x and y
--   PointToGrid p a     what `intake::point_to_grid` promises: a is the answer for the point p
--   grid_window, WindowOnGrid, refused_window, told_window, window_answer   the same for a window
--   WindowToGrid w a    what `intake::window_to_grid` promises: a is the answer for the window w
--   InMillimetres g x   x is the f32 that is exactly g / 32
--   ToMillimetres g a   what `intake::to_millimetres` promises: a is the answer for the way back from g
use Rattle.std.specs.Prelude.{◌≡◌, Bool, true, false, not, ℕ, ◌*◌, T, ℤ, pos, neg_ℤ, nat_abs, Float, Result, Ok, Err}
use Rattle.std.specs.Int.Signed.{non_neg}
use Rattle.std.specs.Float.{nan, inf, fin, binary32}
use Rattle.std.specs.Float.Ieee.{fits, up, down}
use Rattle.std.specs.Float.Ieee.Exact.{HasValue}
use Rattle.whole.specs.Choice.{when◌then◌else◌}
use Rattle.whole.specs.Rounding.{Rounds, to_even}
use Rattle.grid.specs.Table.{on_table}
use Rattle.grid.specs.Refusals.{refuse, number_off, not_a_number, too_far}
use Rattle.grid.specs.declared.Refusal.{Refusal}
use Rattle.grid.specs.declared.Window.{Window}
use Rattle.intake.specs.declared.Point.{Point}
use Rattle.intake.specs.declared.PointMm.{PointMm}
use Rattle.intake.specs.declared.WindowMm.{WindowMm}
use Rattle.intake.specs.declared.PointAnswer.{PointAnswer}
use Rattle.intake.specs.declared.WindowAnswer.{WindowAnswer}
use Rattle.intake.specs.declared.BackAnswer.{BackAnswer}

-- ---- one number

abbrev pub signed : Bool → ℕ → ℤ
signed s n = when s then neg_ℤ (pos n) else pos n

pub data GridNumber : Float → ℤ → Type 0 where
  nearest : {g : ℤ} (s : Bool) (m : ℕ) (e : ℤ) → Rounds to_even (signed s (m * up e * 32)) (pos (down e)) g → GridNumber (fin s m e) g

abbrev pub faulty : ℕ → Result ℤ ℕ
faulty n = Err n

abbrev pub accepted : ℤ → Result ℤ ℕ
accepted g = Ok g

pub data Taken : Float → Result ℤ ℕ → Type 0 where
  no_number : Taken nan (faulty not_a_number)
  infinite : (s : Bool) → Taken (inf s) (faulty too_far)
  off_range : {x : Float} {g : ℤ} → GridNumber x g → on_table g ≡ false → Taken x (faulty too_far)
  on_range : {x : Float} {g : ℤ} → GridNumber x g → on_table g ≡ true → Taken x (accepted g)

abbrev pub placed : ℕ → Result ℤ ℕ → Result ℤ Refusal
placed place (Ok g) = Ok g
placed place (Err n) = Err (refuse n place)

pub record TakenAt (place : ℕ) (x : Float) (r : Result ℤ Refusal) : Type 0 where
  pub outcome : Result ℤ ℕ
  pub taken : Taken x outcome
  pub is : r ≡ placed place outcome

-- ---- points and windows

unfoldable pub grid_point : Result ℤ ℕ → Result ℤ ℕ → Result Point Refusal
grid_point (Ok x) (Ok y) = Ok (record { x = x; y = y })
grid_point (Ok x) (Err n) = Err (refuse n 1)
grid_point (Err n) y = Err (refuse n 0)

-- Each number is taken by itself; the result is a function of what they became, in which the first faulty one decides.
pub record PointOnGrid (p : PointMm) (r : Result Point Refusal) : Type 0 where
  pub x : Result ℤ ℕ
  pub y : Result ℤ ℕ
  pub x_taken : Taken p.x x
  pub y_taken : Taken p.y y
  pub is : r ≡ grid_point x y

abbrev pub refused_point : Refusal → PointAnswer
refused_point r = record { number = r.number; place = r.place; x = pos 0; y = pos 0 }

abbrev pub told_point : Result Point Refusal → PointAnswer
told_point (Ok p) = record { number = 0; place = 0; x = p.x; y = p.y }
told_point (Err r) = refused_point r

abbrev pub point_answer : Result ℤ ℕ → Result ℤ ℕ → PointAnswer
point_answer x y = told_point (grid_point x y)

-- The same as an answer.
pub record PointToGrid (p : PointMm) (a : PointAnswer) : Type 0 where
  pub x : Result ℤ ℕ
  pub y : Result ℤ ℕ
  pub x_taken : Taken p.x x
  pub y_taken : Taken p.y y
  pub answer : a ≡ point_answer x y

unfoldable pub grid_window : Result ℤ ℕ → Result ℤ ℕ → Result ℤ ℕ → Result ℤ ℕ → Result Window Refusal
grid_window (Ok left) (Ok bottom) (Ok right) (Ok top) = Ok (record { left = left; bottom = bottom; right = right; top = top })
grid_window (Ok left) (Ok bottom) (Ok right) (Err n) = Err (refuse n 3)
grid_window (Ok left) (Ok bottom) (Err n) top = Err (refuse n 2)
grid_window (Ok left) (Err n) right top = Err (refuse n 1)
grid_window (Err n) bottom right top = Err (refuse n 0)

-- As for a point, with four numbers. Nothing is said of the area: that is the clipping call's.
pub record WindowOnGrid (w : WindowMm) (r : Result Window Refusal) : Type 0 where
  pub left : Result ℤ ℕ
  pub bottom : Result ℤ ℕ
  pub right : Result ℤ ℕ
  pub top : Result ℤ ℕ
  pub left_taken : Taken w.left left
  pub bottom_taken : Taken w.bottom bottom
  pub right_taken : Taken w.right right
  pub top_taken : Taken w.top top
  pub is : r ≡ grid_window left bottom right top

abbrev pub refused_window : Refusal → WindowAnswer
refused_window r = record { number = r.number; place = r.place; window = record { left = pos 0; bottom = pos 0; right = pos 0; top = pos 0 } }

abbrev pub told_window : Result Window Refusal → WindowAnswer
told_window (Ok w) = record { number = 0; place = 0; window = w }
told_window (Err r) = refused_window r

abbrev pub window_answer : Result ℤ ℕ → Result ℤ ℕ → Result ℤ ℕ → Result ℤ ℕ → WindowAnswer
window_answer left bottom right top = told_window (grid_window left bottom right top)

pub record WindowToGrid (w : WindowMm) (a : WindowAnswer) : Type 0 where
  pub left : Result ℤ ℕ
  pub bottom : Result ℤ ℕ
  pub right : Result ℤ ℕ
  pub top : Result ℤ ℕ
  pub left_taken : Taken w.left left
  pub bottom_taken : Taken w.bottom bottom
  pub right_taken : Taken w.right right
  pub top_taken : Taken w.top top
  pub answer : a ≡ window_answer left bottom right top

-- ---- and back

pub record InMillimetres (g : ℤ) (x : Float) : Type 0 where
  pub single : T (fits binary32 x)
  pub exact : HasValue x (not (non_neg g)) (nat_abs g) 32

-- No rounding is named, as there is none: g / 32 is an f32, and its exact value is what is asked for.
pub data ToMillimetres : ℤ → BackAnswer → Type 0 where
  done : {g : ℤ} {x : Float} → on_table g ≡ true → InMillimetres g x → ToMillimetres g (record { number = 0; place = 0; mm = x })
  refused : {g : ℤ} → on_table g ≡ false → ToMillimetres g (record { number = number_off; place = 0; mm = fin false 0 (pos 0) })
