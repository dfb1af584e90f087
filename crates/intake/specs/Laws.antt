-- Laws of the intake, proved in proofs/Theorems.antt: each call has one answer, times 32 and over 32 are exact in f32,
-- and the table's numbers go to millimetres and come back the same.
--   OnePointAnswer, OneWindowAnswer, OneBackAnswer   two answers that are right for one input are equal
--   thirty_two            the f32 32.0
--   ExactTimes s m e y   for the number x = fin s m e, y is exactly 32 x where that is below 2 ^ 128 in size; from
--                        there on y is infinite, and x is refused by 10
--   TimesThirtyTwoExact  the f32 product of any f32 and 32.0 is such a y: it is exact unless it overflows
--   OverThirtyTwoExact   the f32 quotient of any number g of the table and 32.0 is exactly g / 32
--   Back g a             g is a number of the table, and a what `to_millimetres` answers for it
--   PointThereAndBack    of a point, by `to_millimetres` for each number and `point_to_grid`
--   WindowThereAndBack   of a window, by `to_millimetres` for each number and `window_to_grid`
use Rattle.std.specs.Prelude.{◌≡◌, Bool, true, false, ℕ, ◌*◌, ◌^◌, ◌≤◌, ◌<◌, T, ℤ, pos, Float}
use Rattle.std.specs.Float.{inf, fin, binary32}
use Rattle.std.specs.Float.Ieee.{fits, up, down, mul, div, of_int}
use Rattle.std.specs.Float.Ieee.Exact.{HasValue}
use Rattle.grid.specs.Refusals.{too_far}
use Rattle.grid.specs.Table.{on_table}
use Rattle.grid.specs.declared.Window.{Window}
use Rattle.intake.specs.Millimetres.{faulty, Taken, PointToGrid, WindowToGrid, InMillimetres, ToMillimetres}
use Rattle.intake.specs.declared.PointMm.{PointMm}
use Rattle.intake.specs.declared.WindowMm.{WindowMm}
use Rattle.intake.specs.declared.PointAnswer.{PointAnswer}
use Rattle.intake.specs.declared.WindowAnswer.{WindowAnswer}
use Rattle.intake.specs.declared.BackAnswer.{BackAnswer}

-- ---- one answer

abbrev pub OnePointAnswer : Type 0
OnePointAnswer = (p : PointMm) (a b : PointAnswer) → PointToGrid p a → PointToGrid p b → a ≡ b

abbrev pub OneWindowAnswer : Type 0
OneWindowAnswer = (w : WindowMm) (a b : WindowAnswer) → WindowToGrid w a → WindowToGrid w b → a ≡ b

abbrev pub OneBackAnswer : Type 0
OneBackAnswer = (g : ℤ) (a b : BackAnswer) → ToMillimetres g a → ToMillimetres g b → a ≡ b

-- ---- the machine's f32 arithmetic

abbrev pub thirty_two : Float
thirty_two = fin false 1 (pos 5)

pub record ExactTimes (s : Bool) (m : ℕ) (e : ℤ) (y : Float) : Type 0 where
  pub exact : m * up e * 32 < 2 ^ 128 * down e → HasValue y s (m * up e * 32) (down e)
  pub infinite : 2 ^ 128 * down e ≤ m * up e * 32 → y ≡ inf s
  pub refused : 2 ^ 128 * down e ≤ m * up e * 32 → Taken (fin s m e) (faulty too_far)

abbrev pub TimesThirtyTwoExact : Type 0
TimesThirtyTwoExact = (s : Bool) (m : ℕ) (e : ℤ) → T (fits binary32 (fin s m e))
    → ExactTimes s m e (mul binary32 (fin s m e) thirty_two)

abbrev pub OverThirtyTwoExact : Type 0
OverThirtyTwoExact = (g : ℤ) → on_table g ≡ true → InMillimetres g (div binary32 (of_int binary32 g) thirty_two)

-- ---- there and back

pub record Back (g : ℤ) (a : BackAnswer) : Type 0 where
  pub on : on_table g ≡ true
  pub answered : ToMillimetres g a

abbrev pub PointThereAndBack : Type 0
PointThereAndBack = (x y : ℤ) (a b : BackAnswer) (p : PointAnswer) → Back x a → Back y b
    → PointToGrid (record { x = a.mm; y = b.mm }) p → p ≡ record { number = 0; place = 0; x = x; y = y }

abbrev pub WindowThereAndBack : Type 0
WindowThereAndBack = (w : Window) (l b r t : BackAnswer) (p : WindowAnswer)
    → Back w.left l → Back w.bottom b → Back w.right r → Back w.top t
    → WindowToGrid (record { left = l.mm; bottom = b.mm; right = r.mm; top = t.mm }) p
    → p ≡ record { number = 0; place = 0; window = w }
