-- What the replies to mm2, mm4 and back say.
--   point_fields a    N P x y;  window_fields a: N P l b r t;  back_fields a: N P H
--   single_at text    the f32 that the first nine bytes of the text are, a space and eight digits
--   Singles text xs  the text is the f32s xs, each a word with a space before it
--   AsksPoint text p, AsksWindow text w   the text is the numbers of the point, or of the window
--   AsksBack text g  the text is the grid number g after one byte, which is the space that ends the word
--   Mm2, Mm4, BackLine text r   r is the reply to the text after the word
use Rattle.std.specs.Prelude.{◌≡◌, List, [], ◌∷◌, ◌++◌, ℕ, eqb, ℤ, Float, Option, None, Some, take, drop, get_or}
use Rattle.std.specs.Float.{binary32}
use Rattle.std.specs.Float.Ieee.{to_bits}
use Rattle.whole.specs.Choice.{when◌then◌else◌}
use Rattle.intake.specs.Millimetres.{PointToGrid, WindowToGrid, ToMillimetres}
use Rattle.intake.specs.declared.BackAnswer.{BackAnswer}
use Rattle.intake.specs.declared.PointAnswer.{PointAnswer}
use Rattle.intake.specs.declared.PointMm.{PointMm}
use Rattle.intake.specs.declared.WindowAnswer.{WindowAnswer}
use Rattle.intake.specs.declared.WindowMm.{WindowMm}
use Rattle.words.specs.Words.{single, as_integer, numeral}
use Rattle.replies.specs.Replies.{Fields, none, ◌and◌, number, plain, float, with_window, Tells, Replies}
use Rattle.replies.specs.declared.Reply.{Reply}

-- ---- the fields

abbrev pub point_fields : PointAnswer → Fields
point_fields a = none and plain a.number and plain a.place and number a.x and number a.y

abbrev pub window_fields : WindowAnswer → Fields
window_fields a = with_window (none and plain a.number and plain a.place) a.window

abbrev pub back_fields : BackAnswer → Fields
back_fields a = none and plain a.number and plain a.place and float (to_bits binary32 a.mm)

-- ---- the lines

abbrev pub single_at : List ℕ → Option Float
single_at text = when eqb (get_or text 0 0) 32 then single (take 8 (drop 1 text)) else None

pub data Singles : List ℕ → List Float → Type 0 where
  empty : Singles [] []
  one : (w : List ℕ) {text : List ℕ} {x : Float} {xs : List Float} → single w ≡ Some x → Singles text xs →
      Singles (32 ∷ w ++ text) (x ∷ xs)

abbrev pub AsksPoint : List ℕ → PointMm → Type 0
AsksPoint text p = Singles text (p.x ∷ p.y ∷ [])

abbrev pub AsksWindow : List ℕ → WindowMm → Type 0
AsksWindow text w = Singles text (w.left ∷ w.bottom ∷ w.right ∷ w.top ∷ [])

abbrev pub AsksBack : List ℕ → ℤ → Type 0
AsksBack text g = as_integer (numeral (drop 1 text)) ≡ Some g

abbrev pub Mm2 : List ℕ → Option Reply → Type 0
Mm2 text = Replies (AsksPoint text) (λ p. Tells (PointToGrid p) point_fields 0)

abbrev pub Mm4 : List ℕ → Option Reply → Type 0
Mm4 text = Replies (AsksWindow text) (λ w. Tells (WindowToGrid w) window_fields 0)

abbrev pub BackLine : List ℕ → Option Reply → Type 0
BackLine text = Replies (AsksBack text) (λ g. Tells (ToMillimetres g) back_fields 0)
