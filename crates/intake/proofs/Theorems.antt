-- What the contracts of the intake mean; no function's proof needs this file.
--   one_point_answer, one_window_answer, one_back_answer   each call has one answer at most
--   times_thirty_two_exact, over_thirty_two_exact   32 x is exact in f32 unless it overflows; g / 32 is exact
--   point_there_and_back, window_there_and_back   there and back, by `round_trip` for each number
--   point_on_table, window_on_table   the numbers of an answer are on the table
use mathlib.Core.Path.{◌≡◌, refl, sym, ap, ◌∙◌, subst}
use mathlib.Core.Bool.{true, not}
use Prim.Native.Nat.{ℕ, ◌*◌}
use native.Mathlib.Nat.{zero-lt-suc}
use Rattle.std.specs.Prelude.{Result, Ok, Err}
use lib.IntN.{ℤ, pos, negsuc, nat_abs, ◌*ℤ◌}
use lib.Signed.{non_neg}
use lib.Ieee.{Float, nan, inf, fin, binary32, down, of_int}
use lib.Ieee.Fits.{down_pos, div-fits}
use Rattle.whole.proofs.Comparisons.{tt_ff}
use Rattle.whole.proofs.Order.{zarith}
use Rattle.whole.proofs.Ranges.{within_abs}
use Rattle.whole.proofs.Rounding.{rounded_exact}
use Rattle.grid.specs.Table.{on_table}
use Rattle.grid.proofs.Ranges.{on_within}
use Rattle.intake.specs.declared.PointMm.{PointMm}
use Rattle.intake.specs.declared.WindowMm.{WindowMm}
use Rattle.intake.specs.declared.PointAnswer.{PointAnswer}
use Rattle.intake.specs.declared.WindowAnswer.{WindowAnswer}
use Rattle.intake.specs.declared.BackAnswer.{BackAnswer}
use Rattle.intake.specs.Laws.{OnePointAnswer, OneWindowAnswer, OneBackAnswer}
use Rattle.intake.specs.Laws.{thirty_two, TimesThirtyTwoExact, OverThirtyTwoExact, PointThereAndBack, WindowThereAndBack}
use Rattle.intake.specs.Millimetres.{signed, nearest, accepted, Taken, on_range, grid_point, point_answer}
use Rattle.intake.specs.Millimetres.{PointToGrid, grid_window, window_answer, WindowToGrid, InMillimetres}
use Rattle.intake.specs.Millimetres.{ToMillimetres, done, refused}
use Rattle.intake.proofs.Exact.{product_exact, product_over, quotient_exact, value_unique}
use Rattle.intake.proofs.Outcome.{taken, taken_on}
use Rattle.intake.proofs.Ways.{overflows}
use Rattle.intake.proofs.Answers.{point_is, window_is}

-- ---- one answer

pub one_point_answer : OnePointAnswer
one_point_answer p a b r s = point_is r ∙ sym (point_is s)

pub one_window_answer : OneWindowAnswer
one_window_answer w a b r s = window_is r ∙ sym (window_is s)

pub one_back_answer : OneBackAnswer
one_back_answer g a b (refused off) (refused _) = refl
one_back_answer g a b (refused off) (done on v) = absurd (tt_ff (sym on ∙ off))
one_back_answer g a b (done on v) (refused off) = absurd (tt_ff (sym on ∙ off))
one_back_answer g a b (done {x = x} on v) (done {x = y} _ w) =
    ap (λ (z : Float). record { number = 0; place = 0; mm = z })
    (value_unique x y (not (non_neg g)) (nat_abs g) 32 (zero-lt-suc 31) v.single w.single v.exact w.exact)

-- ---- exactness

pub times_thirty_two_exact : TimesThirtyTwoExact
times_thirty_two_exact s m e t = record {
  exact = product_exact s m e t;
  infinite = product_over s m e;
  refused = λ h. subst (Taken (fin s m e)) (sym (overflows s m e h)) (taken (fin s m e));
}

pub over_thirty_two_exact : OverThirtyTwoExact
over_thirty_two_exact g on = record {
  single = div-fits binary32 (of_int binary32 g) thirty_two;
  exact = quotient_exact g (within_abs (on_within g on));
}

-- ---- there and back

signed_times : (g : ℤ) (d : ℕ) → signed (not (non_neg g)) (nat_abs g * d) ≡ g *ℤ pos d
signed_times (pos n) d = refl
signed_times (negsuc n) d = refl

comes_back : (g : ℤ) (x : Float) → on_table g ≡ true → InMillimetres g x → Taken x (accepted g)
comes_back g nan on v = absurd v.exact
comes_back g (inf s) on v = absurd v.exact
comes_back g (fin s m e) on v =
    let h = down_pos e in
    on_range (nearest s m e (rounded_exact ((λ i. signed (v.exact.0 i) (v.exact.1 i)) ∙ signed_times g (down e)) (omega zarith))) on

round_trip : {g : ℤ} {a : BackAnswer} → on_table g ≡ true → ToMillimetres g a → Taken a.mm (accepted g)
round_trip on (done {g} {x} _ v) = comes_back g x on v
round_trip on (refused off) = absurd (tt_ff (sym on ∙ off))

pub point_there_and_back : PointThereAndBack
unfolding grid_point
point_there_and_back x y a b p q r k = one_point_answer _ p _ k (record {
  x = accepted x;
  y = accepted y;
  x_taken = round_trip q.on q.answered;
  y_taken = round_trip r.on r.answered;
  answer = refl;
})

pub window_there_and_back : WindowThereAndBack
unfolding grid_window
window_there_and_back w l b r t p ql qb qr qt k = one_window_answer _ p _ k (record {
  left = accepted w.left;
  bottom = accepted w.bottom;
  right = accepted w.right;
  top = accepted w.top;
  left_taken = round_trip ql.on ql.answered;
  bottom_taken = round_trip qb.on qb.answered;
  right_taken = round_trip qr.on qr.answered;
  top_taken = round_trip qt.on qt.answered;
  answer = refl;
})

-- ---- on the table

pub record PointOn (a : PointAnswer) : Type 0 where
  pub x : on_table a.x ≡ true
  pub y : on_table a.y ≡ true

pub point_on_table : {p : PointMm} {a : PointAnswer} → PointToGrid p a → PointOn a
unfolding grid_point on_table
point_on_table r = subst PointOn (sym r.answer) (go r.x r.y r.x_taken r.y_taken)
  where
    go : {p q : Float} (x y : Result ℤ ℕ) → Taken p x → Taken q y → PointOn (point_answer x y)
    go (Ok x) (Ok y) s t = record { x = taken_on s; y = taken_on t }
    go (Ok x) (Err n) s t = record { x = refl; y = refl }
    go (Err n) y s t = record { x = refl; y = refl }

pub record WindowOn (a : WindowAnswer) : Type 0 where
  pub left : on_table a.window.left ≡ true
  pub bottom : on_table a.window.bottom ≡ true
  pub right : on_table a.window.right ≡ true
  pub top : on_table a.window.top ≡ true

pub window_on_table : {w : WindowMm} {a : WindowAnswer} → WindowToGrid w a → WindowOn a
unfolding grid_window on_table
window_on_table r = subst WindowOn (sym r.answer) (go r.left r.bottom r.right r.top r.left_taken r.bottom_taken r.right_taken r.top_taken)
  where
    go : {p q r s : Float} (left bottom right top : Result ℤ ℕ) → Taken p left → Taken q bottom → Taken r right → Taken s top
        → WindowOn (window_answer left bottom right top)
    go (Ok left) (Ok bottom) (Ok right) (Ok top) p q r s = record { left = taken_on p; bottom = taken_on q; right = taken_on r; top = taken_on s }
    go (Ok left) (Ok bottom) (Ok right) (Err n) p q r s = record { left = refl; bottom = refl; right = refl; top = refl }
    go (Ok left) (Ok bottom) (Err n) top p q r s = record { left = refl; bottom = refl; right = refl; top = refl }
    go (Ok left) (Err n) right top p q r s = record { left = refl; bottom = refl; right = refl; top = refl }
    go (Err n) bottom right top p q r s = record { left = refl; bottom = refl; right = refl; top = refl }
