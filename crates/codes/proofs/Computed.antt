-- The call as a function, which satisfies the statement and so is the only one that does: with it a worked example computes.
-- There are at most four shortenings, so five looks at the codes.
use mathlib.Core.Path.{◌≡◌, refl}
use Prim.Native.Nat.{ℕ, zero, suc, ◌+◌, ◌≤◌, ◌<◌}
use borrow.Author.Tests.{ltb-true, ltb-false, eqb-true, eqb-false}
use native.Mathlib.Omega.{arith}
use lib.Dec.{eqb, ltb}
use lib.IntN.{ℤ, pos, ◌-ℤ◌}
use lib.Signed.{lt_z}
use Rattle.whole.specs.Choice.{when◌then◌else◌}
use Rattle.whole.specs.Within.{Within}
use Rattle.whole.proofs.Comparisons.{by-test, lt_yes, lt_no}
use Rattle.fraction.specs.declared.Fraction.{Fraction}
use Rattle.grid.specs.declared.Stroke.{Stroke}
use Rattle.grid.specs.declared.Window.{Window}
use Rattle.grid.specs.Table.{farthest, WindowOnTable, StrokeOnTable}
use Rattle.grid.specs.Sides.{Side, side_at, number_of}
use Rattle.grid.proofs.Refusals.{window_on_table, stroke_on_table}
use Rattle.spans.specs.declared.Span.{Span}
use Rattle.spans.specs.Parts.{zeroth, unit}
use Rattle.strokes.specs.Strokes.{stroke_call_refusal}
use Rattle.strokes.proofs.Computed.{answer_of, answer_of_is}
use Rattle.strokes.proofs.Refusing.{nothing_refused}
use Rattle.codes.specs.Codes.{code, lowest_bit}
use Rattle.codes.specs.Steps.{decided, OnLine, Shortening, start, end, Run, kept, lost, shorten, CohenSutherland}
use Rattle.codes.specs.Workers.{Apart, WayMeets}
use Rattle.codes.specs.declared.CountedAnswer.{CountedAnswer}
use Rattle.codes.proofs.Crossings.{meets_on, meets_back, from, to, number_on, from_on, to_on, apart_ends, meets_side, apart}
use Rattle.codes.proofs.Decided.{code_small, start_side, end_side, start_beyond, end_beyond}
use Rattle.codes.proofs.Runs.{one_counted_answer}
use Rattle.codes.proofs.Shortenings.{span, Ordered, Reached, reached_first, reached_next}

-- ---- one shortening
unfoldable pub meeting_of : ℤ → ℤ → ℤ → Fraction
meeting_of c a b =
    when lt_z (b -ℤ a) (pos 0)
    then record { num = pos 0 -ℤ (c -ℤ a); den = pos 0 -ℤ (b -ℤ a) }
    else record { num = c -ℤ a; den = b -ℤ a }

meeting_of_is : {c a b : ℤ} → Within farthest c → Within farthest a → Within farthest b → (a ≡ b → ⊥) → WayMeets c a b (meeting_of c a b)
unfolding meeting_of
meeting_of_is {c} {a} {b} wc wa wb n =
    by-test (lt_z (b -ℤ a) (pos 0)) (WayMeets c a b) (λ e. meets_back wc wa wb (lt_yes refl refl e)) (λ e. meets_on wc wa wb (lt_no refl refl e) n)

abbrev crossing_of : Window → Stroke → Side → Fraction
crossing_of w s k = meeting_of (number_of w k) (from s k) (to s k)

unfoldable pub step_of : Window → Stroke → Fraction → Fraction → Span
step_of w s f g = when ltb (decided w s f g) 6 then span (crossing_of w s (side_at (lowest_bit (code w s f)))) g else span f (crossing_of w s (side_at (lowest_bit (code w s g))))

module _ {w : Window} {s : Stroke} (hw : WindowOnTable w) (hs : StrokeOnTable s) where
  crosses : (k : Side) → Apart s k → OnLine w s k (crossing_of w s k)
  crosses k h = (meets_side w s k (meeting_of_is (number_on k hw) (from_on k hs) (to_on k hs) (apart_ends s k h))).line

  step_of_is : (f g : Fraction) → Ordered f g → 2 ≤ decided w s f g → Shortening w s f g (step_of w s f g).first (step_of w s f g).last
  unfolding step_of
  step_of_is f g o l =
      by-test (ltb (decided w s f g) 6) (λ (r : Span). Shortening w s f g r.first r.last)
      (λ t.
      let e = start_side (code_small w s f) (code_small w s g) l (ltb-true (decided w s f g) 6 t) in
      let k = side_at (lowest_bit (code w s f)) in
      let b = start_beyond w s f g k e in
      start k e (crosses k (apart w s f g k o.proper.den0 o.proper.den1 b.0 b.1)))
      (λ t.
      let e = end_side (code_small w s f) (code_small w s g) (ltb-false (decided w s f g) 6 t) in
      let k = side_at (lowest_bit (code w s g)) in
      let b = end_beyond w s f g k e in
      end k e (crosses k (apart w s g f k o.proper.den1 o.proper.den0 b.1 b.0)))

-- ---- the count, by n looks at the codes at most
unfoldable pub count_of : ℕ → Window → Stroke → Fraction → Fraction → ℕ
count_of zero w s f g = 0
count_of (suc n) w s f g = when ltb (decided w s f g) 2 then 0 else suc (count_of n w s (step_of w s f g).first (step_of w s f g).last)

ended : {w : Window} {s : Stroke} (f g : Fraction) → decided w s f g < 2 → Run w s f g 0
ended {w} {s} f g h = go (decided w s f g) refl
  where
    go : (d : ℕ) → decided w s f g ≡ d → Run w s f g 0
    go zero e = kept e
    go (suc zero) e = lost e
    go (suc (suc d)) e = absurd (omega arith)

module _ {w : Window} {s : Stroke} (hw : WindowOnTable w) (hs : StrokeOnTable s) where
  count_of_is : (n : ℕ) {m : ℕ} {f g : Fraction} → 5 ≤ n + m → Reached w s f g m → Run w s f g (count_of n w s f g)
  unfolding count_of
  count_of_is zero l r = absurd (omega (arith, r.few))
  count_of_is (suc n) {m} {f} {g} l r =
      by-test (ltb (decided w s f g) 2) (Run w s f g)
      (λ t. ended f g (ltb-true (decided w s f g) 2 t))
      (λ t.
      let u = step_of_is hw hs f g r.ordered (ltb-false (decided w s f g) 2 t) in
      shorten u (count_of_is n {m = m + 1} (omega arith) (reached_next r u)))

-- ---- the call
unfoldable pub counted_of : Window → Stroke → CountedAnswer
counted_of w s = record {
  answer = answer_of w s;
  shortenings = when eqb (stroke_call_refusal w s).number 0 then count_of 5 w s zeroth unit else 0;
}

pub counted_of_is : (w : Window) (s : Stroke) → CohenSutherland w s (counted_of w s)
unfolding counted_of
counted_of_is w s =
    by-test (eqb (stroke_call_refusal w s).number 0) (λ (n : ℕ). CohenSutherland w s (record { answer = answer_of w s; shortenings = n }))
    (λ t.
    let z = eqb-true (stroke_call_refusal w s).number 0 t in
    let p = nothing_refused w s z in record {
      clipping = answer_of_is w s;
      refused = λ n. absurd (n z);
      done = λ _. count_of_is (window_on_table w p.0) (stroke_on_table s p.1) 5 {m = 0} (omega arith) reached_first;
    })
    (λ t. record { clipping = answer_of_is w s; refused = λ _. refl; done = λ z. absurd (eqb-false (stroke_call_refusal w s).number 0 t z) })

pub computed : {w : Window} {s : Stroke} {r : CountedAnswer} → CohenSutherland w s r → r ≡ counted_of w s
computed {w} {s} {r} h = one_counted_answer w s r (counted_of w s) h (counted_of_is w s)
