-- The Cohen-Sutherland rule's own steps on the part of a stroke from the fraction f of its way to the fraction g, and what the call promises.
--   decided w s f g         the decision for the codes of the two points
--   OnLine w s k f          the stroke's point at f lies on the line of the side k
--   Shortening w s f g f' g'  one shortening of the part from f to g leaves that from f' to g'
--   Run w s f g n           the rule, run on the part from f to g, ends after n shortenings
--   CohenSutherland w s r   what `codes::cohen_sutherland` promises: the answer of any stroke call,
--                           and the rule's own count, which is 0 for a refused call
use Rattle.std.specs.Prelude.{◌≡◌, ℕ, suc, pos, ◌<ℤ◌}
use Rattle.fraction.specs.declared.Fraction.{Fraction}
use Rattle.grid.specs.declared.Stroke.{Stroke}
use Rattle.grid.specs.declared.Window.{Window}
use Rattle.grid.specs.Sides.{Side, place_of}
use Rattle.spans.specs.Parts.{zeroth, unit}
use Rattle.strokes.specs.Strokes.{Clipping, stroke_call_refusal}
use Rattle.codes.specs.Codes.{past, code, keep, missed, shorten_start, shorten_end, decision}
use Rattle.codes.specs.declared.CountedAnswer.{CountedAnswer}

abbrev pub decided : Window → Stroke → Fraction → Fraction → ℕ
decided w s f g = decision (code w s f) (code w s g)

pub record OnLine (w : Window) (s : Stroke) (k : Side) (f : Fraction) : Type 0 where
  pub den : pos 0 <ℤ f.den
  pub on : past w s k f ≡ pos 0

pub data Shortening (w : Window) (s : Stroke) : Fraction → Fraction → Fraction → Fraction → Type 0 where
  start : {f g h : Fraction} (k : Side) → decided w s f g ≡ shorten_start (place_of k) → OnLine w s k h → Shortening w s f g h g
  end : {f g h : Fraction} (k : Side) → decided w s f g ≡ shorten_end (place_of k) → OnLine w s k h → Shortening w s f g f h

pub data Run (w : Window) (s : Stroke) : Fraction → Fraction → ℕ → Type 0 where
  kept : {f g : Fraction} → decided w s f g ≡ keep → Run w s f g 0
  lost : {f g : Fraction} → decided w s f g ≡ missed → Run w s f g 0
  shorten : {f g f' g' : Fraction} {n : ℕ} → Shortening w s f g f' g' → Run w s f' g' n → Run w s f g (suc n)

-- The answer does not depend on the rule, the count does: so the rule's own steps are asked for the count alone.
pub record CohenSutherland (w : Window) (s : Stroke) (r : CountedAnswer) : Type 0 where
  pub clipping : Clipping w s r.answer
  pub refused : ((stroke_call_refusal w s).number ≡ 0 → ⊥) → r.shortenings ≡ 0
  pub done : (stroke_call_refusal w s).number ≡ 0 → Run w s zeroth unit r.shortenings
