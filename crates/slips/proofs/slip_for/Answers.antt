-- Each arm is a case of the definition.
use Rattle.std.proofs.Common.{◌≡◌, None, List, ℕ, refl}
use Rattle.pen_line.specs.declared.Fault.{Fault}
use Rattle.pen_line.specs.declared.Fault.TheVariants.{NoStrip, SecondStrip, UnknownWord, NotNumbers, LongDrawing, LongText}
use Rattle.slips.specs.Texts.{slip_for}
use Rattle.slips.proofs.slip_for.Goals as goal

pub returns-in-UnknownWord : goal.returns-in-UnknownWord
unfolding slip_for
returns-in-UnknownWord c = rw c.in-UnknownWord.is c.seen.ensures

pub returns-in-NotNumbers : goal.returns-in-NotNumbers
unfolding slip_for
returns-in-NotNumbers c = rw c.in-NotNumbers.is c.seen-in-NotNumbers.ensures

-- the faults of the last arm
no_word_wrong : (l : List ℕ) (f : Fault) → (f ≡ UnknownWord → ⊥) → ((n : ℕ) → f ≡ NotNumbers n → ⊥) → None ≡ slip_for l f
unfolding slip_for
no_word_wrong l NoStrip u n = refl
no_word_wrong l SecondStrip u n = refl
no_word_wrong l UnknownWord u n = absurd (u refl)
no_word_wrong l (NotNumbers k) u n = absurd (n k refl)
no_word_wrong l LongDrawing u n = refl
no_word_wrong l LongText u n = refl

pub returns-in_default : goal.returns-in_default
returns-in_default c = no_word_wrong _ _ c.in_default.not-UnknownWord c.in_default.not-NotNumbers
