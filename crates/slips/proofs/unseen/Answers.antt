-- The first test decides, or the second does.
use Rattle.std.proofs.Common.{◌≡◌, true, false, List, ℕ, sym, ◌∙◌}
use Rattle.text.specs.Runs.{is_in}
use Rattle.slips.specs.Slips.{unseen}
use Rattle.slips.proofs.unseen.Goals as goal

by_tab : (l : List ℕ) → is_in 9 l ≡ true → true ≡ unseen l
unfolding unseen
by_tab l e = simp e

by_return : (l : List ℕ) → is_in 9 l ≡ false → is_in 13 l ≡ unseen l
unfolding unseen
by_return l e = simp e

pub returns-then-has : goal.returns-then-has
returns-then-has c = c.if-has.true ∙ by_tab _ (sym c.has.ensures ∙ c.if-has.true)

pub returns-else-has : goal.returns-else-has
returns-else-has c = c.has-else-has.ensures ∙ by_return _ (sym c.has.ensures ∙ c.if-has.false)
