-- The library's capital letters are those of the definition, and nothing is none.
use Rattle.std.proofs.Common.{◌∙◌, ap, List, ℕ, get_or}
use Rattle.slips.specs.Slips.{is_capital}
use Rattle.slips.proofs.Tests.{first_some, first_none}
use Rattle.slips.proofs.is_capital.Goals as goal

pub returns-in-Some : goal.returns-in-Some
unfolding is_capital
returns-in-Some c = c.is_ascii_uppercase.ensures.value ∙ ap is_capital (first_some _ c.in-Some.ensures.value)

pub returns-in-None : goal.returns-in-None
unfolding is_capital
returns-in-None c = ap (λ (s : List ℕ). is_capital (get_or s 0 0)) (first_none _ c.in-None.ensures.value)
