-- The line asks for what was read.
use mathlib.Core.Path.{◌≡◌, sym, ap, ◌∙◌}
use Prim.Native.Nat.{ℕ}
use native.Mathlib.Omega.{arith}
use lib.IntN.{ℤ}
use lib.ListN.{drop}
use mathlib.Core.List.{List, ◌∷◌}
use mir.Syntax.{w32}
use mir.Facts.{to_z-of_z}
use Rattle.std.specs.Prelude.{Option, Some}
use Rattle.words.specs.Words.{as_integer, numeral}
use Rattle.millimetre_commands.proofs.Words.{no_word}
use Rattle.replies.specs.Replies.{to_call, to_none}
use borrow.Author.Rules.{rules}
use Rattle.millimetre_commands.proofs.back.Goals as goal

pub returns-in_err-_space-clause-back_line : goal.returns-in_err-_space-clause-back_line
returns-in_err-_space-clause-back_line c = let h = c.in_err-_space.ensures in rw c.from_residual.ensures (to_none (λ g. no_word c.args.rest.now h.cases))

-- what was read is what the line asks of
asked : (text word : List ℕ) (space : ℕ) (read r : Option ℤ) → text ≡ space ∷ word → read ≡ as_integer (numeral word) → read ≡ r → as_integer (numeral (drop 1 text)) ≡ r
asked text word space read r h e k = rw h (sym e ∙ k)

pub returns-in_err-read_integer-clause-back_line : goal.returns-in_err-read_integer-clause-back_line
returns-in_err-read_integer-clause-back_line c =
    let h = c.in_ok-_space.ensures in
    let none = asked _ _ _ _ _ h.cases.0 c.read_integer.ensures c.in_err-read_integer.was in
    rw c.from_residual-in_err-read_integer.ensures (to_none (λ g e. let z : ◌≡◌ {A = ℕ} 0 1 = cc in omega arith))

pub returns-clause-back_line : goal.returns-clause-back_line
returns-clause-back_line c =
    let h = c.in_ok-_space.ensures in
    let same = to_z-of_z {w = w32} (record { sfits = search rules }) in
    to_call _ (asked _ _ _ _ _ h.cases.0 c.read_integer.ensures c.in_ok-read_integer.was ∙ ap Some (sym same)) c.millimetres.ensures.tells
