-- Eight digits are at most a u32.
use mathlib.Core.Path.{◌≡◌, sym, ap, ◌∙◌}
use native.Mathlib.Omega.{arith}
use borrow.Author.Tests.{eq-eqb, ne_eqb}
use Prim.Native.Nat.{ℕ}
use mathlib.Core.List.{List}
use lib.ListN.{length}
use Rattle.std.specs.Prelude.{Option, Some}
use Rattle.words.specs.Digits.{word_value}
use Rattle.words.specs.Words.{up_to, single, with_bits}
use Rattle.words.proofs.Numerals.{read_small}
use Rattle.words.proofs.read_single.Goals as goal

pub returns-then-word-ne8 : goal.returns-then-word-ne8
unfolding single
returns-then-word-ne8 c = simp (ne_eqb _ _ c.if-word-ne8.true)

read : (w : List ℕ) (r : Option ℕ) → length w ≡ 8 → r ≡ up_to 4294967295 (word_value 16 w) → single w ≡ with_bits r
unfolding single
read w r h e = simp (eq-eqb _ _ h) (ap with_bits (sym e))

pub returns-in_err-read_natural : goal.returns-in_err-read_natural
returns-in_err-read_natural c =
    c.from_residual.ensures ∙ sym (read c.args.word.now _ c.if-word-ne8.false c.read_natural.ensures ∙ ap with_bits c.in_err-read_natural.was)

pub overflow_cast-branch : goal.overflow_cast-branch
overflow_cast-branch c = record { fits = omega (arith, read_small _ _ _ _ c.in_ok-read_natural.was c.read_natural.ensures) }

pub returns : goal.returns
returns c = ap Some c.from_bits.ensures ∙ sym (read c.args.word.now _ c.if-word-ne8.false c.read_natural.ensures ∙ ap with_bits c.in_ok-read_natural.was)
