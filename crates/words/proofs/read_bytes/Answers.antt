-- Each test of the code is one of `bytes`.
use mathlib.Core.Path.{sym}
use borrow.Author.Tests.{eq-eqb, ne_eqb}
use Prim.Native.Nat.{zero-le}
use Rattle.words.specs.Words.{bytes}
use Rattle.words.proofs.Lists.{all_read, no_list}
use Rattle.words.proofs.read_bytes.Goals as goal

pub returns-then-is_empty : goal.returns-then-is_empty
unfolding bytes
returns-then-is_empty c = no_list _ _ (simp (sym c.if-is_empty.ensures))

pub returns-then-not-has_minus : goal.returns-then-not-has_minus
unfolding bytes
returns-then-not-has_minus c = simp (sym c.if-is_empty.ensures, sym c.if-not-has_minus.ensures) c.read_pairs.ensures

pub returns-then-word-eq1 : goal.returns-then-word-eq1
unfolding bytes
returns-then-word-eq1 c = all_read _ _ 0 zero-le (simp (sym c.if-is_empty.ensures, sym c.if-not-has_minus.ensures, eq-eqb _ _ c.if-word-eq1.true))

pub returns-else-word-eq1 : goal.returns-else-word-eq1
unfolding bytes
returns-else-word-eq1 c = no_list _ _ (simp (sym c.if-is_empty.ensures, sym c.if-not-has_minus.ensures, ne_eqb _ _ c.if-word-eq1.false))
