-- The word is what its digits from here on make of the number so far.
use mathlib.Core.Path.{◌≡◌, sym, subst, ap, ◌∙◌}
use Prim.Native.Nat.{ℕ, ◌+◌, ◌*◌, ◌<◌}
use native.Mathlib.Omega.{arith}
use borrow.Author.Tests.{le-leb, true-eqb, false-eqb}
use mathlib.Core.List.{List}
use lib.ListN.{length, get_or, drop, drop_of_length-le}
use Rattle.words.specs.Digits.{digit_of, word_value, value_from}
use Rattle.words.specs.Words.{up_to}
use Rattle.words.proofs.Values.{value_is, no_value, one_more, no_digit, too_large}
use Rattle.words.proofs.read_natural.Goals as goal

pub returns-then-is_empty : goal.returns-then-is_empty
unfolding up_to
returns-then-is_empty c = rw (no_value c.args.base c.args.word.now (true-eqb _ _ c.if-is_empty.ensures))

pub loop-b-init : goal.loop-b-init
loop-b-init c = record { in_range = omega arith; value = value_is _ _ (omega (arith, false-eqb _ _ c.if-is_empty.ensures)) }

pub returns-in_err-n : goal.returns-in_err-n
unfolding up_to
returns-in_err-n c = let l = c.loop-b in
    rw (c.from_residual.ensures, l.invariant.value, no_digit c.args.base l.n l.b-index c.args.word.now (omega arith) c.in_err-n.ensures)

-- one digit more
step : (word : List ℕ) (base n i d : ℕ) → i < length word → word_value base word ≡ value_from base n (drop i word) → (d ≡ digit_of (get_or word i 0)) × (d < base)
    → word_value base word ≡ value_from base (n * base + d) (drop (i + 1) word)
step word base n i d h e k = rw k.0 (e ∙ one_more base n i word h (subst (λ (x : ℕ). x < base) k.0 k.1))

pub returns-then-most-n : goal.returns-then-most-n
returns-then-most-n c = let l = c.loop-b in
    sym (ap (up_to _) (step c.args.word.now c.args.base l.n l.b-index _ (omega arith) l.invariant.value c.in_ok-n.ensures) ∙ too_large _ _ _ _ c.if-most-n.true)

pub loop-b-preserved : goal.loop-b-preserved
loop-b-preserved c = let l = c.loop-b in
    record { in_range = omega arith; value = step c.args.word.now c.args.base l.n l.b-index _ (omega arith) l.invariant.value c.in_ok-n.ensures }

pub returns : goal.returns
unfolding up_to value_from
returns c = let l = c.loop-b in
    simp (l.invariant.value, drop_of_length-le c.args.word.now c.loop-b-test.false, le-leb l.n _ l.invariant.in_range)
