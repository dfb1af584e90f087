-- The numbers are those that stand in the output and those of the text that is left.
use mathlib.Core.List.{List}
use mathlib.Core.Path.{◌≡◌, sym, ap, ◌∙◌}
use Prim.Native.Nat.{ℕ, ◌+◌, ◌-◌, ◌<◌}
use native.Mathlib.Omega.{arith}
use lib.IntN.{ℤ}
use lib.ListN.{length, take, drop, length-set, drop_of_length-le}
use mir.Syntax.{w32}
use mir.Val.{to_z, of_z}
use mir.Facts.{to_z-of_z}
use borrow.Author.Rules.{rules}
use Rattle.std.specs.Prelude.{Option}
use Rattle.words.specs.Words.{arguments, and_integer, integers, numeral, as_integer}
use Rattle.words.proofs.Lists.{after, one_more, all_read, no_list, no_room}
use Rattle.words.proofs.Spaces.{to_space, integers_cut}
use Rattle.words.proofs.read_integers.Goals as goal

-- a word more is read, and is r
turn : (text : List ℕ) (out : List ℤ) (n at end : ℕ) (r s : Option ℤ) → at < length text → integers (arguments text) ≡ after (take n out) (integers (arguments (drop at text)))
    → end ≡ at + 1 + to_space (drop (at + 1) text) → r ≡ as_integer (numeral (take (end - (at + 1)) (drop (at + 1) text))) → r ≡ s
    → integers (arguments text) ≡ after (take n out) (and_integer s (integers (arguments (drop end text))))
turn text out n at end r s h i e k q = i ∙ ap (after (take n out)) (integers_cut text at end s h e (sym q ∙ k))

pub returns-in_err-x : goal.returns-in_err-x
returns-in_err-x c = let l = c.loop-at in
    rw c.from_residual.ensures
    (no_list _ l.out (turn c.args.text.now l.out l.n l.at _ _ _ (omega arith) l.invariant.numbers c.find-end.ensures.value c.read_integer.ensures c.in_err-x.was))

pub returns-then-out-n : goal.returns-then-out-n
returns-then-out-n c = let l = c.loop-at in
    no_room _ l.out l.n c.in_ok-x.x _ (omega arith)
    (turn c.args.text.now l.out l.n l.at _ _ _ (omega arith) l.invariant.numbers c.find-end.ensures.value c.read_integer.ensures c.in_ok-x.was)

pub loop-at-preserved : goal.loop-at-preserved
loop-at-preserved c = let l = c.loop-at in
    let back : to_z w32 (of_z w32 c.in_ok-x.x) ≡ c.in_ok-x.x = to_z-of_z {w = w32} (record { sfits = search rules }) in
    rw back
    (record {
      text_in_range = omega arith;
      out_in_range = omega (arith, length-set l.out l.n c.in_ok-x.x);
      numbers = turn c.args.text.now l.out l.n l.at _ _ _ (omega arith) l.invariant.numbers c.find-end.ensures.value c.read_integer.ensures c.in_ok-x.was
          ∙ one_more l.out l.n c.in_ok-x.x _ (omega arith);
    })

pub returns : goal.returns
unfolding integers arguments
returns c = let l = c.loop-at in
    all_read _ l.out l.n l.invariant.out_in_range
    (l.invariant.numbers ∙ ap (λ r. after (take l.n l.out) (integers (arguments r))) (drop_of_length-le _ c.loop-at-test.false))
