-- A slot in use adds five numbers, a free one none.
use Rattle.std.proofs.Common.{ap, sym, ◌∙◌, refl, length, arith}
use Rattle.own_strips.proofs.Listed.{listed_used, listed_free, listed_none}
use Rattle.own_strips.proofs.count_listed.Goals as goal
use Rattle.own_strips.proofs.count_listed.Goals.{then-in_use, else-in_use}

pub loop-k-preserved : goal.loop-k-preserved
loop-k-preserved c =
    elim c.if-in_use.branch [
      | then-in_use w ↦
          let more = listed_used c.args.from c.args.book.now c.loop-k.k c.requires.from_bound c.requires.book_len c.loop-k-test.true (sym c.in_use.ensures ∙ w.if-in_use.true) refl in
          record { few = omega arith; all = omega (arith, c.loop-k.invariant.all, ap length more) }
      | else-in_use w ↦
          let more = listed_free c.args.from c.args.book.now c.loop-k.k c.requires.from_bound c.requires.book_len c.loop-k-test.true (sym c.in_use.ensures ∙ w.if-in_use.false) in
          record { few = omega arith; all = omega (arith, c.loop-k.invariant.all, ap length more) }
    ]

pub returns : goal.returns
returns c =
    let none = listed_none c.args.from c.args.book.now c.loop-k.k c.requires.from_bound c.requires.book_len c.loop-k-test.false in
    omega (arith, c.loop-k.invariant.all, ap length none)
