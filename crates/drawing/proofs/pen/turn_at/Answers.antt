-- `drawing::pen::turn_at` meets its contract: it goes by what stands at the place. A record is within the bytes, so its place is small.
use Rattle.std.proofs.Common.{sym, subst, ◌∙◌, arith, length}
use Rattle.format.proofs.Records.{EndsWithin, record_ends}
use Rattle.drawing.specs.Pen.{turn_at}
use Rattle.drawing.proofs.Computed.{is_computed, by_computed}
use Rattle.drawing.proofs.pen.turn_at.Goals as goal

pub after-requires : goal.after-requires
after-requires c = let a = c.args in
    omega (arith, subst (EndsWithin (length a.bytes.now) a.at) (sym c.in-Record.ensures) (record_ends a.bytes.now a.at))

pub returns-in-Record : goal.returns-in-Record
unfolding turn_at
returns-in-Record c = by_computed (is_computed c.after.ensures ∙ simp (sym c.in-Record.ensures))

pub returns-in-Bad : goal.returns-in-Bad
unfolding turn_at
returns-in-Bad c = by_computed (simp (sym c.in-Bad.ensures))

pub returns-in-End : goal.returns-in-End
unfolding turn_at
returns-in-End c = by_computed (simp (sym c.in-End.ensures))
