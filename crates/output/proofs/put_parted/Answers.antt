-- The first field has no space before it.
use native.Mathlib.Omega.{arith}
use Rattle.output.specs.Written.{parted_text}
use Rattle.output.proofs.Rows.{put_behind, parted_behind}
use Rattle.output.proofs.put_parted.Goals as goal

pub returns-then-i-eq0-clause-put : goal.returns-then-i-eq0-clause-put
unfolding parted_text
returns-then-i-eq0-clause-put c = rw c.if-i-eq0.true c.put_field.ensures.put

pub returns-clause-put : goal.returns-clause-put
returns-clause-put c = rw (parted_behind c.args.i c.args.field c.if-i-eq0.false) (put_behind 32 (omega arith) c.put_field-2.ensures.put)
