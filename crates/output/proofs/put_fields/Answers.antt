-- The fields before this one are put.
use native.Mathlib.Omega.{arith}
use Rattle.text.proofs.Puts.{put_nothing}
use Rattle.output.specs.Written.{fields_text}
use Rattle.output.proofs.Rows.{fields_on}
use Rattle.output.proofs.put_fields.Goals as goal

pub loop-i-init : goal.loop-i-init
unfolding fields_text
loop-i-init c = record { put = put_nothing _ (omega arith); short = omega arith }

pub loop-i-preserved : goal.loop-i-preserved
loop-i-preserved c = let l = c.loop-i in
    record { put = fields_on l.i c.args.fields.now l.invariant.put c.put_parted-end.ensures.put; short = omega arith }
