-- Five stores, one after the other.
use Rattle.std.proofs.Common.{arith}
use native.Mathlib.Numerals.{towards_suc}
use mir.Syntax.{w32}
use mir.Facts.{to_z_pos}
use Rattle.whole.proofs.Comparisons.{back}
use Rattle.slots.proofs.put_at.Goals as goal

pub returns : goal.returns
returns c =
    simp (
      to_z_pos w32 {n = c.args.mark} (omega arith),
      back w32 c.args.w.left (omega arith),
      back w32 c.args.w.bottom (omega arith),
      back w32 c.args.w.right (omega arith),
      back w32 c.args.w.top (omega arith),
    )
    (simp towards_suc)
