-- The renter and his slot, the strip, and the end of the line.
use Rattle.std.proofs.Common.{◌/◌, ◌%◌}
use mir.Syntax.{w32}
use mir.Facts.{to_z_pos}
use native.Mathlib.Omega.{arith}
use Rattle.text.proofs.Puts.{put_then}
use Rattle.strip_lines.specs.Lines.{row_text}
use Rattle.strip_lines.proofs.Texts.{two_listed}
use Rattle.strip_lines.proofs.put_row.Goals as goal

pub returns-clause-put : goal.returns-clause-put
unfolding row_text
returns-clause-put c =
    let k = c.args.k in
    let renter = to_z_pos w32 {n = k / 32} (omega arith) in
    let slot = to_z_pos w32 {n = k % 32} (omega arith) in
    let numbers = put_then (rw renter at c.put_number-a.ensures.put) (rw slot at c.put_number-b.ensures.put) in
    put_then (put_then (two_listed _ _ numbers) c.put_strip-c.ensures.put) c.put.ensures
