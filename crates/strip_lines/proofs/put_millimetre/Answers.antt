-- The sign, the millimetres of the size, and a space.
use Rattle.std.proofs.Common.{arith}
use mir.Syntax.{w32, w64}
use mir.Facts.{to_z-of_z, sfits_widen}
use Rattle.text.proofs.Puts.{put_then, put_byte}
use Rattle.strip_lines.specs.Lines.{millimetre}
use Rattle.strip_lines.proofs.put_millimetre.Goals as goal

pub returns-clause-put : goal.returns-clause-put
unfolding millimetre
returns-clause-put c =
    let f = c.ranges.z in
    let p = c.put_sign-a.ensures in
    let q = c.put_millimetres-b.ensures in
    let size = simp (to_z-of_z f, to_z-of_z {w = w64} (sfits_widen {w = w32} tt f)) at c.size-size.ensures in
    put_byte 32 (omega (arith, q.put.same, p.put.same, p.upper_bound, q.upper_bound))
    (put_then (simp (to_z-of_z f) at p.put) (rw size at q.put))
