-- A turn writes the row of the next stroke, if it has one, and asks for what all are asked for.
use Rattle.std.proofs.Common.{◌+◌, ◌*◌, ◌≤◌, Bool, length, sym, subst, arith}
use Rattle.batch.specs.Batches.{RoomForRow, WroteRow}
use Rattle.batch.proofs.Writing.{writing_start, writing_end, next_room, next_row}
use Rattle.batch.proofs.write_rows.Goals as goal

pub loop-k-init : goal.loop-k-init
loop-k-init c = let r = c.requires in writing_start r.window_on_table r.strokes_on_table r.xs_in_bounds

pub write_row-n-requires-clause-room_for_row : goal.write_row-n-requires-clause-room_for_row
write_row-n-requires-clause-room_for_row c =
    let r = c.requires in
    let l = c.loop-k in
    let whole : l.k * 4 + 4 ≤ length c.args.s.now = omega arith in
    subst (λ (touches : Bool). RoomForRow touches c.args.w c.stroke_at.result l.k l.n l.out) (sym c.least_of-least.ensures.1)
    (next_room r.window_on_table r.strokes_on_table l.invariant whole c.stroke_at.ensures)

pub loop-k-preserved : goal.loop-k-preserved
loop-k-preserved c =
    let r = c.requires in
    let l = c.loop-k in
    let whole : l.k * 4 + 4 ≤ length c.args.s.now = omega arith in
    next_row r.window_on_table r.strokes_on_table l.invariant whole c.stroke_at.ensures
    (subst (λ (touches : Bool). WroteRow touches c.args.w c.stroke_at.result l.k l.n c.write_row-n.result l.out c.write_row-n.new.out)
    c.least_of-least.ensures.1 c.write_row-n.ensures)

pub returns : goal.returns
returns c = let r = c.requires in writing_end r.window_on_table r.strokes_on_table c.loop-k.invariant c.loop-k-test.false
