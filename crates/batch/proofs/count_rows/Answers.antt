-- The strokes are whole, so the last k is past them all; one that is given has five numbers, and else it has none.
use Rattle.std.proofs.Common.{◌≡◌, ◌+◌, ◌*◌, ◌≤◌, Bool, length, ap, sym, arith, ◌∙◌}
use Rattle.whole.specs.Choice.{when◌then◌else◌}
use Rattle.batch.proofs.Rows.{rows_from, rows_none, rows_length, computed_rows, rows_unique}
use Rattle.batch.proofs.count_rows.Goals as goal
use Rattle.batch.proofs.count_rows.Goals.{then-gives, else-gives}

pub overflow_add-needed : goal.overflow_add-needed
overflow_add-needed c = let few = c.requires.strokes_on_table.few in omega arith

pub loop-k-preserved : goal.loop-k-preserved
loop-k-preserved c =
    let a = c.args in
    let r = c.requires in
    let k = c.loop-k.k in
    let next : k * 4 + 4 ≡ (k + 1) * 4 = omega arith in
    let whole : k * 4 + 4 ≤ length a.s.now = omega arith in
    let left = length (rows_from a.touches a.w a.s.now ((k + 1) * 4)) in
    let counted : length (rows_from a.touches a.w a.s.now (k * 4)) ≡ (when c.gives.result then 5 else 0) + left =
    rw (sym next) (rows_length a.touches (k * 4) r.window_on_table r.strokes_on_table whole c.stroke_at.ensures c.gives.ensures) in
    elim c.if-gives.branch [
      | then-gives w ↦ (let five = counted ∙ ap (λ (t : Bool). (when t then 5 else 0) + left) w.if-gives.true in
          record { most = omega arith; counted = omega arith })
      | else-gives w ↦ (let none = counted ∙ ap (λ (t : Bool). (when t then 5 else 0) + left) w.if-gives.false in
          record { most = omega arith; counted = omega arith })
    ]

pub returns : goal.returns
returns c xs rows =
    let a = c.args in
    let r = c.requires in
    let past : length a.s.now ≤ c.loop-k.k * 4 = let by_four = r.strokes_on_table.by_four in omega arith in
    omega (
      arith,
      c.loop-k.invariant.counted,
      ap length (rows_none a.touches a.w a.s.now (c.loop-k.k * 4) past),
      ap length (rows_unique (computed_rows a.touches r.window_on_table r.strokes_on_table) rows),
    )
