-- Each way out is a way of a reading, by what the survey said of the bytes.
use Rattle.std.proofs.Common.{ℕ, refl, sym, ap, ◌∙◌, arith}
use Rattle.std.proofs.lemmas.Result.{err_from_is_err_and}
use Rattle.grid.specs.Calls.{written}
use Rattle.drawing.specs.Drawings.{Drawing, meaning, numbers}
use Rattle.drawing.proofs.Computed.{computed, is_computed, by_computed}
use Rattle.drawing.proofs.Strokes.{kept}
use Rattle.drawing.proofs.Readings.{to_reading, faulty, it, window_refuses, room_refuses, nothing_refuses}
use Rattle.drawing.proofs.read.Goals as goal

pub returns-in_err-found : goal.returns-in_err-found
returns-in_err-found c =
    let p = err_from_is_err_and c.from_residual.result c.from_residual.ensures.1 in
    let s = is_computed c.in_err-found.ensures in
    rw (p.1, p.2) (to_reading c.args.bytes.now refl refl (faulty (meaning computed c.args.bytes.now) s))

pub returns-in_err-test_window : goal.returns-in_err-test_window
returns-in_err-test_window c =
    let r = c.from_residual-in_err-test_window in
    let p = err_from_is_err_and r.result r.ensures.1 in
    rw (p.1, p.2) (window_refuses c.args.bytes.now _ (is_computed c.in_ok-found.ensures) c.args.out.now c.in_err-test_window.ensures)

pub overflow_mul-found : goal.overflow_mul-found
overflow_mul-found c =
    let bs = c.args.bytes.now in
    let k = it bs c.in_ok-found.found (is_computed c.in_ok-found.ensures) c.args.out.now in
    omega (arith, k.counted, (kept computed bs _ k.strokes k.drawing).1)

pub returns-in_err-test_room : goal.returns-in_err-test_room
returns-in_err-test_room c =
    let r = c.from_residual-in_err-test_room in
    let p = err_from_is_err_and r.result r.ensures.1 in
    rw (p.1, p.2)
    (room_refuses c.args.bytes.now _ (is_computed c.in_ok-found.ensures) c.args.out.now c.in_ok-test_window.ensures c.in_err-test_room.ensures)

pub write_strokes-requires : goal.write_strokes-requires
write_strokes-requires c =
    let bs = c.args.bytes.now in
    let found = is_computed c.in_ok-found.ensures in
    let k = it bs c.in_ok-found.found found c.args.out.now in
    let free = nothing_refuses bs _ found c.args.out.now c.in_ok-test_window.ensures c.in_ok-test_room.ensures in
    record { window = _; strokes = k.strokes; means = by_computed (sym k.drawing); has_room = free.has_room }

pub returns : goal.returns
returns c =
    let bs = c.args.bytes.now in
    let s = c.in_ok-found.found in
    let found = is_computed c.in_ok-found.ensures in
    let k = it bs s found c.args.out.now in
    let free = nothing_refuses bs _ found c.args.out.now c.in_ok-test_window.ensures c.in_ok-test_room.ensures in
    to_reading bs k.drawing (ap (λ (n : ℕ). record { number = 0; place = 0; window = s.window; count = n }) k.counted)
    (free.reads _ (is_computed c.write_strokes.ensures ∙ ap (λ (d : Drawing). written (numbers d) c.args.out.now) k.drawing))
