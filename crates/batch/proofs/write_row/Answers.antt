-- However the stroke lies it is known what is given of it, and there is room for its row.
use lib.ListN.{length}
use mir.Facts.{to_z_pos}
use mir.Syntax.{w32}
use mir.Val.{to_z}
use Rattle.std.proofs.Common.{ℕ, ℤ, pos, ◌≡◌, List, ◌∷◌, ◌∙◌, ap, ◌+◌, ◌^◌, ◌<◌, ◌≤◌, arith}
use Rattle.std.proofs.lemmas.List.Edits.{sets}
use Rattle.grid.specs.Table.{ends}
use Rattle.grid.specs.declared.Stroke.{Stroke}
use Rattle.strokes.proofs.Answers.{inside_always}
use Rattle.cuts.specs.Cuts.{touches_at}
use Rattle.cuts.proofs.Cutting.{whole_cut_lem, none_gives, left_out_cut}
use Rattle.batch.proofs.Writing.{row_room, row_put, row_left_out}
use Rattle.batch.proofs.write_row.Goals as goal

-- the index as it is put
as_put : {k : ℕ} {after : List ℤ} (n : ℕ) (out : List ℤ) (s : Stroke) → k < 4096 → after ≡ sets out n (to_z w32 k ∷ ends s) → after ≡ sets out n (pos k ∷ ends s)
as_put {k} n out s h e = let small : k < 2 ^ 31 = omega arith in e ∙ ap (λ (z : ℤ). sets out n (z ∷ ends s)) (to_z_pos w32 small)

pub put_whole-requires : goal.put_whole-requires
put_whole-requires c =
    let a = c.args in
    let r = c.requires in
    row_room (touches_at a.least) a.k a.n a.out.now (whole_cut_lem (touches_at a.least) (inside_always c.in-Inside.ensures)) r.window_on_table r.stroke_on_table
    r.room_for_row

pub overflow_add-result : goal.overflow_add-result
overflow_add-result c =
    let a = c.args in
    let r = c.requires in
    let room : a.n + 5 ≤ length a.out.now =
    row_room (touches_at a.least) a.k a.n a.out.now (whole_cut_lem (touches_at a.least) (inside_always c.in-Inside.ensures)) r.window_on_table
    r.stroke_on_table r.room_for_row in
    omega (arith, c.well_formed)

pub returns-in-Inside : goal.returns-in-Inside
returns-in-Inside c =
    let a = c.args in
    row_put (touches_at a.least) a.k a.n a.out.now (whole_cut_lem (touches_at a.least) (inside_always c.in-Inside.ensures))
    (as_put a.n a.out.now a.s c.requires.k_bound c.put_whole.ensures)

pub returns-in-Outside : goal.returns-in-Outside
returns-in-Outside c =
    let touches = touches_at c.args.least in
    row_left_out touches c.args.k c.args.n c.args.out.now (left_out_cut touches (none_gives touches c.in-Outside.ensures))

pub put-requires : goal.put-requires
put-requires c =
    let a = c.args in
    let r = c.requires in
    row_room (touches_at a.least) a.k a.n a.out.now c.in-Some.ensures r.window_on_table r.stroke_on_table r.room_for_row

pub overflow_add-result-in-Some : goal.overflow_add-result-in-Some
overflow_add-result-in-Some c =
    let a = c.args in
    let r = c.requires in
    let room : a.n + 5 ≤ length a.out.now =
    row_room (touches_at a.least) a.k a.n a.out.now c.in-Some.ensures r.window_on_table r.stroke_on_table r.room_for_row in
    omega (arith, c.well_formed)

pub returns-in-Some : goal.returns-in-Some
returns-in-Some c =
    let a = c.args in
    row_put (touches_at a.least) a.k a.n a.out.now c.in-Some.ensures (as_put a.n a.out.now c.in-Some.part c.requires.k_bound c.put.ensures)

pub returns-in-None : goal.returns-in-None
returns-in-None c = row_left_out (touches_at c.args.least) c.args.k c.args.n c.args.out.now c.in-None.ensures
