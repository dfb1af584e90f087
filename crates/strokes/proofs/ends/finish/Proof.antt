-- `strokes::ends::finish` meets its contract: each case has its law in Meetings. Assumes nothing.
use mathlib.Core.Path.{◌≡◌, sym, transport, ◌∙◌}
use Prim.Native.Nat.{ℕ, ◌≤◌}
use native.Mathlib.Omega.{arith}
use borrow.Author.Rules.{rules}
use lib.IntN.{pos}
use mir.Syntax.{w32, w64}
use mir.Val.{to_z}
use mir.Facts.{to_z_pos}
use Rattle.whole.proofs.Comparisons.{back}
use Rattle.spans.specs.Parts.{unit}
use Rattle.spans.specs.Sides.{no_side}
use Rattle.strokes.specs.Workers.{side_met, FinishOf}
use Rattle.strokes.proofs.Meetings.{product_fits, end_small, earlier_end, finish_none, finish_x, finish_y}
use Rattle.strokes.proofs.Reading.{read_is, read_on_table, rounded_plain}
use Rattle.strokes.proofs.ends.finish.Lts.{then-x+else-y, else-x}
use Rattle.strokes.proofs.ends.finish.Statement.{statement}
use Rattle.strokes.proofs.ends.finish.Tie as tie

-- a number of a short way, as it is cast
wide : {k : ℕ} → k ≤ 32766 → to_z w64 k ≡ pos k
wide {k} h = to_z_pos w64 (omega arith)

-- ---- at the stroke's own end
returns : tie.Need-returns-then-y
returns c =
    let a = c.before.before.before.before.before.before.args in
    let p = c.before.before.before.before.before.before.requires in
    let u = sym (back w32 a.x.to c.before.struct_told-1.given.1.1.1.1.0.1) in
    let v = sym (back w32 a.y.to c.struct_told-then-y-1.given.1.1.1.1.0.1) in
    transport (λ i. FinishOf a.s a.x a.y (record { t = unit; x = u i; y = v i; side = no_side }))
    (finish_none p.1.0 p.1.1 c.before.before.before.before.if-x.true c.before.before.if-y.true)

mul-if3 : tie.Need-overflow_mul-x
mul-if3 c = let p = c.before.before.before.before.requires in product_fits (end_small p.1.0.proper) p.1.1.proper.small

mul-if3-2 : tie.Need-overflow_mul-y
mul-if3-2 c = let p = c.before.before.before.before.before.before.requires in product_fits (end_small p.1.1.proper) p.1.0.proper.small

-- ---- on a side of the x axis
cast-t9 : tie.Need-overflow_cast-result
cast-t9 c = let p = c.before.before.before.before.before.before.before.before.requires in record { sfits = omega (arith, end_small p.1.0.proper) }

cast-t10 : tie.Need-overflow_cast-result-then-x-y
cast-t10 c = let p = c.before.before.before.before.before.before.before.before.before.requires in record { sfits = omega (arith, p.1.0.proper.small) }

rounded-requires : tie.Need-rounded-requires
rounded-requires c κs =
    let p = c.before.before.before.before.before.before.before.before.before.before.before.requires in
    let k = p.1.0.proper in
    (read_on_table p.0.y1, (read_on_table p.0.y2, ((k.long, k.small), omega (arith, k.order, k.high))))

side-met-requires : tie.Need-side_met-requires
side-met-requires c κs = search rules

returns-2 : tie.Need-returns-then-x-y
returns-2 c =
    let begin = c.before.before.before.before.before.before.before.before.before.before.before.before.before.before.before.before in
    let a = begin.args in
    let p = begin.requires in
    let k = p.1.0.proper in
    let n = sym (wide (end_small k)) in
    let d = sym (wide k.small) in
    let u = sym (back w32 a.x.to c.struct_told-then-x-y-5-1.given.1.1.1.1.0.1) in
    let v = sym (back w32 _ c.before.before.before.before.rounded.type_inv) in
    let i = sym (c.before.side_met.ensures ∙ (λ j. side_met (read_is p.0.x2 j) (read_is p.0.x1 j) 0 1)) in
    let came = c.before.before.before.before.before.before.before.before.before.before.before.before.before.before.if-x.branch in
    let not_both : a.x.end ≡ a.x.long → a.y.end ≡ a.y.long → ⊥ = λ e f.
    elim came [ then-x+else-y w ↦ w.if-y.false f | else-x w ↦ w.if-x.false e ] in
    let taken = c.before.before.before.before.before.before.before.before.before.if-x-y.true in
    transport (λ j. FinishOf a.s a.x a.y (record { t = record { num = n j; den = d j }; x = u j; y = v j; side = i j }))
    (finish_x p.1.0 p.1.1 (earlier_end a.x.end a.y.end a.x.long a.y.long not_both k.high p.1.1.proper.high k.long taken) taken
    (rounded_plain (pos a.x.end) p.0.y1 p.0.y2 c.before.before.before.before.rounded.ensures))

-- ---- on a side of the y axis
cast-t14 : tie.Need-overflow_cast-result-2
cast-t14 c = let p = c.before.before.before.before.before.before.before.before.requires in record { sfits = omega (arith, end_small p.1.1.proper) }

cast-t15 : tie.Need-overflow_cast-result-3
cast-t15 c = let p = c.before.before.before.before.before.before.before.before.before.requires in record { sfits = omega (arith, p.1.1.proper.small) }

rounded-requires-2 : tie.Need-rounded-requires-2
rounded-requires-2 c κs =
    let p = c.before.before.before.before.before.before.before.before.before.before.before.requires in
    let k = p.1.1.proper in
    (read_on_table p.0.x1, (read_on_table p.0.x2, ((k.long, k.small), omega (arith, k.order, k.high))))

side-met-requires-2 : tie.Need-side_met-requires-2
side-met-requires-2 c κs = search rules

returns-3 : tie.Need-returns
returns-3 c =
    let begin = c.before.before.before.before.before.before.before.before.before.before.before.before.before.before.before.before in
    let a = begin.args in
    let p = begin.requires in
    let k = p.1.1.proper in
    let n = sym (wide (end_small k)) in
    let d = sym (wide k.small) in
    let u = sym (back w32 _ c.before.before.before.before.rounded-2.type_inv) in
    let v = sym (back w32 a.y.to c.struct_told-6-1.given.1.1.1.1.0.1) in
    let i = sym (c.before.side_met-2.ensures ∙ (λ j. side_met (read_is p.0.y2 j) (read_is p.0.y1 j) 2 3)) in
    let later = c.before.before.before.before.before.before.before.before.before.if-x-y.false in
    transport (λ j. FinishOf a.s a.x a.y (record { t = record { num = n j; den = d j }; x = u j; y = v j; side = i j }))
    (finish_y p.1.0 p.1.1 later (rounded_plain (pos a.y.end) p.0.x1 p.0.x2 c.before.before.before.before.rounded-2.ensures))

pub finish_spec : {M : Type 1} → statement M
finish_spec =
    tie.close
    (tie.spec
    returns
    mul-if3
    mul-if3-2
    cast-t9
    cast-t10
    rounded-requires
    side-met-requires
    returns-2
    cast-t14
    cast-t15
    rounded-requires-2
    side-met-requires-2
    returns-3)
