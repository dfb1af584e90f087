-- `strokes::ends::start` meets its contract: each case has its law in Meetings. Assumes nothing.
use mathlib.Core.Path.{◌≡◌, sym, subst₂, transport, ◌∙◌}
use Prim.Native.Nat.{ℕ, ◌≤◌}
use native.Mathlib.Omega.{arith}
use borrow.Author.Rules.{rules}
use lib.IntN.{ℤ, pos}
use mir.Syntax.{w32, w64}
use mir.Val.{to_z}
use mir.Facts.{to_z_pos}
use Rattle.whole.proofs.Comparisons.{back}
use Rattle.spans.specs.Parts.{zeroth}
use Rattle.spans.specs.Sides.{no_side}
use Rattle.strokes.specs.Workers.{side_met, StartOf}
use Rattle.strokes.proofs.Meetings.{product_fits, start_small, later_start, start_none, start_x, start_y}
use Rattle.strokes.proofs.Reading.{read_is, read_on_table, rounded_plain}
use Rattle.strokes.proofs.ends.start.Lts.{then-x-eq0+else-y-eq0, else-x-eq0}
use Rattle.strokes.proofs.ends.start.Statement.{statement}
use Rattle.strokes.proofs.ends.start.Tie as tie

-- a number of a short way, as it is cast
wide : {k : ℕ} → k ≤ 32766 → to_z w64 k ≡ pos k
wide {k} h = to_z_pos w64 (omega arith)

-- ---- at the stroke's own end
returns : tie.Need-returns-then-y-eq0
returns c =
    let a = c.before.before.before.before.before.args in
    let p = c.before.before.before.before.before.requires in
    subst₂ (λ (u v : ℤ). StartOf a.s a.x a.y (record { t = zeroth; x = u; y = v; side = no_side })) (sym (read_is p.0.x1)) (sym (read_is p.0.y1))
    (start_none p.1.0 p.1.1 c.before.before.before.if-x-eq0.true c.before.if-y-eq0.true)

mul-if3 : tie.Need-overflow_mul-y
mul-if3 c = let p = c.before.before.before.before.requires in product_fits (start_small p.1.1.proper) p.1.0.proper.small

mul-if3-2 : tie.Need-overflow_mul-x
mul-if3-2 c = let p = c.before.before.before.before.before.before.requires in product_fits (start_small p.1.0.proper) p.1.1.proper.small

-- ---- on a side of the x axis
cast-t9 : tie.Need-overflow_cast-result
cast-t9 c = let p = c.before.before.before.before.before.before.before.before.requires in record { sfits = omega (arith, start_small p.1.0.proper) }

cast-t10 : tie.Need-overflow_cast-result-then-y-x
cast-t10 c = let p = c.before.before.before.before.before.before.before.before.before.requires in record { sfits = omega (arith, p.1.0.proper.small) }

rounded-requires : tie.Need-rounded-requires
rounded-requires c κs =
    let p = c.before.before.before.before.before.before.before.before.before.before.before.requires in
    let k = p.1.0.proper in
    (read_on_table p.0.y1, (read_on_table p.0.y2, ((k.long, k.small), omega (arith, k.order, k.high))))

side-met-requires : tie.Need-side_met-requires
side-met-requires c κs = search rules

returns-2 : tie.Need-returns-then-y-x
returns-2 c =
    let start = c.before.before.before.before.before.before.before.before.before.before.before.before.before.before.before.before in
    let a = start.args in
    let p = start.requires in
    let k = p.1.0.proper in
    let n = sym (wide (start_small k)) in
    let d = sym (wide k.small) in
    let u = sym (back w32 a.x.at c.struct_told-then-y-x-5-1.given.1.1.1.0.1) in
    let v = sym (back w32 _ c.before.before.before.before.rounded.type_inv) in
    let i = sym (c.before.side_met.ensures ∙ (λ j. side_met (read_is p.0.x1 j) (read_is p.0.x2 j) 0 1)) in
    let came = c.before.before.before.before.before.before.before.before.before.before.before.before.before.before.if-x-eq0.branch in
    let not_both : a.x.start ≡ 0 → a.y.start ≡ 0 → ⊥ = λ e f.
    elim came [ then-x-eq0+else-y-eq0 w ↦ w.if-y-eq0.false f | else-x-eq0 w ↦ w.if-x-eq0.false e ] in
    let taken = c.before.before.before.before.before.before.before.before.before.if-y-x.true in
    transport (λ j. StartOf a.s a.x a.y (record { t = record { num = n j; den = d j }; x = u j; y = v j; side = i j }))
    (start_x p.1.0 p.1.1 (later_start a.x.start a.y.start a.x.long a.y.long not_both k.long taken) taken
    (rounded_plain (pos a.x.start) p.0.y1 p.0.y2 c.before.before.before.before.rounded.ensures))

-- ---- on a side of the y axis
cast-t14 : tie.Need-overflow_cast-result-2
cast-t14 c = let p = c.before.before.before.before.before.before.before.before.requires in record { sfits = omega (arith, start_small p.1.1.proper) }

cast-t15 : tie.Need-overflow_cast-result-3
cast-t15 c = let p = c.before.before.before.before.before.before.before.before.before.requires in record { sfits = omega (arith, p.1.1.proper.small) }

rounded-requires-2 : tie.Need-rounded-requires-2
rounded-requires-2 c κs =
    let p = c.before.before.before.before.before.before.before.before.before.before.before.requires in
    let k = p.1.1.proper in
    (read_on_table p.0.x1, (read_on_table p.0.x2, ((k.long, k.small), omega (arith, k.order, k.high))))

side-met-requires-2 : tie.Need-side_met-requires-2
side-met-requires-2 c κs = search rules

returns-3 : tie.Need-returns
returns-3 c =
    let start = c.before.before.before.before.before.before.before.before.before.before.before.before.before.before.before.before in
    let a = start.args in
    let p = start.requires in
    let k = p.1.1.proper in
    let n = sym (wide (start_small k)) in
    let d = sym (wide k.small) in
    let u = sym (back w32 _ c.before.before.before.before.rounded-2.type_inv) in
    let v = sym (back w32 a.y.at c.struct_told-6-1.given.1.1.1.0.1) in
    let i = sym (c.before.side_met-2.ensures ∙ (λ j. side_met (read_is p.0.y1 j) (read_is p.0.y2 j) 2 3)) in
    let later = c.before.before.before.before.before.before.before.before.before.if-y-x.false in
    transport (λ j. StartOf a.s a.x a.y (record { t = record { num = n j; den = d j }; x = u j; y = v j; side = i j }))
    (start_y p.1.0 p.1.1 later (rounded_plain (pos a.y.start) p.0.x1 p.0.x2 c.before.before.before.before.rounded-2.ensures))

pub start_spec : {M : Type 1} → statement M
start_spec =
    tie.close
    (tie.spec
    returns
    mul-if3
    mul-if3-2
    cast-t9
    cast-t10
    rounded-requires
    side-met-requires
    returns-2
    cast-t14
    cast-t15
    rounded-requires-2
    side-met-requires-2
    returns-3)
