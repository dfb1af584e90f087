-- `cross_product::start` meets its contract: each way out has its law in Given. Assumes nothing.
use mathlib.Core.Path.{◌≡◌, ap, subst, ◌∙◌}
use mathlib.Core.Bool.{Bool}
use borrow.Author.Rules.{rules}
use Rattle.spans.specs.Sides.{FirstOf}
use Rattle.strokes.specs.Sides.{four_sides}
use Rattle.crossed_sides.specs.Line.{ComesIn, entry_side}
use Rattle.cross_product.proofs.Given.{behind, ahead, x_small, y_small}
use Rattle.cross_product.proofs.Given.{own_start_level, start_level_asks, start_level_found, own_start_upright, start_upright_asks, start_upright_found}
use Rattle.cross_product.proofs.start.Statement.{statement}
use Rattle.cross_product.proofs.start.Tie as tie

-- the side that was found, for the level that was tested
first : (c : tie.Start) {t : Bool} → c.args.level ≡ t → FirstOf (ComesIn c.args.w c.args.s) four_sides (entry_side c.args.s t)
first c e = subst (λ (t : Bool). FirstOf (ComesIn c.args.w c.args.s) four_sides (entry_side c.args.s t)) e c.requires.1.1.1.1.1

own-start-requires : tie.Need-own_start-requires
own-start-requires c κs = c.before.before.before.before.requires.1.0

returns : tie.Need-returns-then-y-le0
returns c =
    let st = c.before.before.before.before.before in
    let p = st.requires in
    let y = y_small p.0 p.1.0 p.1.1.0 p.1.1.1.0 p.1.1.1.1.0 in
    own_start_level p.0 p.1.0 p.1.1.0 p.1.1.1.0 p.1.1.1.1.0 (first st c.if-level.true) (behind y.1.0 c.if-y-le0.true) c.own_start.ensures

entry-side-requires : tie.Need-entry_side-requires
entry-side-requires c κs = search rules

at-level-requires : tie.Need-at_level-requires
at-level-requires c κs =
    let st = c.before.before.before.before.before.before.before.before in
    let p = st.requires in
    let y = y_small p.0 p.1.0 p.1.1.0 p.1.1.1.0 p.1.1.1.1.0 in
    (p.1.0, start_level_asks p.0 p.1.0 p.1.1.0 p.1.1.1.0 p.1.1.1.1.0 (first st c.if-level.true) (ahead y.1.0 c.if-y-le0.false))

returns-2 : tie.Need-returns-then-level
returns-2 c =
    let st = c.before.before.before.before.before.before.before.before.before in
    let p = st.requires in
    let y = y_small p.0 p.1.0 p.1.1.0 p.1.1.1.0 p.1.1.1.1.0 in
    let l = c.if-level.true in
    start_level_found p.0 p.1.0 p.1.1.0 p.1.1.1.0 p.1.1.1.1.0 (first st l) (ahead y.1.0 c.if-y-le0.false)
    (c.entry_side.ensures ∙ ap (entry_side st.args.s) l) c.at_level.ensures

own-start-requires-2 : tie.Need-own_start-requires-then-x-le0
own-start-requires-2 c κs = c.before.before.before.before.requires.1.0

returns-3 : tie.Need-returns-then-x-le0
returns-3 c =
    let st = c.before.before.before.before.before in
    let p = st.requires in
    let x = x_small p.0 p.1.0 p.1.1.0 p.1.1.1.0 p.1.1.1.1.0 in
    own_start_upright p.0 p.1.0 p.1.1.0 p.1.1.1.0 p.1.1.1.1.0 (first st c.if-level.false) (behind x.1.0 c.if-x-le0.true) c.own_start-then-x-le0.ensures

entry-side-requires-2 : tie.Need-entry_side-requires-2
entry-side-requires-2 c κs = search rules

at-upright-requires : tie.Need-at_upright-requires
at-upright-requires c κs =
    let st = c.before.before.before.before.before.before.before.before in
    let p = st.requires in
    let x = x_small p.0 p.1.0 p.1.1.0 p.1.1.1.0 p.1.1.1.1.0 in
    (p.1.0, start_upright_asks p.0 p.1.0 p.1.1.0 p.1.1.1.0 p.1.1.1.1.0 (first st c.if-level.false) (ahead x.1.0 c.if-x-le0.false))

returns-4 : tie.Need-returns
returns-4 c =
    let st = c.before.before.before.before.before.before.before.before.before in
    let p = st.requires in
    let x = x_small p.0 p.1.0 p.1.1.0 p.1.1.1.0 p.1.1.1.1.0 in
    let l = c.if-level.false in
    start_upright_found p.0 p.1.0 p.1.1.0 p.1.1.1.0 p.1.1.1.1.0 (first st l) (ahead x.1.0 c.if-x-le0.false)
    (c.entry_side-2.ensures ∙ ap (entry_side st.args.s) l) c.at_upright.ensures

pub start_spec : {M : Type 1} → statement M
start_spec =
    tie.close
    (tie.spec
    own-start-requires
    returns
    entry-side-requires
    at-level-requires
    returns-2
    own-start-requires-2
    returns-3
    entry-side-requires-2
    at-upright-requires
    returns-4)
