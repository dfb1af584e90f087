-- `cross_product::finish` meets its contract: each way out has its law in Given. Assumes nothing.
use mathlib.Core.Path.{◌≡◌, ap, subst, ◌∙◌}
use mathlib.Core.Bool.{Bool}
use borrow.Author.Rules.{rules}
use Rattle.spans.specs.Sides.{FirstOf}
use Rattle.strokes.specs.Sides.{four_sides}
use Rattle.crossed_sides.specs.Line.{GoesOut, exit_side}
use Rattle.cross_product.proofs.Given.{within_reach, cut_off, x_small, y_small}
use Rattle.cross_product.proofs.Given.{own_end_level, end_level_asks, end_level_found, own_end_upright, end_upright_asks, end_upright_found}
use Rattle.cross_product.proofs.finish.Statement.{statement}
use Rattle.cross_product.proofs.finish.Tie as tie

-- the side that was found, for the level that was tested
first : (c : tie.Start) {t : Bool} → c.args.level ≡ t → FirstOf (GoesOut c.args.w c.args.s) four_sides (exit_side c.args.s t)
first c e = subst (λ (t : Bool). FirstOf (GoesOut c.args.w c.args.s) four_sides (exit_side c.args.s t)) e c.requires.1.1.1.1.1

own-end-requires : tie.Need-own_end-requires
own-end-requires c κs = c.before.before.before.before.requires.1.0

returns : tie.Need-returns-then-y
returns c =
    let st = c.before.before.before.before.before in
    let p = st.requires in
    let y = y_small p.0 p.1.0 p.1.1.0 p.1.1.1.0 p.1.1.1.1.0 in
    own_end_level p.0 p.1.0 p.1.1.0 p.1.1.1.0 p.1.1.1.1.0 (first st c.if-level.true) (within_reach y.0 y.1.1 c.if-y.true) c.own_end.ensures

exit-side-requires : tie.Need-exit_side-requires
exit-side-requires c κs = search rules

at-level-requires : tie.Need-at_level-requires
at-level-requires c κs =
    let st = c.before.before.before.before.before.before.before.before in
    let p = st.requires in
    let y = y_small p.0 p.1.0 p.1.1.0 p.1.1.1.0 p.1.1.1.1.0 in
    (p.1.0, end_level_asks p.0 p.1.0 p.1.1.0 p.1.1.1.0 p.1.1.1.1.0 (first st c.if-level.true) (cut_off y.0 y.1.1 c.if-y.false))

returns-2 : tie.Need-returns-then-level
returns-2 c =
    let st = c.before.before.before.before.before.before.before.before.before in
    let p = st.requires in
    let y = y_small p.0 p.1.0 p.1.1.0 p.1.1.1.0 p.1.1.1.1.0 in
    let l = c.if-level.true in
    end_level_found p.0 p.1.0 p.1.1.0 p.1.1.1.0 p.1.1.1.1.0 (first st l) (cut_off y.0 y.1.1 c.if-y.false)
    (c.exit_side.ensures ∙ ap (exit_side st.args.s) l) c.at_level.ensures

own-end-requires-2 : tie.Need-own_end-requires-then-x
own-end-requires-2 c κs = c.before.before.before.before.requires.1.0

returns-3 : tie.Need-returns-then-x
returns-3 c =
    let st = c.before.before.before.before.before in
    let p = st.requires in
    let x = x_small p.0 p.1.0 p.1.1.0 p.1.1.1.0 p.1.1.1.1.0 in
    own_end_upright p.0 p.1.0 p.1.1.0 p.1.1.1.0 p.1.1.1.1.0 (first st c.if-level.false) (within_reach x.0 x.1.1 c.if-x.true) c.own_end-then-x.ensures

exit-side-requires-2 : tie.Need-exit_side-requires-2
exit-side-requires-2 c κs = search rules

at-upright-requires : tie.Need-at_upright-requires
at-upright-requires c κs =
    let st = c.before.before.before.before.before.before.before.before in
    let p = st.requires in
    let x = x_small p.0 p.1.0 p.1.1.0 p.1.1.1.0 p.1.1.1.1.0 in
    (p.1.0, end_upright_asks p.0 p.1.0 p.1.1.0 p.1.1.1.0 p.1.1.1.1.0 (first st c.if-level.false) (cut_off x.0 x.1.1 c.if-x.false))

returns-4 : tie.Need-returns
returns-4 c =
    let st = c.before.before.before.before.before.before.before.before.before in
    let p = st.requires in
    let x = x_small p.0 p.1.0 p.1.1.0 p.1.1.1.0 p.1.1.1.1.0 in
    let l = c.if-level.false in
    end_upright_found p.0 p.1.0 p.1.1.0 p.1.1.1.0 p.1.1.1.1.0 (first st l) (cut_off x.0 x.1.1 c.if-x.false)
    (c.exit_side-2.ensures ∙ ap (exit_side st.args.s) l) c.at_upright.ensures

pub finish_spec : {M : Type 1} → statement M
finish_spec =
    tie.close
    (tie.spec own-end-requires returns exit-side-requires at-level-requires returns-2 own-end-requires-2 returns-3 exit-side-requires-2 at-upright-requires returns-4)
