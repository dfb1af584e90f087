-- Each side is the lesser or the greater of the old one and the point.
use mathlib.Core.Path.{◌≡◌, ◌∙◌}
use Rattle.whole.specs.Extremes.{lesser, greater}
use borrow.Author.Rules.{rules}
use mir.Facts.{to_z-of_z}
use mir.Syntax.{w32}
use Rattle.whole.proofs.Comparisons.{back}
use Rattle.view.proofs.around.Statement.{statement}
use Rattle.view.proofs.around.Tie as tie

lesser-requires : tie.Need-lesser-requires
lesser-requires c κs = search rules

lesser-requires-2 : tie.Need-lesser-requires-2
lesser-requires-2 c κs = search rules

greater-requires : tie.Need-greater-requires
greater-requires c κs = search rules

greater-requires-2 : tie.Need-greater-requires-2
greater-requires-2 c κs = search rules

returns : tie.Need-returns
returns c =
    let s = c.before.before.before.before.before.before.before.before in
    let r = s.args.r in
    let t = c.before.before.before.before.before.before.before.struct_told-1.given in
    let a = c.before.before.before.before.before.before.lesser in
    let b = c.before.before.before.before.lesser-2 in
    let d = c.before.before.greater in
    let e = c.greater-2 in
    let left : a.result ≡ lesser r.left s.args.x = simp (back w32 r.left t.0.1, to_z-of_z s.ranges.x) at a.ensures in
    let bottom : b.result ≡ lesser r.bottom s.args.y = simp (back w32 r.bottom t.1.0.1, to_z-of_z s.ranges.y) at b.ensures in
    let right : d.result ≡ greater r.right s.args.x = simp (back w32 r.right t.1.1.0.1, to_z-of_z s.ranges.x) at d.ensures in
    let top : e.result ≡ greater r.top s.args.y = simp (back w32 r.top t.1.1.1.0.1, to_z-of_z s.ranges.y) at e.ensures in
    λ i. record {
      left = (back w32 a.result a.type_inv ∙ left) i;
      bottom = (back w32 b.result b.type_inv ∙ bottom) i;
      right = (back w32 d.result d.type_inv ∙ right) i;
      top = (back w32 e.result e.type_inv ∙ top) i;
    }

pub around_spec : {M : Type 1} → statement M
around_spec = tie.close (tie.spec lesser-requires lesser-requires-2 greater-requires greater-requires-2 returns)
