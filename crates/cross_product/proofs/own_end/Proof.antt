-- `cross_product::own_end` meets its contract: the point there is the stroke's own end. Assumes nothing.
use mathlib.Core.Path.{refl, sym, subst₂}
use lib.IntN.{ℤ}
use Rattle.whole.proofs.Order.{zarith}
use Rattle.spans.specs.Parts.{unit}
use Rattle.spans.specs.Sides.{no_side}
use Rattle.strokes.specs.Workers.{EndAt}
use Rattle.strokes.proofs.Points.{point_finish}
use Rattle.strokes.proofs.Reading.{read_is}
use Rattle.cross_product.proofs.own_end.Statement.{statement}
use Rattle.cross_product.proofs.own_end.Tie as tie

returns : tie.Need-returns
returns c =
    let s = c.before.args.s in
    let on = c.before.requires in
    subst₂ (λ (u v : ℤ). EndAt s unit no_side (record { t = unit; x = u; y = v; side = no_side })) (sym (read_is on.x2)) (sym (read_is on.y2))
    (record { t = refl; point = point_finish {f = unit} (omega zarith) refl; side = refl })

pub own_end_spec : {M : Type 1} → statement M
own_end_spec = tie.close (tie.spec returns)
