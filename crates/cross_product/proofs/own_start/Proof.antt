-- `cross_product::own_start` meets its contract: the point there is the stroke's own end. Assumes nothing.
use mathlib.Core.Path.{refl, sym, subst₂}
use lib.IntN.{ℤ}
use Rattle.whole.proofs.Order.{zarith}
use Rattle.spans.specs.Parts.{zeroth}
use Rattle.spans.specs.Sides.{no_side}
use Rattle.strokes.specs.Workers.{EndAt}
use Rattle.strokes.proofs.Points.{point_start}
use Rattle.strokes.proofs.Reading.{read_is}
use Rattle.cross_product.proofs.own_start.Statement.{statement}
use Rattle.cross_product.proofs.own_start.Tie as tie

returns : tie.Need-returns
returns c =
    let s = c.before.args.s in
    let on = c.before.requires in
    subst₂ (λ (u v : ℤ). EndAt s zeroth no_side (record { t = zeroth; x = u; y = v; side = no_side })) (sym (read_is on.x1)) (sym (read_is on.y1))
    (record { t = refl; point = point_start {f = zeroth} (omega zarith) refl; side = refl })

pub own_start_spec : {M : Type 1} → statement M
own_start_spec = tie.close (tie.spec returns)
