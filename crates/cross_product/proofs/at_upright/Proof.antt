-- `cross_product::at_upright` meets its contract: x is exactly that of the side, y is rounded. Assumes nothing.
use mathlib.Core.Path.{refl, sym, transport}
use native.Mathlib.Omega.{arith}
use mir.Syntax.{w32}
use mir.Facts.{to_z-of_z}
use Rattle.whole.proofs.Comparisons.{back}
use Rattle.fraction.proofs.Rounding.{rounded_exact}
use Rattle.strokes.specs.Workers.{EndAt}
use Rattle.strokes.proofs.Reading.{read_on_table}
use Rattle.cross_product.specs.Workers.{part_way}
use Rattle.cross_product.proofs.Steps.{num_cast, den_cast, num_range, den_range, num_wide, den_wide, rounded_there}
use Rattle.cross_product.proofs.at_upright.Statement.{statement}
use Rattle.cross_product.proofs.at_upright.Tie as tie

cast-num : tie.Need-overflow_cast-num
cast-num c = num_cast c.requires.1.way

cast-den : tie.Need-overflow_cast-den
cast-den c = den_cast c.requires.1.way

cast-t8 : tie.Need-overflow_cast-result
cast-t8 c = record { sfits = omega (arith, num_range c.requires.1.way, (den_range c.requires.1.way).1) }

cast-t9 : tie.Need-overflow_cast-result-2
cast-t9 c = record { sfits = omega (arith, (den_range c.requires.1.way).1) }

rounded-requires : tie.Need-rounded-requires
rounded-requires c κs =
    let p = c.before.before.requires in
    (read_on_table p.0.y1, (read_on_table p.0.y2, (den_range p.1.way, num_range p.1.way)))

returns : tie.Need-returns
returns c =
    let st = c.before.before.before in
    let a = st.args in
    let p = st.requires in
    let num = sym (num_wide p.1.way) in
    let den = sym (den_wide p.1.way) in
    let at = sym (to_z-of_z st.ranges.at) in
    let there = sym (back w32 _ c.rounded.type_inv) in
    transport (λ i. EndAt a.s (part_way a.n a.long) a.side (record { t = record { num = num i; den = den i }; x = at i; y = there i; side = a.side }))
    (record { t = refl; point = record { across = rounded_exact p.1.on p.1.way.time.den; up = rounded_there p.1.way p.0.y1 p.0.y2 c.rounded.ensures }; side = refl })

pub at_upright_spec : {M : Type 1} → statement M
at_upright_spec = tie.close (tie.spec cast-num cast-den cast-t8 cast-t9 rounded-requires returns)
