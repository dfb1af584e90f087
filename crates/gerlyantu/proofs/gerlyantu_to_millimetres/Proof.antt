-- `gerlyantu::gerlyantu_to_millimetres` meets its contract: the number as it is read is the number. Assumes nothing.
use mathlib.Core.Path.{subst}
use borrow.Author.Rules.{rules}
use lib.IntN.{ℤ}
use mir.Facts.{to_z-of_z}
use Rattle.intake.specs.Millimetres.{ToMillimetres}
use Rattle.gerlyantu.proofs.gerlyantu_to_millimetres.Statement.{statement}
use Rattle.gerlyantu.proofs.gerlyantu_to_millimetres.Tie as tie

to-millimetres-requires : tie.Need-to_millimetres-requires
to-millimetres-requires c κs = search rules

returns : tie.Need-returns
returns c = subst (λ (g : ℤ). ToMillimetres g c.to_millimetres.result) (to_z-of_z c.before.ranges.g) c.to_millimetres.ensures

pub gerlyantu_to_millimetres_spec : {M : Type 1} → statement M
gerlyantu_to_millimetres_spec = tie.close (tie.spec to-millimetres-requires returns)
