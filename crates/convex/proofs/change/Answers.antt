-- Two tests that differ are one that holds and one that does not.
use Rattle.std.proofs.Common.{◌≡◌, ◌^◌, ◌<◌, Bool, true, false, pos, refl, ◌∙◌, rules, w32}
use mathlib.Core.Bool.{not, beq, xor}
use lib.Signed.{mag, lt_z}
use mir.Val.{bool_byte}
use Rattle.whole.specs.Choice.{when◌then◌else◌}
use Rattle.whole.proofs.Comparisons.{back}
use Rattle.convex.specs.Ways.{change_of}
use Rattle.convex.proofs.change.Goals as goal

counted : (s t : Bool) → bool_byte (not (beq s t)) ≡ (when xor s t then 1 else 0)
unfolding xor
counted true true = refl
counted true false = refl
counted false true = refl
counted false false = refl

pub returns : goal.returns
unfolding change_of
returns c =
    let a : mag c.args.a.y < 2 ^ 31 = search rules in
    let b : mag c.args.b.y < 2 ^ 31 = search rules in
    c.from.ensures ∙ counted _ _ ∙ (λ i. when xor (lt_z (back w32 c.args.a.y a i) (pos 0)) (lt_z (back w32 c.args.b.y b i) (pos 0)) then 1 else 0)
