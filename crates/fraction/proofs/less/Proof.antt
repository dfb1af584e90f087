-- `fraction::less` meets its contract: the two products fit, so the machine compares the cross products themselves. Assumes nothing.
use native.Mathlib.Omega.{arith}
use lib.IntN.{ℤ, ◌*ℤ◌}
use lib.Signed.{lt_z}
use mir.Syntax.{w64}
use mir.Val.{SFits, to_z, of_z}
use mir.Facts.{to_z-of_z}
use Rattle.whole.specs.Within.{Within}
use Rattle.whole.proofs.Ranges.{within_abs, fits_abs}
use Rattle.fraction.specs.Fraction.{less_than}
use Rattle.fraction.proofs.Reading.{Reads, reads}
use Rattle.fraction.proofs.less.Statement.{statement}
use Rattle.fraction.proofs.less.Tie as tie

-- the product of two fields, as the machine has it
abbrev Product : ℤ → ℤ → Type 0
Product x y = Reads w64 (to_z w64 (of_z w64 x) *ℤ to_z w64 (of_z w64 y)) (x *ℤ y)

product : (x y : ℤ) → SFits w64 x → SFits w64 y → Within 9223372036854775807 (x *ℤ y) → Product x y
product x y p q h = reads (λ i. to_z-of_z p i *ℤ to_z-of_z q i) (fits_abs (omega (arith, within_abs h)))

one : (c : tie.After-struct_told-2-1) → let s = c.before.before.before.before in Product s.args.f.num s.args.g.den
one c =
    let s = c.before.before.before.before in
    product s.args.f.num s.args.g.den (record { sfits = c.before.before.struct_told-1.given.0.1 })
    (record { sfits = c.struct_told-2-1.given.1.0.1 }) s.requires.one

other : (c : tie.After-struct_told-4-1) → let s = c.before.before.before.before.before.before.before.before in Product s.args.g.num s.args.f.den
other c =
    let s = c.before.before.before.before.before.before.before.before in
    product s.args.g.num s.args.f.den (record { sfits = c.before.before.struct_told-3-1.given.0.1 })
    (record { sfits = c.struct_told-4-1.given.1.0.1 }) s.requires.other

mul-result : tie.Need-overflow_mul-result
mul-result c = (one c).fits

mul-result-2 : tie.Need-overflow_mul-result-2
mul-result-2 c = (other c).fits

returns : tie.Need-returns
unfolding less_than
returns c = λ i. lt_z ((one c.before.before.before.before).is i) ((other c).is i)

pub less_spec : {M : Type 1} → statement M
less_spec = tie.close (tie.spec mul-result mul-result-2 returns)
