-- `codes::end_at` meets its contract: at 0 and at 1 the point is the stroke's own end; between, each coordinate is rounded. Assumes nothing.
use mathlib.Core.Path.{◌≡◌, refl, sym, subst₂, transport}
use Prim.Native.Nat.{ℕ, ◌<◌, ◌≤◌}
use native.Mathlib.Omega.{arith}
use lib.IntN.{ℤ, pos, nat_abs}
use lib.Signed.{◌≤ℤ◌}
use mir.Syntax.{w32, w64}
use mir.Val.{SFits, to_z, of_z}
use mir.Facts.{sfits_lit}
use Rattle.whole.specs.Within.{Within}
use Rattle.whole.proofs.Comparisons.{bits_eq, back, cast_unsigned, cast_is}
use Rattle.whole.proofs.Order.{zarith}
use Rattle.whole.proofs.Ranges.{within_abs, fits_abs}
use Rattle.fraction.specs.Rounding.{along, Rounded}
use Rattle.grid.specs.Table.{farthest}
use Rattle.spans.proofs.Parts.{time_within}
use Rattle.strokes.specs.Workers.{EndAt}
use Rattle.strokes.proofs.Reading.{read, read_is, read_on_table, rounded_plain}
use Rattle.strokes.proofs.Points.{point_start, point_finish}
use Rattle.codes.proofs.end_at.Statement.{statement}
use Rattle.codes.proofs.end_at.Tie as tie

-- ---- the fraction's numbers, as the code casts them
small_fits : {z : ℤ} → Within 32766 z → SFits w64 z
small_fits h = fits_abs (omega (arith, within_abs h))

num_small : (c : tie.Start) → Within 32766 c.args.t.num
num_small c = time_within c.requires.1.time c.requires.1.small

den_positive : (c : tie.Start) → pos 0 ≤ℤ c.args.t.den
den_positive c = let h = c.requires.1.time.den in omega zarith

abbrev cast : ℤ → ℕ
cast z = nat_abs (to_z w64 (of_z w64 z))

num_is : (c : tie.Start) → pos (cast c.args.t.num) ≡ c.args.t.num
num_is c = cast_is w64 (small_fits (num_small c)) c.requires.1.time.low

den_is : (c : tie.Start) → pos (cast c.args.t.den) ≡ c.args.t.den
den_is c = cast_is w64 (small_fits c.requires.1.small) (den_positive c)

den_range : (c : tie.Start) → (0 < cast c.args.t.den) × (cast c.args.t.den ≤ 32766)
den_range c = (omega (zarith, den_is c, c.requires.1.time.den), omega (zarith, den_is c, c.requires.1.small.high))

num_range : (c : tie.Start) → cast c.args.t.num ≤ cast c.args.t.den
num_range c = omega (zarith, num_is c, den_is c, c.requires.1.time.high)

-- ---- the two ends
-- the end at (x, y) is right
abbrev made : tie.Start → ℤ → ℤ → Type 0
made c x y = EndAt c.args.s c.args.t c.args.side (record { t = c.args.t; x = x; y = y; side = c.args.side })

returns : tie.Need-returns-then-t-eq0
returns c =
    let a = c.before.before.before.before in
    let s = a.requires.0 in
    subst₂ (made a) (sym (read_is s.x1)) (sym (read_is s.y1))
    (record {
      t = refl;
      point = point_start a.requires.1.time.den (bits_eq w64 (small_fits (num_small a)) (sfits_lit {z = pos 0} tt) c.before.if-t-eq0.true);
      side = refl;
    })

returns-2 : tie.Need-returns-then-t
returns-2 c =
    let a = c.before.before.before.before.before.before.before in
    let s = a.requires.0 in
    subst₂ (made a) (sym (read_is s.x2)) (sym (read_is s.y2))
    (record {
      t = refl;
      point = point_finish a.requires.1.time.den (bits_eq w64 (small_fits (num_small a)) (small_fits a.requires.1.small) c.before.if-t.true);
      side = refl;
    })

-- ---- between them
cast-n : tie.Need-overflow_cast-n
cast-n c =
    let a = c.before.before.before.before.before.before.before.before in
    cast_unsigned w64 (small_fits (num_small a)) a.requires.1.time.low w32 (omega (arith, within_abs (num_small a)))

cast-d : tie.Need-overflow_cast-d
cast-d c =
    let a = c.before.before.before.before.before.before.before.before.before.before in
    cast_unsigned w64 (small_fits a.requires.1.small) (den_positive a) w32 (omega (arith, within_abs a.requires.1.small))

rounded-requires : tie.Need-rounded-requires
rounded-requires c κs =
    let a = c.before.before.before.before.before.before.before.before.before.before.before.before in
    let s = a.requires.0 in
    (read_on_table s.x1, (read_on_table s.x2, (den_range a, num_range a)))

rounded-requires-2 : tie.Need-rounded-requires-2
rounded-requires-2 c κs =
    let a = c.before.before.before.before.before.before.before.before.before.before.before.before.before.before.before in
    let s = a.requires.0 in
    (read_on_table s.y1, (read_on_table s.y2, (den_range a, num_range a)))

-- what `rounded` ensures of the numbers as they are read and cast, of the numbers themselves
plain : (c : tie.Start) {a b r : ℤ} → Within farthest a → Within farthest b
    → Rounded (along (read a) (read b) (pos (cast c.args.t.num)) (pos (cast c.args.t.den))) (pos (cast c.args.t.den)) r
    → Rounded (along a b c.args.t.num c.args.t.den) c.args.t.den r
plain c {a} {b} {r} ha hb k = transport (λ i. Rounded (along a b (num_is c i) (den_is c i)) (den_is c i) r) (rounded_plain (pos (cast c.args.t.num)) ha hb k)

returns-3 : tie.Need-returns
returns-3 c =
    let a = c.before.before.before.before.before.before.before.before.before.before.before.before.before.before.before.before in
    let s = a.requires.0 in
    let k = c.before.before.before in
    subst₂ (made a) (sym (back w32 _ k.rounded.type_inv)) (sym (back w32 _ c.rounded-2.type_inv))
    (record { t = refl; point = record { across = plain a s.x1 s.x2 k.rounded.ensures; up = plain a s.y1 s.y2 c.rounded-2.ensures }; side = refl })

pub end_at_spec : {M : Type 1} → statement M
end_at_spec = tie.close (tie.spec returns returns-2 cast-n cast-d rounded-requires rounded-requires-2 returns-3)
