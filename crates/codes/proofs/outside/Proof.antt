-- `codes::outside` meets its contract: the numbers are small, so the machine computes what is meant, and each bit is the test of a difference's sign. Assumes nothing.
use mathlib.Core.Path.{◌≡◌, ap, ◌∙◌}
use mathlib.Core.Bool.{Bool}
use mathlib.Core.List.{List, [], ◌∷◌}
use Prim.Native.Nat.{ℕ}
use borrow.Author.Rules.{rules}
use lib.Bits.{bit_or}
use lib.Dec.{T}
use lib.IntN.{pos, ◌-ℤ◌}
use lib.Signed.{lt_z}
use mir.Syntax.{w32, w64}
use Rattle.whole.proofs.Comparisons.{diff_test}
use Rattle.whole.specs.Choice.{when◌then◌else◌}
use Rattle.whole.proofs.Expressions.{Env, means}
use Rattle.whole.proofs.Machine.{Code, par, add, sub, mul, cast, need, value, erase, machine, ok}
use Rattle.whole.proofs.Ranges.{Bounds}
use Rattle.grid.specs.Table.{farthest}
use Rattle.spans.proofs.Parts.{time_within}
use Rattle.codes.proofs.outside.Statement.{statement}
use Rattle.codes.proofs.outside.Tie as tie

abbrev env : tie.Start → Env
env c = c.args.lo ∷ c.args.hi ∷ c.args.a ∷ c.args.b ∷ c.args.t.num ∷ c.args.t.den ∷ []

abbrev β : List ℕ
β = farthest ∷ farthest ∷ farthest ∷ farthest ∷ 32766 ∷ 32766 ∷ []

bounds : (c : tie.Start) → Bounds β (env c)
bounds c =
    let p = c.requires.1.1 in
    let t = p.1.1 in
    (c.requires.0, (c.requires.1.0, (p.0, (p.1.0, (time_within t.time t.small, (t.small, tt))))))

-- i times the denominator; the run; the coordinate
abbrev times : ℕ → Code
times i = mul w64 (cast w64 (par w32 i)) (par w64 5)

abbrev run : Code
run = sub w32 (par w32 3) (par w32 2)

abbrev part : Code
part = mul w64 (par w64 4) (cast w64 run)

abbrev x : Code
x = add w64 (times 2) part

cast-x : tie.Need-overflow_cast-x
cast-x c = need β (env c) (bounds c) (cast w64 (par w32 2)) tt

mul-x : tie.Need-overflow_mul-x
mul-x c = let a = c.before.before in need β (env a) (bounds a) (times 2) tt

sub-x : tie.Need-overflow_sub-x
sub-x c = let a = c.before.before in need β (env a) (bounds a) run tt

cast-x-2 : tie.Need-overflow_cast-x-2
cast-x-2 c = let a = c.before.before in need β (env a) (bounds a) (cast w64 run) tt

mul-x-2 : tie.Need-overflow_mul-x-2
mul-x-2 c = let a = c.before.before.before.before in need β (env a) (bounds a) part tt

add-x : tie.Need-overflow_add-x
add-x c = let a = c.before.before.before.before in need β (env a) (bounds a) x tt

cast-mark : tie.Need-overflow_cast-lo
cast-mark c = let a = c.before.before.before.before in need β (env a) (bounds a) (cast w64 (par w32 0)) tt

mul-mark : tie.Need-overflow_mul-lo
mul-mark c = let a = c.before.before.before.before.before.before in need β (env a) (bounds a) (times 0) tt

mark-requires : tie.Need-mark-requires
mark-requires c κs = search rules

cast-mark-2 : tie.Need-overflow_cast-hi
cast-mark-2 c = let a = c.before.before.before.before.before.before.before in need β (env a) (bounds a) (cast w64 (par w32 1)) tt

mul-mark-2 : tie.Need-overflow_mul-hi
mul-mark-2 c = let a = c.before.before.before.before.before.before.before.before.before in need β (env a) (bounds a) (times 1) tt

mark-requires-2 : tie.Need-mark-requires-2
mark-requires-2 c κs = search rules

-- the test that the code makes, as the sign of a difference
tested : (c : tie.Start) (k l : Code) → T (ok β k) → T (ok β l)
    → lt_z (machine (env c) k) (machine (env c) l) ≡ lt_z (pos 0) (means (env c) (erase l) -ℤ means (env c) (erase k))
tested c k l s t = (λ i. lt_z (value β (env c) (bounds c) k s i) (value β (env c) (bounds c) l t i)) ∙ diff_test (means (env c) (erase k)) (means (env c) (erase l))

marked : (n : ℕ) {m : ℕ} {t u : Bool} → m ≡ (when t then n else 0) → t ≡ u → m ≡ (when u then n else 0)
marked n p q = p ∙ ap (λ (b : Bool). when b then n else 0) q

returns : tie.Need-returns
returns c =
    let a = c.before.before.before.before.before.before.before.before.before.before in
    λ i. bit_or (marked a.args.under c.before.before.before.mark.ensures (tested a x (times 0) tt tt) i)
    (marked a.args.over c.mark-2.ensures (tested a (times 1) x tt tt) i)

pub outside_spec : {M : Type 1} → statement M
outside_spec = tie.close (tie.spec cast-x mul-x sub-x cast-x-2 mul-x-2 add-x cast-mark mul-mark mark-requires cast-mark-2 mul-mark-2 mark-requires-2 returns)
