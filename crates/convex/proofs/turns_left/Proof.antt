-- `convex::turns_left` meets its contract: the two products fit 32 bits, and one is less than the other where the difference is positive. Assumes nothing.
use mathlib.Core.Path.{◌∙◌}
use mathlib.Core.List.{List, [], ◌∷◌}
use Prim.Native.Nat.{ℕ}
use lib.IntN.{◌*ℤ◌}
use lib.Signed.{lt_z}
use mir.Syntax.{w32}
use Rattle.whole.proofs.Comparisons.{diff_test}
use Rattle.whole.proofs.Expressions.{Env}
use Rattle.whole.proofs.Machine.{Code, par, mul, need, value}
use Rattle.whole.proofs.Ranges.{Bounds}
use Rattle.convex.specs.Ways.{turns_left}
use Rattle.convex.proofs.turns_left.Statement.{statement}
use Rattle.convex.proofs.turns_left.Tie as tie

abbrev env : tie.Start → Env
env c = c.args.a.x ∷ c.args.a.y ∷ c.args.b.x ∷ c.args.b.y ∷ []

abbrev β : List ℕ
β = 32766 ∷ 32766 ∷ 32766 ∷ 32766 ∷ []

bounds : (c : tie.Start) → Bounds β (env c)
bounds c = (c.requires.0.x, (c.requires.0.y, (c.requires.1.x, (c.requires.1.y, tt))))

abbrev product : ℕ → ℕ → Code
product i j = mul w32 (par w32 i) (par w32 j)

mul-result : tie.Need-overflow_mul-result
mul-result c = let s = c.before.before.before.before in need β (env s) (bounds s) (product 1 2) tt

mul-result-2 : tie.Need-overflow_mul-result-2
mul-result-2 c = let s = c.before.before.before.before.before.before.before.before in need β (env s) (bounds s) (product 0 3) tt

returns : tie.Need-returns
unfolding turns_left
returns c =
    let s = c.before.before.before.before.before.before.before.before in
    let v = value β (env s) (bounds s) in
    (λ i. lt_z (v (product 1 2) tt i) (v (product 0 3) tt i)) ∙ diff_test (s.args.a.y *ℤ s.args.b.x) (s.args.a.x *ℤ s.args.b.y)

pub turns_left_spec : {M : Type 1} → statement M
turns_left_spec = tie.close (tie.spec mul-result mul-result-2 returns)
