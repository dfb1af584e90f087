-- Two products of ways of the table, and their difference, fit 64 bits.
use mir.Syntax.{w32, w64}
use Rattle.std.proofs.Common.{ℕ, List, [], ◌∷◌}
use Rattle.whole.proofs.Expressions.{Env}
use Rattle.whole.proofs.Machine.{Code, par, sub, mul, cast, need, value}
use Rattle.convex.specs.declared.Way.{Way}
use Rattle.corners.proofs.cross.Goals as goal

abbrev ways : Way → Way → Env
ways a b = a.x ∷ a.y ∷ b.x ∷ b.y ∷ []

abbrev most : List ℕ
most = 32766 ∷ 32766 ∷ 32766 ∷ 32766 ∷ []

abbrev product : ℕ → ℕ → Code
product i j = mul w64 (cast w64 (par w32 i)) (cast w64 (par w32 j))

abbrev difference : Code
difference = sub w64 (product 0 3) (product 1 2)

pub overflow_sub-result : goal.overflow_sub-result
overflow_sub-result c =
    let a = c.requires.short in
    let b = c.requires.short_2 in
    need most (ways c.args.a c.args.b) (a.x, (a.y, (b.x, (b.y, tt)))) difference tt

pub returns : goal.returns
returns c =
    let a = c.requires.short in
    let b = c.requires.short_2 in
    value most (ways c.args.a c.args.b) (a.x, (a.y, (b.x, (b.y, tt)))) difference tt
