-- `convex::way_from` meets its contract: the difference of two coordinates of the table fits 32 bits. Assumes nothing.
use mathlib.Core.Path.{◌≡◌, sym, subst}
use mathlib.Core.List.{List, [], ◌∷◌}
use Prim.Native.Nat.{ℕ}
use mir.Syntax.{w32}
use Rattle.whole.proofs.Expressions.{Env}
use Rattle.whole.proofs.Machine.{Code, par, sub, machine, need, value}
use Rattle.whole.proofs.Ranges.{Bounds}
use Rattle.grid.specs.Table.{farthest}
use Rattle.convex.specs.Ways.{Short, way_from}
use Rattle.convex.proofs.Places.{way_short}
use Rattle.convex.proofs.way_from.Statement.{statement}
use Rattle.convex.proofs.way_from.Tie as tie

abbrev env : tie.Start → Env
env c = c.args.a.x ∷ c.args.a.y ∷ c.args.b.x ∷ c.args.b.y ∷ []

abbrev β : List ℕ
β = farthest ∷ farthest ∷ farthest ∷ farthest ∷ []

bounds : (c : tie.Start) → Bounds β (env c)
bounds c = (c.requires.0.x, (c.requires.0.y, (c.requires.1.x, (c.requires.1.y, tt))))

abbrev less : ℕ → ℕ → Code
less i j = sub w32 (par w32 i) (par w32 j)

abbrev start : tie.After-struct_told-4-1 → tie.Start
start c = c.before.before.before.before.before.before.before.before

sub-t3 : tie.Need-overflow_sub-result
sub-t3 c = let s = c.before.before.before.before in need β (env s) (bounds s) (less 2 0) tt

sub-t4 : tie.Need-overflow_sub-result-2
sub-t4 c = need β (env (start c)) (bounds (start c)) (less 3 1) tt

is : (c : tie.After-struct_told-4-1)
    → record { x = machine (env (start c)) (less 2 0); y = machine (env (start c)) (less 3 1) } ≡ way_from (start c).args.a (start c).args.b
is c = let v = value β (env (start c)) (bounds (start c)) in λ i. record { x = v (less 2 0) tt i; y = v (less 3 1) tt i }

returns : tie.Need-returns
returns c = let p = (start c).requires in (is c, subst Short (sym (is c)) (way_short p.0 p.1))

pub way_from_spec : {M : Type 1} → statement M
way_from_spec = tie.close (tie.spec sub-t3 sub-t4 returns)
