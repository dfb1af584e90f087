-- The difference of two i32 fits an i64, and is at most 2 ^ 32.
use mathlib.Core.Path.{◌≡◌, sym, ap, ◌∙◌, subst}
use mathlib.Core.List.{List, [], ◌∷◌}
use Prim.Native.Nat.{ℕ, ◌≤◌}
use borrow.Author.Rules.{rules}
use lib.IntN.{ℤ, nat_abs, ◌-ℤ◌}
use mir.Syntax.{w32, w64}
use mir.Val.{SFits, to_z, of_z}
use mir.Facts.{to_z-of_z}
use Rattle.whole.specs.Within.{Within}
use Rattle.whole.proofs.Comparisons.{fits_low, fits_high}
use Rattle.whole.proofs.Expressions.{Env}
use Rattle.whole.proofs.Order.{<→≤}
use Rattle.whole.proofs.Ranges.{Bounds, within, within_abs}
use Rattle.whole.proofs.Machine.{Code, raw, sub, cast, need, value, erase}
use Rattle.view.specs.Views.{apart}
use Rattle.view.proofs.apart.Statement.{statement}
use Rattle.view.proofs.apart.Tie as tie

abbrev env : tie.Start → Env
env c = to_z w32 (of_z w32 c.args.a) ∷ to_z w32 (of_z w32 c.args.b) ∷ []

abbrev β : List ℕ
β = 2147483648 ∷ 2147483648 ∷ []

ranged : {z : ℤ} → SFits w32 z → Within 2147483648 (to_z w32 (of_z w32 z))
ranged f = subst (Within 2147483648) (sym (to_z-of_z f)) (record { low = fits_low f; high = <→≤ (fits_high f) })

bounds : (c : tie.Start) → Bounds β (env c)
bounds c = (ranged c.ranges.a, (ranged c.ranges.b, tt))

abbrev less : Code
less = sub w64 (cast w64 (raw 1)) (cast w64 (raw 0))

cast-size : tie.Need-overflow_cast-b
cast-size c = need β (env c) (bounds c) (cast w64 (raw 1)) tt

cast-size-2 : tie.Need-overflow_cast-a
cast-size-2 c = need β (env c) (bounds c) (cast w64 (raw 0)) tt

sub-size : tie.Need-overflow_sub-b
sub-size c = need β (env c) (bounds c) less tt

size-requires : tie.Need-size-requires
size-requires c κs = search rules

returns : tie.Need-returns
unfolding apart
returns c =
    let s = c.before in
    let e : c.size.result ≡ nat_abs (to_z w32 (of_z w32 s.args.b) -ℤ to_z w32 (of_z w32 s.args.a)) =
    c.size.ensures ∙ ap nat_abs (value β (env s) (bounds s) less tt) in (
      e ∙ ap nat_abs (λ i. to_z-of_z s.ranges.b i -ℤ to_z-of_z s.ranges.a i),
      subst (λ (n : ℕ). n ≤ 4294967296) (sym e) (within_abs (within β (env s) (bounds s) (erase less) tt)),
    )

pub apart_spec : {M : Type 1} → statement M
apart_spec = tie.close (tie.spec cast-size cast-size-2 sub-size size-requires returns)
