-- `fraction::rounded` meets its contract: the lifted coordinate is from 0 to 32,767, and what is closest to it is put back. Assumes nothing.
use mathlib.Core.Path.{◌≡◌, refl, sym, subst, ◌∙◌}
use mathlib.Core.List.{List, [], ◌∷◌}
use Prim.Native.Nat.{ℕ, ◌≤◌, ◌<◌, ◌^◌}
use native.Mathlib.Omega.{arith}
use borrow.Author.Rules.{rules}
use lib.Dec.{T}
use lib.IntN.{ℤ, pos, neg_ℤ, nat_abs, ◌+ℤ◌, ◌*ℤ◌}
use lib.Signed.{◌≤ℤ◌, non_neg, yes_non_neg, pos-nat_abs}
use mir.Syntax.{w32}
use Rattle.whole.specs.Within.{Within}
use Rattle.whole.proofs.Certificates.{ge, le, nn, ◌⊞◌, ◌⊠◌}
use Rattle.whole.proofs.Expressions.{Env, con, ◌⊕◌, ◌⊗◌, x0, x1, x2, x3}
use Rattle.whole.proofs.Machine.{Code, par, lit, add, sub, mul, erase, machine, need, value}
use Rattle.whole.proofs.Naturals.{add_is}
use Rattle.whole.proofs.Order.{zarith}
use Rattle.whole.proofs.Ranges.{Bounds, within, within_abs, abs_within}
use Rattle.fraction.specs.Rounding.{Rounded}
use Rattle.fraction.proofs.Rounding.{rounded_inside, lifted, put_back}
use Rattle.fraction.proofs.rounded.Statement.{statement}
use Rattle.fraction.proofs.rounded.Tie as tie

-- ---- the lifted coordinate, from a, b, n and d
abbrev lift : ℤ
lift = pos 16384

abbrev high : Code
high = add w32 (par w32 0) (lit lift)

abbrev far : Code
far = sub w32 (par w32 1) (par w32 0)

abbrev one : Code
one = mul w32 high (par w32 3)

abbrev two : Code
two = mul w32 far (par w32 2)

abbrev all : Code
all = add w32 one two

abbrev β : List ℕ
β = 16383 ∷ 16383 ∷ 32766 ∷ 32766 ∷ []

abbrev env : tie.Start → Env
env c = c.args.a ∷ c.args.b ∷ pos c.args.n ∷ pos c.args.d ∷ []

bounds : (c : tie.Start) → Bounds β (env c)
bounds c =
    let p = c.requires in
    (p.0, (p.1.0, (abs_within (omega (arith, p.1.1.1, p.1.1.0.1)), (abs_within p.1.1.0.1, tt))))

add-lifted : tie.Need-overflow_add-lifted
add-lifted c = need β (env c) (bounds c) high tt

cast-lifted : tie.Need-overflow_cast-lifted
cast-lifted c = search rules

mul-lifted : tie.Need-overflow_mul-lifted
mul-lifted c = need β (env c) (bounds c) one tt

sub-lifted : tie.Need-overflow_sub-lifted
sub-lifted c = need β (env c) (bounds c) far tt

cast-lifted-2 : tie.Need-overflow_cast-lifted-2
cast-lifted-2 c = search rules

mul-lifted-2 : tie.Need-overflow_mul-lifted-2
mul-lifted-2 c = need β (env c) (bounds c) two tt

add-lifted-2 : tie.Need-overflow_add-lifted-2
add-lifted-2 c = need β (env c) (bounds c) all tt

-- ---- it is from 0 to 32,767
abbrev top : ℕ
top = 32767

abbrev meant : tie.Start → ℤ
meant c = lifted lift c.args.a c.args.b (pos c.args.n) (pos c.args.d)

abbrev made : tie.Start → ℤ
made c = machine (env c) all

made_is : (c : tie.Start) → made c ≡ meant c
made_is c = value β (env c) (bounds c) all tt

not_below : (c : tie.Start) → pos 0 ≤ℤ meant c
not_below c =
    let a = c.args in
    let from : neg_ℤ lift ≤ℤ a.a = omega (zarith, c.requires.0.low) in
    let to : neg_ℤ lift ≤ℤ a.b = omega (zarith, c.requires.1.0.low) in
    let done : pos 0 ≤ℤ pos a.n = omega zarith in
    let left : pos a.n ≤ℤ pos a.d = omega (zarith, c.requires.1.1.1) in
    ge (env c) (con (pos 0)) (erase all) (le x2 x3 left ⊠ le (con (neg_ℤ lift)) x0 from ⊞ nn x2 done ⊠ le (con (neg_ℤ lift)) x1 to) tt

not_above : (c : tie.Start) → meant c ≤ℤ (pos top *ℤ pos c.args.d)
not_above c =
    let a = c.args in
    let from : (a.a +ℤ lift) ≤ℤ pos top = omega (zarith, add_is a.a lift, c.requires.0.high) in
    let to : (a.b +ℤ lift) ≤ℤ pos top = omega (zarith, add_is a.b lift, c.requires.1.0.high) in
    let done : pos 0 ≤ℤ pos a.n = omega zarith in
    let left : pos a.n ≤ℤ pos a.d = omega (zarith, c.requires.1.1.1) in
    let most = con (pos top) in
    ge (env c) (erase all) (most ⊗ x3) (le x2 x3 left ⊠ le (x0 ⊕ con lift) most from ⊞ nn x2 done ⊠ le (x1 ⊕ con lift) most to) tt

-- as it is cast
size : (c : tie.Start) → nat_abs (made c) < 2 ^ 31
size c =
    let h : Within 2147254278 (meant c) = within β (env c) (bounds c) (erase all) tt in
    subst (λ (y : ℤ). nat_abs y < 2 ^ 31) (sym (made_is c)) (omega (arith, within_abs h))

positive : (c : tie.Start) → T (non_neg (made c))
positive c = subst (λ (y : ℤ). T (non_neg y)) (sym (made_is c)) (yes_non_neg (not_below c))

cast-closest : tie.Need-overflow_cast-lifted-3
cast-closest c = (positive c, record { fits = omega (arith, size c) })

closest-requires : tie.Need-closest-requires
closest-requires c κs = (c.requires.1.1.0, size c)

-- ---- what is closest to it
found : (c : tie.After-closest) → Rounded (meant c.before) (pos c.before.args.d) (pos c.closest.result)
found c =
    let s = c.before in
    subst (λ (x : ℤ). Rounded x (pos s.args.d) (pos c.closest.result)) (pos-nat_abs (made s) (positive s) ∙ made_is s) c.closest.ensures

small : (c : tie.After-closest) → c.closest.result ≤ top
small c =
    let s = c.before in
    let d = s.requires.1.1.0.0 in
    let low = not_below s in
    omega (zarith, (rounded_inside (pos 0) (pos top) (omega zarith) (omega zarith) (not_above s) (found c)).1)

abbrev back : Code
back = sub w32 (par w32 0) (lit lift)

abbrev found_env : tie.After-closest → Env
found_env c = pos c.closest.result ∷ []

found_bounds : (c : tie.After-closest) → Bounds (top ∷ []) (found_env c)
found_bounds c = (abs_within (small c), tt)

cast-result : tie.Need-overflow_cast-result
cast-result c = record { sfits = omega (arith, small c) }

sub-result : tie.Need-overflow_sub-result
sub-result c = need (top ∷ []) (found_env c) (found_bounds c) back tt

returns : tie.Need-returns
returns c =
    let a = c.before.args in
    subst (Rounded _ _) (sym (value (top ∷ []) (found_env c) (found_bounds c) back tt)) (put_back lift a.a a.b (pos a.n) refl (found c))

pub rounded_spec : {M : Type 1} → statement M
rounded_spec =
    tie.close
    (tie.spec add-lifted cast-lifted mul-lifted sub-lifted cast-lifted-2 mul-lifted-2 add-lifted-2 cast-closest closest-requires cast-result sub-result returns)
