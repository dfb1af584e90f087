-- `fraction::lowest_signed` meets its contract: what is left of n by d has the common divisors of n and d; both numbers are divided by the greatest. Assumes nothing.
use mathlib.Core.List.{[], ◌∷◌}
use mathlib.Core.Path.{◌≡◌, sym, ap, subst, subst₂, ◌∙◌}
use Prim.Native.Nat.{ℕ, zero, suc, ◌/◌, ◌%◌, ◌<◌, ◌≤◌, ◌^◌}
use native.Mathlib.Nat.{div-le_self, mod-le}
use native.Mathlib.Omega.{arith}
use borrow.Author.Rules.{rules}
use lib.IntN.{ℤ, pos, negsuc, neg_ℤ, nat_abs, ◌*ℤ◌, ◌+ℤ◌}
use lib.Signed.{◌<ℤ◌, quot_z, rem_z, mag}
use mir.Syntax.{w32, w64}
use mir.Val.{SFits, to_z, of_z}
use mir.Facts.{to_z-of_z, to_z_pos, sfits_widen}
use Rattle.whole.proofs.Comparisons.{fits_high, cast_unsigned}
use Rattle.whole.proofs.Division.{abs_rem, quot_small, quot_rem, rem_small}
use Rattle.whole.proofs.Expressions.{con, ◌⊕◌, ◌⊗◌, x0, x1}
use Rattle.whole.proofs.Order.{zarith, <→≤}
use Rattle.whole.proofs.Polynomials.{ring}
use Rattle.whole.proofs.Ranges.{fits_abs}
use Rattle.fraction.specs.Fraction.{GreatestCommon, LowestOf}
use Rattle.fraction.proofs.Divisors.{same_start, same_step, same_common}
use Rattle.fraction.proofs.LowestTerms.{lowest_over_one, Reduction, reduction, quot_one}
use Rattle.fraction.proofs.Reading.{Reads, reads}
use Rattle.fraction.proofs.lowest_signed.Statement.{statement}
use Rattle.fraction.proofs.lowest_signed.Tie as tie

-- ---- numbers of 32 bits
abs_small : (z : ℤ) → SFits w32 z → nat_abs z < 2 ^ 32
abs_small (pos a) f = let h = f.sfits in omega arith
abs_small (negsuc a) f = let h = f.sfits in omega arith

mag_neg : (m : ℕ) → m ≤ 2 ^ 31 → mag (neg_ℤ (pos m)) < 2 ^ 31
mag_neg zero h = omega arith
mag_neg (suc m) h = omega arith

quot_fits : (x : ℤ) (g : ℕ) → SFits w32 x → SFits w32 (quot_z x (pos g))
quot_fits (pos a) g f = fits_abs (let h = f.sfits in omega (arith, quot_small (pos a) (pos g)))
quot_fits (negsuc a) g f = record { sfits = mag_neg (suc a / g) (let h = f.sfits in omega (arith, div-le_self (suc a) g)) }

positive_bits : (d : ℤ) → pos 0 <ℤ d → 0 < of_z w32 d
positive_bits (pos k) h = omega zarith
positive_bits (negsuc k) h = absurd (omega zarith)

quot_by : (x d : ℤ) → pos 0 <ℤ d → SFits w32 x → SFits w32 (quot_z x d)
quot_by x (pos g) h f = quot_fits x g f
quot_by x (negsuc g) h f = absurd (omega zarith)

rem_fits : (x d : ℤ) → pos 0 <ℤ d → SFits w32 d → SFits w32 (rem_z x d)
rem_fits x (pos g) h f = fits_abs (let k = f.sfits in let p : 0 < g = omega zarith in omega (arith, rem_small x (pos g) p))
rem_fits x (negsuc g) h f = absurd (omega zarith)

-- as 64 bits
wide : {y z : ℤ} → y ≡ z → SFits w32 z → Reads w64 y z
wide e f = reads e (sfits_widen {w = w32} tt f)

-- ---- n by d, and what is left
module _ (s : tie.Start) where
  abbrev n : ℤ
  n = s.args.n

  abbrev d : ℤ
  d = s.args.d

  quotient : Reads w32 (quot_z (to_z w32 (of_z w32 n)) (to_z w32 (of_z w32 d))) (quot_z n d)
  quotient = reads (λ i. quot_z (to_z-of_z s.ranges.n i) (to_z-of_z s.ranges.d i)) (quot_by n d s.requires s.ranges.n)

  rest : Reads w32 (rem_z (to_z w32 (of_z w32 n)) (to_z w32 (of_z w32 d))) (rem_z n d)
  rest = reads (λ i. rem_z (to_z-of_z s.ranges.n i) (to_z-of_z s.ranges.d i)) (rem_fits n d s.requires s.ranges.d)

  wide_quotient : Reads w64 (to_z w32 (of_z w32 (quot_z (to_z w32 (of_z w32 n)) (to_z w32 (of_z w32 d))))) (quot_z n d)
  wide_quotient = wide quotient.is (quot_by n d s.requires s.ranges.n)

  wide_rest : Reads w64 (to_z w32 (of_z w32 (rem_z (to_z w32 (of_z w32 n)) (to_z w32 (of_z w32 d))))) (rem_z n d)
  wide_rest = wide rest.is (rem_fits n d s.requires s.ranges.d)

  -- without a rest, the quotient over 1
  whole_number : rem_z n d ≡ pos 0 → LowestOf n d (record { num = quot_z n d; den = pos 1 })
  whole_number e =
      let is : n ≡ d *ℤ quot_z n d +ℤ pos 0 = quot_rem n d ∙ ap (λ (r : ℤ). d *ℤ quot_z n d +ℤ r) e in record {
        lowest = lowest_over_one (quot_z n d);
        same = ring (d ∷ quot_z n d ∷ []) (x1 ⊗ x0) ((x0 ⊗ x1 ⊕ con (pos 0)) ⊗ con (pos 1)) tt ∙ ap (λ (z : ℤ). z *ℤ pos 1) (sym is);
      }

rem-rest : tie.Need-nonzero_rem-rest
rem-rest c = (positive_bits (d c) c.requires, (quotient c).fits)

div-t6 : tie.Need-nonzero_div-result
div-t6 c = (positive_bits (d c.before) c.before.requires, (quotient c.before).fits)

cast-t7 : tie.Need-overflow_cast-result
cast-t7 c = (wide_quotient c.before).fits

returns : tie.Need-returns-then-rest-eq0
returns c =
    let s = c.before in
    subst (λ (z : ℤ). LowestOf (n s) (d s) (record { num = z; den = pos 1 })) (sym (wide_quotient s).is)
    (whole_number s (sym (rest s).is ∙ ap (to_z w32) c.if-rest-eq0.true))

cast-common : tie.Need-overflow_cast-d
cast-common c = let s = c.before in cast_unsigned w32 s.ranges.d (<→≤ s.requires) w32 (abs_small (d s) s.ranges.d)

cast-size : tie.Need-overflow_cast-rest
cast-size c = (wide_rest c.before).fits

size-requires : tie.Need-size-requires
size-requires c κs = search rules

-- the size of what is left
sized : (c : tie.After-size) → let s = c.before.before in c.size.result ≡ nat_abs (n s) % nat_abs (d s)
sized c = let s = c.before.before in c.size.ensures ∙ ap nat_abs (wide_rest s).is ∙ abs_rem (n s) (d s)

cast-common-2 : tie.Need-overflow_cast-size
cast-common-2 c = record { fits = rw (sized c) (let s = c.before.before in omega (arith, mod-le (nat_abs (n s)) (nat_abs (d s)), abs_small (n s) s.ranges.n)) }

common-requires : tie.Need-common-shared-requires
common-requires c κs = search rules

-- ---- divided by the greatest common divisor
module _ (c : tie.After-common-shared) where
  abbrev start : tie.Start
  start = c.before.before.before

  abbrev g : ℕ
  g = c.common-shared.result

  reduced : Reduction (n start) (d start) g
  reduced = reduction (n start) (d start) start.requires
      (same_common (same_step (same_start (nat_abs (n start)) (nat_abs (d start))))
      (subst₂ (λ (a b : ℕ). GreatestCommon a b g) (ap nat_abs (to_z-of_z start.ranges.d)) (sized c.before) c.common-shared.ensures))

  divisor_fits : SFits w32 (pos g)
  divisor_fits = let l = reduced.at_most in let h = fits_high start.ranges.d in record { sfits = omega zarith }

  by_divisor : {x : ℤ} → SFits w32 x → Reads w32 (quot_z (to_z w32 (of_z w32 x)) (to_z w32 g)) (quot_z x (pos g))
  by_divisor {x} f = reads (λ i. quot_z (to_z-of_z f i) (to_z_pos w32 {n = g} divisor_fits.sfits i)) (quot_fits x g f)

  wide_by : {x : ℤ} → SFits w32 x → Reads w64 (to_z w32 (of_z w32 (quot_z (to_z w32 (of_z w32 x)) (to_z w32 g)))) (quot_z x (pos g))
  wide_by {x} f = wide (by_divisor f).is (quot_fits x g f)

  -- what is answered, once its two numbers are the quotients
  answered : {a b : ℤ} → a ≡ quot_z (n start) (pos g) → b ≡ quot_z (d start) (pos g) → LowestOf (n start) (d start) (record { num = a; den = b })
  answered p q = subst₂ (λ (a b : ℤ). LowestOf (n start) (d start) (record { num = a; den = b })) (sym p) (sym q) reduced.answer

cast-shared : tie.Need-overflow_cast-shared
cast-shared c = divisor_fits c

cast-t13 : tie.Need-overflow_cast-result-then-shared-eq1
cast-t13 c = let f = (start c.before).ranges.n in (wide (to_z-of_z f) f).fits

cast-t14 : tie.Need-overflow_cast-result-then-shared-eq1-2
cast-t14 c = let f = (start c.before).ranges.d in (wide (to_z-of_z f) f).fits

-- by 1 nothing changes
by_one : (c : tie.Then-shared-eq1) {x : ℤ} → SFits w32 x → to_z w64 (of_z w64 (to_z w32 (of_z w32 x))) ≡ quot_z x (pos (g c.before))
by_one c {x} f = (wide (to_z-of_z f) f).is ∙ sym (quot_one x) ∙ ap (λ (k : ℕ). quot_z x (pos k)) (sym c.if-shared-eq1.true)

returns-2 : tie.Need-returns-then-shared-eq1
returns-2 c = let f = (start c.before).ranges in answered c.before (by_one c f.n) (by_one c f.d)

div-t15 : tie.Need-nonzero_div-result-2
div-t15 c = ((reduced c.before).positive, (by_divisor c.before (start c.before).ranges.n).fits)

cast-t11 : tie.Need-overflow_cast-result-2
cast-t11 c = (wide_by c.before (start c.before).ranges.n).fits

div-t16 : tie.Need-nonzero_div-result-3
div-t16 c = ((reduced c.before).positive, (by_divisor c.before (start c.before).ranges.d).fits)

cast-t17 : tie.Need-overflow_cast-result-3
cast-t17 c = (wide_by c.before (start c.before).ranges.d).fits

returns-3 : tie.Need-returns
returns-3 c = let f = (start c.before).ranges in answered c.before (wide_by c.before f.n).is (wide_by c.before f.d).is

pub lowest_signed_spec : {M : Type 1} → statement M
lowest_signed_spec =
    tie.close
    (tie.spec
    rem-rest
    div-t6
    cast-t7
    returns
    cast-common
    cast-size
    size-requires
    cast-common-2
    common-requires
    cast-shared
    cast-t13
    cast-t14
    returns-2
    div-t15
    cast-t11
    div-t16
    cast-t17
    returns-3)
