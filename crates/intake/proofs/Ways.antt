-- Each way through `to_grid` gives the outcome of its number: the product is exact or infinite, the tests are of its exact value, and the sum rounds it.
use mathlib.Core.Path.{◌≡◌, refl, sym, ap, ◌∙◌, subst}
use mathlib.Core.Bool.{Bool, true, false, not}
use Prim.Native.Nat.{ℕ, zero, suc, ◌+◌, ◌*◌, ◌^◌, ◌≤◌, ◌<◌}
use native.Mathlib.Nat.{add_comm, le_trans, mul-le-mul_right}
use native.Mathlib.Omega.{arith}
use borrow.Author.Tests.{ltb-true, ltb-false, le-leb, lt-leb}
use lib.Dec.{T, ltb, lit≤}
use lib.IntN.{ℤ, pos, ◌-ℤ◌}
use lib.Signed.{mag}
use lib.Ieee.{Float, nan, inf, fin, binary32, up, down, is_nan, to_bits, add, mul, lt, fits}
use lib.Ieee.Fits.{down_pos}
use lib.Ieee.Exact.{HasValue}
use lib.Ieee.Nearest.{closest, closest_same}
use Rattle.whole.proofs.Naturals.{neg_plus, neg_minus}
use Rattle.whole.proofs.Order.{zarith, sub_is}
use Rattle.whole.proofs.Comparisons.{ff_tt, tt_ff}
use Rattle.grid.specs.Table.{farthest}
use Rattle.grid.specs.Refusals.{not_a_number, too_far}
use Rattle.intake.specs.Millimetres.{signed, faulty, accepted}
use Rattle.intake.specs.Laws.{thirty_two}
use Rattle.intake.proofs.Nearest.{over}
use Rattle.intake.proofs.Exact.{product_exact, product_over}
use Rattle.intake.proofs.Sum.{Lands, middle, high, low, off, summed}
use Rattle.intake.proofs.Outcome.{outcome, steps, decided}

-- ---- the product, exact or infinite

abbrev pub product : Float → Float
product x = mul binary32 x thirty_two

data Product (s : Bool) (m : ℕ) (e : ℤ) : Type 0 where
  exact : HasValue (product (fin s m e)) s (m * up e * 32) (down e) → Product s m e
  overflowed : 2 ^ 128 * down e ≤ m * up e * 32 → product (fin s m e) ≡ inf s → Product s m e

product_known : (s : Bool) (m : ℕ) (e : ℤ) → T (fits binary32 (fin s m e)) → Product s m e
product_known s m e t = go (ltb (m * up e * 32) (2 ^ 128 * down e)) refl
  where
    go : (b : Bool) → ltb (m * up e * 32) (2 ^ 128 * down e) ≡ b → Product s m e
    go true p = exact (product_exact s m e t (ltb-true (m * up e * 32) (2 ^ 128 * down e) p))
    go false p = let h = ltb-false (m * up e * 32) (2 ^ 128 * down e) p in overflowed h (product_over s m e h)

-- ---- between the ends

-- the bits less those of 12582912.0
difference : (n : ℕ) (s : Bool) (q : ℕ) → q ≤ 16383 → n ≡ 1249902592 + off s q → pos n -ℤ pos 1262485504 ≡ signed s q
difference n true q h e = omega (zarith, sub_is (pos n) (pos 1262485504), neg_plus (pos q), neg_minus (pos q))
difference n false q h e = omega (zarith, sub_is (pos n) (pos 1262485504))

small : (n : ℕ) (s : Bool) (q : ℕ) → q ≤ 16383 → n ≡ 1249902592 + off s q → n < 2 ^ 31
small n true q h e = omega arith
small n false q h e = omega arith

signed_small : (s : Bool) (q : ℕ) → q ≤ 16383 → mag (signed s q) < 2 ^ 31
signed_small true zero h = omega arith
signed_small true (suc q) h = omega arith
signed_small false q h = omega arith

abbrev pub bits : Float → ℕ
bits x = to_bits binary32 (add binary32 (product x) middle)

pub record Rounded (x : Float) : Type 0 where
  pub no_nan : T (not (is_nan (add binary32 (product x) middle)))
  pub bits_fit : bits x < 2 ^ 31
  pub number_fits : mag (pos (bits x) -ℤ pos 1262485504) < 2 ^ 31
  pub number : accepted (pos (bits x) -ℤ pos 1262485504) ≡ outcome x

-- of a y that is n / d
landed : (y : Float) (s : Bool) (n d : ℕ) → 0 < d → HasValue y s n d → lt y high ≡ true → lt low y ≡ true
    → (closest n d ≤ 16383) × Lands (add binary32 y middle) (off s (closest n d))
landed nan s n d D v p q = absurd v
landed (inf t) s n d D v p q = absurd v
landed (fin t m e) s n d D v p q =
    subst (λ (k : ℕ). (k ≤ 16383) × Lands (add binary32 (fin t m e) middle) (off s k)) (closest_same (m * up e) (down e) n d (down_pos e) D v.1)
    (subst (λ (b : Bool). (closest (m * up e) (down e) ≤ 16383) × Lands (add binary32 (fin t m e) middle) (off b (closest (m * up e) (down e)))) v.0
    (summed t m e p q))

-- an infinity is not between them
beyond : (s : Bool) → lt (inf s) high ≡ true → lt low (inf s) ≡ true → ⊥
unfolding lt
beyond true p q = ff_tt q
beyond false p q = ff_tt p

pub between : (x : Float) → T (fits binary32 x) → lt (product x) high ≡ true → lt low (product x) ≡ true → Rounded x
unfolding mul lt
between nan t p q = absurd (ff_tt p)
between (inf true) t p q = absurd (ff_tt q)
between (inf false) t p q = absurd (ff_tt p)
between (fin s m e) t p q = go (product_known s m e t)
  where
    go : Product s m e → Rounded (fin s m e)
    go (overflowed h i) = absurd (beyond s (subst (λ (y : Float). lt y high ≡ true) i p) (subst (λ (y : Float). lt low y ≡ true) i q))
    go (exact v) =
        let l = landed (product (fin s m e)) s (m * up e * 32) (down e) (down_pos e) v p q in
        let n = bits (fin s m e) in
        let d = difference n s (steps m e) l.0 l.1.bits in
        record {
          no_nan = l.1.no_nan;
          bits_fit = small n s (steps m e) l.0 l.1.bits;
          number_fits = subst (λ (z : ℤ). mag z < 2 ^ 31) (sym d) (signed_small s (steps m e) l.0);
          number = ap accepted d ∙ sym (decided s m e (le-leb (steps m e) farthest l.0));
        }

-- ---- at an end or past it

far : (s : Bool) (m : ℕ) (e : ℤ) → 16384 ≤ steps m e → faulty too_far ≡ outcome (fin s m e)
far s m e h = sym (decided s m e (lt-leb (steps m e) farthest h))

-- a y of either sign that is n / d: the test at the end of its side says that it is there
none_below : (a d : ℕ) → 0 < d → ltb 0 (a + 32767 * d) ≡ false → ⊥
none_below a d D p = let h : a + 32767 * d ≤ 0 = ltb-false 0 (a + 32767 * d) p in omega arith

far_value : (m : ℕ) (e : ℤ) (n d : ℕ) → 0 < d → m * up e * d ≡ n * down e → ltb (m * up e * 2) (32767 * down e) ≡ false → 16384 ≤ closest n d
far_value m e n d D v p =
    subst (λ (k : ℕ). 16384 ≤ k) (closest_same (m * up e) (down e) n d (down_pos e) D v)
    (over (m * up e) (down e) (down_pos e) (ltb-false (m * up e * 2) (32767 * down e) p))

above : (y : Float) (s : Bool) (n d : ℕ) → 0 < d → HasValue y s n d → lt y high ≡ false → 16384 ≤ closest n d
unfolding lt
above nan s n d D v p = absurd v
above (inf t) s n d D v p = absurd v
above (fin true m e) s n d D v p = absurd (none_below (m * up e * 2) (down e) (down_pos e) p)
above (fin false m e) s n d D v p = far_value m e n d D v.1 p

below : (y : Float) (s : Bool) (n d : ℕ) → 0 < d → HasValue y s n d → lt low y ≡ false → 16384 ≤ closest n d
unfolding lt
below nan s n d D v p = absurd v
below (inf t) s n d D v p = absurd v
below (fin false m e) s n d D v p = absurd (none_below (m * up e * 2) (down e) (down_pos e) (ap (ltb 0) (add_comm (m * up e * 2) (32767 * down e)) ∙ p))
below (fin true m e) s n d D v p = far_value m e n d D v.1 p

pub overflows : (s : Bool) (m : ℕ) (e : ℤ) → 2 ^ 128 * down e ≤ m * up e * 32 → faulty too_far ≡ outcome (fin s m e)
overflows s m e h = far s m e (over (m * up e * 32) (down e) (down_pos e) (wide (le_trans (mul-le-mul_right (down e) (lit≤ tt)) h)))
  where
    wide : 32767 * down e ≤ m * up e * 32 → 32767 * down e ≤ m * up e * 32 * 2
    wide h = omega arith

-- by a test that says of an exact product that it is far
refused_far : (x : Float) → T (fits binary32 x) → is_nan x ≡ false
    → ((s : Bool) (n d : ℕ) → 0 < d → HasValue (product x) s n d → 16384 ≤ closest n d) → faulty too_far ≡ outcome x
unfolding is_nan outcome
refused_far nan t n k = absurd (tt_ff n)
refused_far (inf s) t n k = refl
refused_far (fin s m e) t n k = go (product_known s m e t)
  where
    go : Product s m e → faulty too_far ≡ outcome (fin s m e)
    go (overflowed h i) = overflows s m e h
    go (exact v) = far s m e (k s (m * up e * 32) (down e) (down_pos e) v)

pub too_high : (x : Float) → T (fits binary32 x) → is_nan x ≡ false → lt (product x) high ≡ false → faulty too_far ≡ outcome x
too_high x t n p = refused_far x t n (λ (s : Bool) (n d : ℕ) D v. above (product x) s n d D v p)

pub too_low : (x : Float) → T (fits binary32 x) → is_nan x ≡ false → lt low (product x) ≡ false → faulty too_far ≡ outcome x
too_low x t n p = refused_far x t n (λ (s : Bool) (n d : ℕ) D v. below (product x) s n d D v p)

pub is_nan_lem : (x : Float) → is_nan x ≡ true → faulty not_a_number ≡ outcome x
unfolding is_nan outcome
is_nan_lem nan p = refl
is_nan_lem (inf s) p = absurd (ff_tt p)
is_nan_lem (fin s m e) p = absurd (ff_tt p)
