-- From 2 ^ 23 to 2 ^ 24 an f32 counts in whole numbers: a sum with 12582912 = 1.5 * 2 ^ 23 rounds the other summand to a whole number, and the sum's bits are
-- those of 12582912.0 with that number added.
use mathlib.Core.Path.{◌≡◌, sym, ap, ap₂, ◌∙◌, subst}
use mathlib.Core.Bool.{Bool, true, false, not, cond, true≢false}
use Prim.Native.Nat.{ℕ, suc, ◌+◌, ◌-◌, ◌*◌, ◌/◌, ◌^◌, ◌≤◌, ◌<◌}
use native.Mathlib.Nat.{le_trans, le_of_eq, le_antisymm, lt_of_lt_of_le, mul-one, mul_comm, mul_assoc, mul_right_comm, mul-le-mul_right}
use native.Mathlib.Nat.{mul-lt-mul_of_pos_right, mul-div_cancel, le-div_iff_mul-le, div-lt_iff_lt-mul, mul-pos}
use native.Mathlib.Omega.{arith}
use borrow.Author.Tests.{ltb-true, lt-ltb}
use lib.Dec.{T, lit≤}
use lib.IntN.{ℤ, pos, negsuc}
use lib.Pow.{pow_pos}
use lib.Ieee.{Float, nan, inf, fin, binary32, up, down, size, units, round, is_nan, to_bits, add, lt}
use lib.Ieee.Digits.{size-le}
use lib.Ieee.Fits.{round_is, down_pos}
use lib.Ieee.Exact.{HasValue, units_val}
use lib.Ieee.Nearest.{closest, closest_same}
use Rattle.intake.proofs.Exact.{more_digits}
use Rattle.intake.proofs.Nearest.{under, closest_plus, closest_less}

-- ---- from 2 ^ 23 up to 2 ^ 24 `round` rounds to a whole number

size_is : (n j : ℕ) → 2 ^ j ≤ n → n < 2 ^ suc j → size n ≡ suc j
size_is n j h l = le_antisymm (size-le n (suc j) l) (more_digits n j h)

round_here : (n c : ℕ) → 0 < c → 8388608 * c ≤ n → n < 16777216 * c → round binary32 false n c ≡ units binary32 false (closest n c) 149
round_here n c C lo hi =
    let a : 2 ^ 172 * c ≤ n * 2 ^ 149 = le_trans (le_of_eq (mul_right_comm 8388608 (2 ^ 149) c)) (mul-le-mul_right (2 ^ 149) lo) in
    let b : n * 2 ^ 149 < 2 ^ 173 * c = lt_of_lt_of_le (mul-lt-mul_of_pos_right hi (pow_pos 149)) (le_of_eq (mul_right_comm 16777216 c (2 ^ 149))) in
    let z : size (n * 2 ^ 149 / c) ≡ 173 = size_is (n * 2 ^ 149 / c) 172 ((le-div_iff_mul-le C).1 a) ((div-lt_iff_lt-mul C).1 b) in
    let s : n * 2 ^ 149 * c ≡ n * (c * 2 ^ 149) = mul_assoc n (2 ^ 149) c ∙ ap (λ (x : ℕ). n * x) (mul_comm (2 ^ 149) c) in
    round_is binary32 false n c
    ∙ ap (λ (x : ℕ). units binary32 false (closest (n * 2 ^ 149) (c * 2 ^ (x - 24))) (x - 24)) z
    ∙ ap (λ (x : ℕ). units binary32 false x 149) (closest_same (n * 2 ^ 149) (c * 2 ^ 149) n c (mul-pos C (pow_pos 149)) C s)

-- ---- the bits of k, for a k of 24 digits
bits_here : (x : Float) (k : ℕ) → 8388608 ≤ k → k < 16777216 → HasValue x false (k * 2 ^ 149) (2 ^ 149) → to_bits binary32 x ≡ 1249902592 + k
unfolding to_bits
bits_here nan k lo hi v = absurd v
bits_here (inf s) k lo hi v = absurd v
bits_here (fin true m e) k lo hi v = absurd (true≢false v.0)
bits_here (fin false m e) k lo hi v =
    let w = m * up e * 2 ^ 149 / down e in
    let n : w ≡ k * 2 ^ 149 = ap (λ (x : ℕ). x / down e) v.1 ∙ mul-div_cancel (k * 2 ^ 149) (down_pos e) in
    let z : size w ≡ 173 = ap size n ∙ size_is (k * 2 ^ 149) 172 (mul-le-mul_right (2 ^ 149) lo) (mul-lt-mul_of_pos_right hi (pow_pos 149)) in
    ap (λ (x : ℕ). 0 + (x - 24) * 8388608 + w / 2 ^ (x - 24)) z
    ∙ ap (λ (x : ℕ). 1249902592 + x) (ap (λ (x : ℕ). x / 2 ^ 149) n ∙ mul-div_cancel k (pow_pos 149))

valued : (x : Float) (s : Bool) (a c : ℕ) → HasValue x s a c → T (not (is_nan x))
unfolding is_nan
valued nan s a c v = absurd v
valued (inf t) s a c v = tt
valued (fin t m e) s a c v = tt

-- what is known of a float that is the whole number k: it is no NaN, and its bits
pub record Lands (x : Float) (k : ℕ) : Type 0 where
  pub no_nan : T (not (is_nan x))
  pub bits : to_bits binary32 x ≡ 1249902592 + k

lands : (n c k : ℕ) → 0 < c → 8388608 * c ≤ n → n < 16777216 * c → closest n c ≡ k → 8388608 ≤ k → k < 16777216 → Lands (round binary32 false n c) k
lands n c k C lo hi e p q =
    let v : HasValue (units binary32 false k 149) false (k * 2 ^ 149) (2 ^ 149) =
    units_val binary32 false k 149 (lt_of_lt_of_le (mul-lt-mul_of_pos_right q (pow_pos 149)) (lit≤ tt)) in
    subst (λ (x : Float). Lands x k) (sym (round_here n c C lo hi ∙ ap (λ (x : ℕ). units binary32 false x 149) e))
    (record { no_nan = valued (units binary32 false k 149) false (k * 2 ^ 149) (2 ^ 149) v; bits = bits_here (units binary32 false k 149) k p q v })

-- ---- 12582912 and a / d, for an a / d below 16383.5, on either side
module _ (a d : ℕ) (D : 0 < d) (in_range : a * 2 < 32767 * d) where
  right : Lands (round binary32 false (a * 1 + 12582912 * d) (d * 1)) (12582912 + closest a d)
  right =
      let s : closest a d ≤ 16383 = under a d D in_range in
      let e : a * 1 + 12582912 * d ≡ 12582912 * d + a = omega arith in
      let f : d * 1 ≡ d = mul-one d in
      lands (a * 1 + 12582912 * d) (d * 1) (12582912 + closest a d) (omega arith) (omega arith) (omega arith)
      (ap₂ closest e f ∙ closest_plus a d D) (omega arith) (omega arith)

  left : Lands (round binary32 false (12582912 * d - a * 1) (d * 1)) (12582912 - closest a d)
  left =
      let s : closest a d ≤ 16383 = under a d D in_range in
      let e : 12582912 * d - a * 1 ≡ 12582912 * d - a = omega arith in
      let f : d * 1 ≡ d = mul-one d in
      lands (12582912 * d - a * 1) (d * 1) (12582912 - closest a d) (omega arith) (omega arith) (omega arith)
      (ap₂ closest e f ∙ closest_less a d D (omega arith) (omega arith)) (omega arith) (omega arith)

-- ---- the sum as the machine has it
-- 12582912.0, 16383.5 and -16383.5
abbrev pub middle : Float
middle = fin false 3 (pos 22)

abbrev pub high : Float
high = fin false 32767 (negsuc 0)

abbrev pub low : Float
low = fin true 32767 (negsuc 0)

-- the whole number k steps from 12582912, to the left where s is true
abbrev pub off : Bool → ℕ → ℕ
off s k = cond s (12582912 - k) (12582912 + k)

pub summed : (s : Bool) (m : ℕ) (e : ℤ) → lt (fin s m e) high ≡ true → lt low (fin s m e) ≡ true
    → (closest (m * up e) (down e) ≤ 16383) × Lands (add binary32 (fin s m e) middle) (off s (closest (m * up e) (down e)))
unfolding lt add
summed false m e p q =
    let h : m * up e * 2 < 32767 * down e = ltb-true (m * up e * 2) (32767 * down e) p in
    (under (m * up e) (down e) (down_pos e) h, right (m * up e) (down e) (down_pos e) h)
summed true m e p q =
    let h : m * up e * 2 < 32767 * down e = ltb-true (m * up e * 2) (32767 * down e) q in
    let k : m * up e * 1 < 12582912 * down e = omega arith in
    (under (m * up e) (down e) (down_pos e) h, simp (lt-ltb (m * up e * 1) (12582912 * down e) k) (left (m * up e) (down e) (down_pos e) h))
