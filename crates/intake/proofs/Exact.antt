-- 32 times an f32 is exact unless it overflows: the digits stay, and the exponent grows by 5. A grid number over 32 is exact, and a value has one f32 only.
use mathlib.Core.Path.{◌≡◌, refl, sym, ap, ap₂, ◌∙◌, subst, subst⁻¹}
use mathlib.Core.Bool.{Bool, true, false, not, cond, ◌&&◌}
use Prim.Native.Nat.{ℕ, zero, suc, ◌+◌, ◌-◌, ◌*◌, ◌/◌, ◌%◌, ◌^◌, ◌≤◌, ◌<◌, compare}
use native.Mathlib.Nat.{le_trans, le_of_eq, lt_of_lt_of_le, lt_of_le_of_lt, lt_of_not-le, not-le_of_lt, le_of_suc-le-suc, mul-one, one-mul}
use native.Mathlib.Nat.{mul_assoc, mul_comm, mul_right_comm, mul-pos, mul-le-mul_right, mul-lt-mul_of_pos_right, lt_of_mul-lt-mul_right}
use native.Mathlib.Nat.{eq_of_mul-eq-mul_right, zero-lt-suc, le-div_iff_mul-le}
use native.Mathlib.Omega.{arith}
use borrow.Author.Tests.{le-ltb}
use lib.IntN.{ℤ, pos, negsuc, nat_abs}
use lib.Signed.{non_neg}
use lib.Dec.{T, leb, ltb, eqb, leb→le, le→leb, ltb→lt, lt→ltb, eqb→eq, lit<, lit≤}
use lib.Pow.{pow-add, pow_pos, pow_mono, pow-lt}
use lib.Ieee.{Float, nan, inf, fin, binary32, up, down, size, units, round, odd, mul, div, of_int, in_float, fits, of_bits, to_bits}
use lib.Ieee.Digits.{size-lt, size_reaches}
use lib.Ieee.Fits.{up_pos, down_pos, and_l, and_r, round_is}
use lib.Ieee.Bits.{of_bits-to_bits}
use lib.Ieee.Exact.{HasValue, round_exact}
use lib.Ieee.Back.{round_whole}
use lib.Ieee.Scale.{round_same}
use lib.Ieee.Nearest.{closest, nearest-ge, div_same}
use Rattle.intake.specs.Laws.{thirty_two}

-- ---- 32 * x, where it is below 2 ^ 128

-- what it takes to fit, whatever the sign
small_digits : (s : Bool) (m : ℕ) (e : ℤ) → T (fits binary32 (fin s m e)) → (m < 2 ^ 24) × (down e ≤ 2 ^ 149)
unfolding fits
small_digits s zero e t =
    (lit< tt, le_trans (le_of_eq (sym (one-mul (down e)))) (le_trans (mul-le-mul_right (down e) (up_pos e)) (le_trans (le_of_eq (eqb→eq (up e * down e) 1 t)) (lit≤ tt))))
small_digits s (suc m) e t =
    let a : Bool = eqb (suc m % 2) 1 in
    let b : Bool = ltb (suc m) (2 ^ 24) in
    let c : Bool = leb (down e) (2 ^ 149) in
    let u : T (a && b && c) = and_l (a && b && c) (ltb (suc m * up e) (2 ^ 128 * down e)) t in
    (ltb→lt (suc m) (2 ^ 24) (and_r a b (and_l (a && b) c u)), leb→le (down e) (2 ^ 149) (and_r (a && b) c u))

fewer : (a b : ℕ) → 2 ^ a ≤ 2 ^ b → a ≤ b
fewer a b h = le_of_suc-le-suc (lt_of_not-le (λ (g : suc b ≤ a). not-le_of_lt (pow-lt g) h))

all_digits : (k : ℕ) → suc k ≤ 149 → 149 - suc k + 5 + suc k ≡ 154
all_digits k h = omega arith

-- in units of 2 ^ -149, 32 * m * 2 ^ e is m * 2 ^ j
scaled : (m : ℕ) (e : ℤ) → down e ≤ 2 ^ 149 → (j : ℕ) × (m * up e * 32 * 2 ^ 149 ≡ m * 2 ^ j * down e)
scaled m (pos k) h =
    (k + 154, mul_assoc (m * 2 ^ k) 32 (2 ^ 149) ∙ mul_assoc m (2 ^ k) (2 ^ 154) ∙ ap (λ (x : ℕ). m * x) (sym (pow-add 2 k 154)) ∙ sym (mul-one (m * 2 ^ (k + 154))))
scaled m (negsuc k) h =
    let j = 149 - suc k + 5 in (
      j,
      ap (λ (x : ℕ). x * 32 * 2 ^ 149) (mul-one m) ∙ mul_assoc m 32 (2 ^ 149)
          ∙ ap (λ (x : ℕ). m * x) (ap (λ (x : ℕ). 2 ^ x) (sym (all_digits k (fewer (suc k) 149 h))) ∙ pow-add 2 j (suc k))
          ∙ sym (mul_assoc m (2 ^ j) (2 ^ suc k)),
    )

product_is : (s : Bool) (m : ℕ) (e : ℤ) → mul binary32 (fin s m e) thirty_two ≡ round binary32 s (m * up e * 32) (down e)
unfolding mul
product_is true m e = ap (round binary32 true (m * up e * 32)) (mul-one (down e))
product_is false m e = ap (round binary32 false (m * up e * 32)) (mul-one (down e))

pub product_exact : (s : Bool) (m : ℕ) (e : ℤ) → T (fits binary32 (fin s m e)) → m * up e * 32 < 2 ^ 128 * down e
    → HasValue (mul binary32 (fin s m e) thirty_two) s (m * up e * 32) (down e)
product_exact s m e t h =
    let f = small_digits s m e t in
    let j = (scaled m e f.1).0 in
    let v : m * up e * 32 * 2 ^ 149 ≡ m * 2 ^ j * down e = (scaled m e f.1).1 in
    let u : m * 2 ^ j * down e < 2 ^ 277 * down e =
    lt_of_lt_of_le (subst (λ (x : ℕ). x < 2 ^ 128 * down e * 2 ^ 149) v (mul-lt-mul_of_pos_right h (pow_pos 149)))
    (le_of_eq (mul_right_comm (2 ^ 128) (down e) (2 ^ 149))) in
    subst⁻¹ (λ (x : Float). HasValue x s (m * up e * 32) (down e)) (product_is s m e)
    (round_exact binary32 s (m * up e * 32) (down e) m j (down_pos e) f.0 (lt_of_mul-lt-mul_right (down e) u) v)

-- ---- and from 2 ^ 128 on

pub more_digits : (n j : ℕ) → 2 ^ j ≤ n → j < size n
more_digits n j h = lt_of_not-le (λ (g : size n ≤ j). not-le_of_lt (lt_of_lt_of_le (size-lt n) (pow_mono g)) h)

-- a whole part of 2 ^ 277 or more stays so as it loses all but 24 digits
keeps : (n c : ℕ) → 0 < c → 2 ^ 277 * c ≤ n → 2 ^ 277 ≤ closest n (c * 2 ^ (size (n / c) - 24)) * 2 ^ (size (n / c) - 24)
keeps n c C h =
    let many : 277 < size (n / c) = more_digits (n / c) 277 ((le-div_iff_mul-le C).1 h) in
    let k = size (n / c) - 24 in
    let whole : 8388608 * 2 ^ k * c ≤ n = (le-div_iff_mul-le C).0 (le_trans (le_of_eq (sym (pow-add 2 23 k))) (size_reaches (n / c) (23 + k) (omega arith))) in
    let same : 8388608 * (c * 2 ^ k) ≡ 8388608 * 2 ^ k * c = ap (λ (x : ℕ). 8388608 * x) (mul_comm c (2 ^ k)) ∙ sym (mul_assoc 8388608 (2 ^ k) c) in
    let kept : 8388608 ≤ n / (c * 2 ^ k) = (le-div_iff_mul-le (mul-pos C (pow_pos k))).1 (le_trans (le_of_eq same) whole) in
    let wide : 277 ≤ 23 + k = omega arith in
    le_trans (le_trans (pow_mono wide) (le_of_eq (pow-add 2 23 k)))
    (mul-le-mul_right (2 ^ k) (le_trans kept (nearest-ge (n / (c * 2 ^ k)) (compare (n % (c * 2 ^ k) * 2) (c * 2 ^ k)))))

round_over : (s : Bool) (n c : ℕ) → 0 < c → 2 ^ 128 * c ≤ n → round binary32 s n c ≡ inf s
unfolding units
round_over s n c C h =
    let k = size (n * 2 ^ 149 / c) - 24 in
    let q = closest (n * 2 ^ 149) (c * 2 ^ k) in
    let g : 2 ^ 277 ≤ q * 2 ^ k = keeps (n * 2 ^ 149) c C (le_trans (le_of_eq (mul_right_comm (2 ^ 128) (2 ^ 149) c)) (mul-le-mul_right (2 ^ 149) h)) in
    round_is binary32 s n c ∙ ap (λ (b : Bool). cond b (odd 25 s q k 149) (inf s)) (le-ltb (q * 2 ^ k) (2 ^ 277) g)

pub product_over : (s : Bool) (m : ℕ) (e : ℤ) → 2 ^ 128 * down e ≤ m * up e * 32
    → mul binary32 (fin s m e) thirty_two ≡ inf s
product_over s m e h = product_is s m e ∙ round_over s (m * up e * 32) (down e) (down_pos e) h

-- ---- g / 32, for a grid number g

-- a whole number n divided by 32
quotient_is : (x : Float) (s : Bool) (n : ℕ) → HasValue x s n 1 → div binary32 x thirty_two ≡ round binary32 s n 32
unfolding div
quotient_is nan s n v = absurd v
quotient_is (inf t) s n v = absurd v
quotient_is (fin t m e) s n v = go t v.0
  where
    alike : m * up e * 1 * 32 ≡ n * (32 * down e)
    alike = ap (λ (x : ℕ). x * 32) v.1 ∙ mul_assoc n (down e) 32 ∙ ap (λ (x : ℕ). n * x) (mul_comm (down e) 32)

    same : (b : Bool) → round binary32 b (m * up e * 1) (32 * down e) ≡ round binary32 b n 32
    same b = round_same binary32 b (m * up e * 1) (32 * down e) n 32 (mul-pos (zero-lt-suc 31) (down_pos e)) (zero-lt-suc 31) alike

    go : (t : Bool) → t ≡ s → div binary32 (fin t m e) thirty_two ≡ round binary32 s n 32
    go true h = same true ∙ ap (λ (b : Bool). round binary32 b n 32) h
    go false h = same false ∙ ap (λ (b : Bool). round binary32 b n 32) h

-- n / 32 rounds to itself
whole_over_32 : (s : Bool) (n : ℕ) → n ≤ 16383 → HasValue (div binary32 (round binary32 s n 1) thirty_two) s n 32
whole_over_32 s n h =
    subst⁻¹ (λ (x : Float). HasValue x s n 32) (quotient_is (round binary32 s n 1) s n (round_whole binary32 s n (le_trans h (lit≤ tt))))
    (round_exact binary32 s n 32 n 144 (zero-lt-suc 31) (lt_of_le_of_lt h (lit< tt))
    (lt_of_lt_of_le (mul-lt-mul_of_pos_right (lt_of_le_of_lt h (lit< {m = 16383} {n = 16777216} tt)) (pow_pos 144)) (lit≤ tt))
    (sym (mul_assoc n (2 ^ 144) 32)))

pub castable : (g : ℤ) → nat_abs g ≤ 16383 → T (in_float binary32 g)
unfolding in_float
castable (pos n) h = le→leb n (2 ^ 24) (le_trans h (lit≤ tt))
castable (negsuc n) h = lt→ltb n (2 ^ 24) (le_trans h (lit≤ tt))

pub quotient_exact : (g : ℤ) → nat_abs g ≤ 16383 → HasValue (div binary32 (of_int binary32 g) thirty_two) (not (non_neg g)) (nat_abs g) 32
unfolding of_int
quotient_exact (pos n) h = whole_over_32 false n h
quotient_exact (negsuc n) h = whole_over_32 true (suc n) h

-- ---- two f32 of one sign and size are equal

-- the bits by the sign and the size in units of 2 ^ -149
pattern : Bool → ℕ → ℕ
pattern s n = cond s 2147483648 0 + (size n - 24) * 8388608 + n / 2 ^ (size n - 24)

bits_are : (s : Bool) (m : ℕ) (e : ℤ) → to_bits binary32 (fin s m e) ≡ pattern s (m * up e * 2 ^ 149 / down e)
unfolding to_bits pattern
bits_are s m e = refl

cross : (x y p q a c : ℕ) → 0 < c → x * c ≡ a * p → y * c ≡ a * q → x * 2 ^ 149 * q ≡ y * 2 ^ 149 * p
cross x y p q a c C h k =
    eq_of_mul-eq-mul_right c C (x * 2 ^ 149 * q) (y * 2 ^ 149 * p)
    (regroup x q c ∙ ap (λ (z : ℕ). z * (2 ^ 149 * q)) h ∙ swap a p q ∙ ap (λ (z : ℕ). z * (2 ^ 149 * p)) (sym k) ∙ sym (regroup y p c))
  where
    regroup : (x q c : ℕ) → x * 2 ^ 149 * q * c ≡ x * c * (2 ^ 149 * q)
    regroup x q c = mul_right_comm (x * 2 ^ 149) q c ∙ ap (λ (z : ℕ). z * q) (mul_right_comm x (2 ^ 149) c) ∙ mul_assoc (x * c) (2 ^ 149) q

    swap : (a p q : ℕ) → a * p * (2 ^ 149 * q) ≡ a * q * (2 ^ 149 * p)
    swap a p q = sym (regroup a q p) ∙ mul_right_comm (a * 2 ^ 149) q p ∙ regroup a p q

pub value_unique : (x y : Float) (s : Bool) (a c : ℕ) → 0 < c → T (fits binary32 x) → T (fits binary32 y) → HasValue x s a c → HasValue y s a c → x ≡ y
value_unique nan y s a c C p q v w = elim v [ ]
value_unique (inf _) y s a c C p q v w = elim v [ ]
value_unique (fin t m e) nan s a c C p q v w = elim w [ ]
value_unique (fin t m e) (inf _) s a c C p q v w = elim w [ ]
value_unique (fin t m e) (fin u n d) s a c C p q v w =
    let k : m * up e * 2 ^ 149 / down e ≡ n * up d * 2 ^ 149 / down d =
    div_same (m * up e * 2 ^ 149) (down e) (n * up d * 2 ^ 149) (down d) (down_pos e) (down_pos d) (cross (m * up e) (n * up d) (down e) (down d) a c C v.1 w.1) in
    sym (of_bits-to_bits binary32 (fin t m e) p)
    ∙ ap (of_bits binary32) (bits_are t m e ∙ ap₂ pattern (v.0 ∙ sym w.0) k ∙ sym (bits_are u n d))
    ∙ of_bits-to_bits binary32 (fin u n d) q
