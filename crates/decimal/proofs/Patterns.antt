-- The bits of the f32 nearest to a fraction: how many digits it drops, times 2 ^ 23, and the 24 digits that it keeps, rounded.
use mathlib.Core.Path.{◌≡◌, refl, sym, ap, ap₂, ◌∙◌, subst}
use mathlib.Core.Logic.{inl, inr}
use mathlib.Core.Bool.{Bool, cond}
use Prim.Native.Nat.{ℕ, zero, suc, ◌+◌, ◌-◌, ◌*◌, ◌/◌, ◌^◌, ◌≤◌, ◌<◌}
use native.Mathlib.Nat.{le_refl, le_trans, le_of_eq, le_of_lt, le_antisymm, lt_of_lt_of_le, lt_of_le_of_lt, lt_of_not-le, not-le_of_lt}
use native.Mathlib.Nat.{eq-or-lt_of_le, zero-lt-suc, zero-mul, mul-one, mul_assoc, mul_comm, mul_left_comm, mul_right_comm, mul-pos}
use native.Mathlib.Nat.{mul-le-mul_left, mul-le-mul_right, mul-lt-mul_of_pos_right, le_of_mul-le-mul_right, lt_of_mul-lt-mul_right, pow-suc}
use native.Mathlib.Nat.{mul-div_cancel, le-div_iff_mul-le, div-lt_iff_lt-mul}
use native.Mathlib.Omega.{arith}
use lib.Dec.{lit<, lit≤}
use lib.Pow.{pow-add, pow_pos, pow_mono, shl_lt, shl-shr}
use lib.Ieee.{Float, nan, inf, fin, binary32, up, down, size, span, climb, units, round, to_bits}
use lib.Ieee.Digits.{size-lt, size-le}
use lib.Ieee.Fits.{down_pos, round_is}
use lib.Ieee.Exact.{HasValue, units_val, round_exact}
use lib.Ieee.Nearest.{closest, closest_same, closest_mono, div_same}

-- ---- the bits of a value, by its sign and its size in units of 2 ^ -149

pattern : Bool → ℕ → ℕ
pattern s w = cond s 2147483648 0 + (size w - 24) * 8388608 + w / 2 ^ (size w - 24)

bits_of : (x : Float) (s : Bool) (a c : ℕ) → 0 < c → HasValue x s a c → to_bits binary32 x ≡ pattern s (a * 2 ^ 149 / c)
unfolding to_bits pattern
bits_of nan s a c C v = elim v [ ]
bits_of (inf _) s a c C v = elim v [ ]
bits_of (fin t m e) s a c C v =
    ap₂ pattern v.0
    (div_same (m * up e * 2 ^ 149) (down e) (a * 2 ^ 149) c (down_pos e) C
    (mul_right_comm (m * up e) (2 ^ 149) c ∙ ap (λ (x : ℕ). x * 2 ^ 149) v.1 ∙ mul_right_comm a (down e) (2 ^ 149)))

size_is : (w j : ℕ) → 2 ^ j ≤ w → w < 2 ^ suc j → size w ≡ suc j
size_is w j h l = le_antisymm (size-le w (suc j) l) (lt_of_not-le (λ (g : size w ≤ j). not-le_of_lt (lt_of_lt_of_le (size-lt w) (pow_mono g)) h))

-- 24 digits, d of them dropped
whole_digits : (s : Bool) (q d : ℕ) → 8388608 ≤ q → q < 16777216 → pattern s (q * 2 ^ d) ≡ cond s 2147483648 0 + d * 8388608 + q
unfolding pattern
whole_digits s q d h l =
    let e : size (q * 2 ^ d) - 24 ≡ d =
    ap (λ (x : ℕ). x - 24) (size_is (q * 2 ^ d) (23 + d) (le_trans (le_of_eq (pow-add 2 23 d)) (mul-le-mul_right (2 ^ d) h))
    (subst (λ (x : ℕ). q * 2 ^ d < 2 ^ x) (omega arith) (shl_lt 24 d l)))
    ∙ omega arith in
    ap (λ (x : ℕ). cond s 2147483648 0 + x * 8388608 + q * 2 ^ d / 2 ^ x) e ∙ ap (λ (x : ℕ). cond s 2147483648 0 + d * 8388608 + x) (shl-shr q d)

-- rounded up to 2 ^ 24 it has a digit more, and drops one more
few_digits : (s : Bool) (q d : ℕ) → 8388608 ≤ q → q ≤ 16777216 → pattern s (q * 2 ^ d) ≡ cond s 2147483648 0 + d * 8388608 + q
few_digits s q d h l =
    elim (eq-or-lt_of_le l) [
      | inl e ↦
          subst (λ (x : ℕ). pattern s (x * 2 ^ d) ≡ cond s 2147483648 0 + d * 8388608 + x) (sym e)
          (ap (pattern s) (mul_assoc 8388608 2 (2 ^ d) ∙ ap (λ (x : ℕ). 8388608 * x) (sym (pow-add 2 1 d)))
          ∙ whole_digits s 8388608 (1 + d) (le_refl 8388608) (lit< tt) ∙ omega arith)
      | inr m ↦ whole_digits s q d h m
    ]

-- ---- n / c, scaled until 24 digits stand before the point: in units of 2 ^ -149 the last d are dropped

pub record Scaled (n c scaled d : ℕ) : Type 0 where
  pub dropped : d ≤ 155
  pub doubled : scaled ≡ n * 2 ^ (155 - d)
  pub high : scaled < 16777216 * (c * 64)

pub scaled_start : {n c : ℕ} → 0 < c → n < 2 ^ 30 → Scaled n c n 155
scaled_start {n} {c} C h = record { dropped = lit≤ tt; doubled = sym (mul-one n); high = omega arith }

pub scaled_left : {n c scaled d : ℕ} → 0 < n → c ≤ 10 ^ 9 → Scaled n c scaled d → scaled < c * 64 * 8388608 → 0 < d
scaled_left {n} {c} {scaled} {d} N C x h = go d x.doubled
  where
    go : (d : ℕ) → scaled ≡ n * 2 ^ (155 - d) → 0 < d
    go zero e =
        absurd (not-le_of_lt (lt_of_lt_of_le h (le_trans (mul-le-mul_right 8388608 (mul-le-mul_right 64 C)) (lit≤ tt)))
        (le_trans (mul-le-mul_right (2 ^ 155) N) (le_of_eq (sym e))))
    go (suc d) e = zero-lt-suc d

pub scaled_on : {n c scaled d : ℕ} → 0 < d → scaled < c * 64 * 8388608 → Scaled n c scaled d → Scaled n c (scaled * 2) (d - 1)
scaled_on {n} {c} {scaled} {d} D h x =
    let k = x.dropped in
    let e : suc (155 - d) ≡ 155 - (d - 1) = omega arith in
    record {
      dropped = omega arith;
      doubled = ap (λ (z : ℕ). z * 2) x.doubled ∙ mul_assoc n (2 ^ (155 - d)) 2 ∙ ap (λ (z : ℕ). n * z) (sym (pow-suc 2 (155 - d)) ∙ ap (λ (z : ℕ). 2 ^ z) e);
      high = omega arith;
    }

module _ (s : Bool) {n c d scaled : ℕ} (C : 0 < c) (x : Scaled n c scaled d) (low : 8388608 * (c * 64) ≤ scaled) where
  abbrev unit : ℕ
  unit = c * 64

  same : n * 2 ^ 149 * unit ≡ scaled * (c * 2 ^ d)
  same =
      mul_assoc n (2 ^ 149) (c * 64)
      ∙ ap (λ (x : ℕ). n * x) (ap (λ (x : ℕ). 2 ^ 149 * x) (mul_comm c 64) ∙ sym (mul_assoc (2 ^ 149) 64 c) ∙ mul_comm (2 ^ 155) c ∙ ap (λ (x : ℕ). c * x) split
      ∙ regroup)
      ∙ sym (mul_assoc n (2 ^ (155 - d)) (c * 2 ^ d))
      ∙ ap (λ (x : ℕ). x * (c * 2 ^ d)) (sym x.doubled)
    where
      all : 155 ≡ 155 - d + d
      all = let k = x.dropped in omega arith

      split : 2 ^ 155 ≡ 2 ^ (155 - d) * 2 ^ d
      split = ap (λ (x : ℕ). 2 ^ x) all ∙ pow-add 2 (155 - d) d

      regroup : c * (2 ^ (155 - d) * 2 ^ d) ≡ 2 ^ (155 - d) * (c * 2 ^ d)
      regroup = simp (mul_assoc, mul_comm, mul_left_comm)

  unit_pos : 0 < unit
  unit_pos = omega arith

  -- so n * 2 ^ 149 / c lies where scaled / unit does, d digits further up
  from_low : 8388608 * 2 ^ d * c ≤ n * 2 ^ 149
  from_low =
      le_of_mul-le-mul_right
      (le_trans (le_of_eq (simp (mul_assoc, mul_comm, mul_left_comm))) (le_trans (mul-le-mul_right (c * 2 ^ d) low) (le_of_eq (sym same))))
      unit_pos

  below_high : n * 2 ^ 149 < 16777216 * 2 ^ d * c
  below_high =
      lt_of_mul-lt-mul_right unit
      (lt_of_le_of_lt (le_of_eq same) (lt_of_lt_of_le (mul-lt-mul_of_pos_right x.high (mul-pos C (pow_pos d))) (le_of_eq (simp (mul_assoc, mul_comm, mul_left_comm)))))

  drops : size (n * 2 ^ 149 / c) - 24 ≡ d
  drops =
      ap (λ (x : ℕ). x - 24)
      (size_is (n * 2 ^ 149 / c) (23 + d)
      ((le-div_iff_mul-le C).1 (subst (λ (x : ℕ). x * c ≤ n * 2 ^ 149) (sym (pow-add 2 23 d)) from_low))
      (subst (λ (x : ℕ). n * 2 ^ 149 / c < 2 ^ x) (omega arith) ((div-lt_iff_lt-mul C).1 (subst (λ (x : ℕ). n * 2 ^ 149 < x * c) (sym (pow-add 2 24 d)) below_high))))
      ∙ omega arith

  rounds : round binary32 s n c ≡ units binary32 s (closest scaled unit) d
  rounds =
      round_is binary32 s n c
      ∙ ap (λ (k : ℕ). units binary32 s (closest (n * 2 ^ 149) (c * 2 ^ k)) k) drops
      ∙ ap (λ (q : ℕ). units binary32 s q d) (closest_same (n * 2 ^ 149) (c * 2 ^ d) scaled unit (mul-pos C (pow_pos d)) unit_pos same)

  enough : 8388608 ≤ closest scaled unit
  enough = closest_mono 8388608 1 scaled unit (lit< tt) unit_pos (le_trans low (le_of_eq (sym (mul-one scaled))))

  pub no_more : closest scaled unit ≤ 16777216
  no_more = closest_mono scaled unit 16777216 1 unit_pos (lit< tt) (le_trans (le_of_eq (mul-one scaled)) (le_of_lt x.high))

  finite : closest scaled unit * 2 ^ d < 2 ^ 277
  finite = lt_of_le_of_lt (le_trans (mul-le-mul_right (2 ^ d) no_more) (le_trans (mul-le-mul_left 16777216 (pow_mono x.dropped)) (le_of_eq refl))) (lit< tt)

  pub nearest_bits : to_bits binary32 (round binary32 s n c) ≡ cond s 2147483648 0 + d * 8388608 + closest scaled unit
  nearest_bits =
      let q = closest scaled unit in
      ap (to_bits binary32) rounds
      ∙ bits_of (units binary32 s q d) s (q * 2 ^ d) (2 ^ 149) (pow_pos 149) (units_val binary32 s q d finite)
      ∙ ap (pattern s) (mul-div_cancel (q * 2 ^ d) (pow_pos 149))
      ∙ few_digits s q d enough no_more

-- ---- zero

pub zero_bits : (s : Bool) (c : ℕ) → 0 < c → to_bits binary32 (round binary32 s 0 c) ≡ cond s 2147483648 0
unfolding pattern size span climb
zero_bits s c C =
    bits_of (round binary32 s 0 c) s 0 c C (round_exact binary32 s 0 c 0 0 C (lit< tt) (lit< tt) (sym (zero-mul c)))
    ∙ ap (pattern s) (div_same 0 c 0 1 C (lit< tt) (sym (zero-mul c)))
    ∙ omega arith
