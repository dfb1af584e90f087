-- The digits of a number are those that `io` writes, and few; and what is put for a number by its sign.
use mathlib.Core.Path.{◌≡◌, sym, ap, ap₂, ◌∙◌, subst}
use mathlib.Core.Bool.{Bool, true, false, cond}
use mathlib.Core.List.{List, [], ◌∷◌, ◌++◌}
use Prim.Native.Nat.{ℕ, zero, suc, ◌+◌, ◌-◌, ◌/◌, ◌%◌, ◌^◌, ◌<◌, ◌≤◌, suc-le-suc}
use native.Mathlib.Nat.{le_trans, lt_of_lt_of_le, lt_of_not-le, not-le_of_lt, le_of_suc-le-suc, pow-suc, pow-le-pow_right, mod-lt, le-div_iff_mul-le, div-lt_iff_lt-mul}
use native.Mathlib.Omega.{arith}
use borrow.Author.Tests.{ltb-true, lt-ltb, le-ltb}
use lib.Dec.{T, ltb, lit<, lit≤}
use lib.IntN.{ℤ, pos, negsuc, nat_abs}
use lib.ListN.{length, set, length-append}
use lib.Signed.{lt_z, mag}
use Rattle.whole.specs.Choice.{when◌then◌else◌}
use Rattle.io.specs.Digits as Io
use Rattle.text.specs.Pages.{Put, digits, natural, integer}
use Rattle.text.proofs.Puts.{put_nothing, put_byte, put_then}

-- ---- how many digits

-- the fewest digits of a base, and no fewer than `least`, are no more than enough
pub enough : (base least m : ℕ) {n k : ℕ} → 0 < base → least ≤ m → n < base ^ m → Io.IsDigitCount base least n k → k ≤ m
enough base least m {n} {k} b l h f =
    le_of_suc-le-suc (lt_of_not-le (λ (g : suc m ≤ k). not-le_of_lt (lt_of_lt_of_le h (pow-le-pow_right b (less m k g))) (f.2 (omega arith))))
  where
    less : (m k : ℕ) → suc m ≤ k → m ≤ k - 1
    less m k g = omega arith

pub digits_few : (j k n : ℕ) → n < 10 ^ suc j → j < k → length (digits k n) ≤ suc j
unfolding digits
digits_few j zero n h l = omega arith
digits_few zero (suc k) n h l = rw (lt-ltb n 10 h) (omega arith)
digits_few (suc j) (suc k) n h l =
    go (ltb n 10) (digits_few j k (n / 10) ((div-lt_iff_lt-mul (lit< tt)).1 (subst (λ (x : ℕ). n < x) (pow-suc 10 (suc j)) h)) (omega arith))
  where
    go : (b : Bool) → length (digits k (n / 10)) ≤ suc j → length (when b then (48 + n) ∷ [] else digits k (n / 10) ++ (48 + n % 10) ∷ []) ≤ suc (suc j)
    go true r = omega arith
    go false r = omega (arith, length-append (digits k (n / 10)) ((48 + n % 10) ∷ []))

-- an i32 has at most ten digits and a minus
pub integer_short : (x : ℤ) → mag x < 2 ^ 31 → length (integer x) ≤ 11
unfolding integer natural
integer_short (pos n) h = omega (arith, digits_few 9 20 n (lt_of_lt_of_le h (lit≤ tt)) (lit< tt))
integer_short (negsuc n) h = omega (arith, digits_few 9 20 (suc n) (lt_of_lt_of_le (suc-le-suc h) (lit≤ tt)) (lit< tt))

-- ---- `io`'s digits

glyph : (d : ℕ) → d < 10 → Io.hex_digit_ascii d ≡ 48 + d
glyph d h = ap (λ b. cond b (48 + d) (87 + d)) (lt-ltb d 10 h)

-- k are the fewest that hold n
same_digits : (f k n : ℕ) → n < 10 ^ suc f → Io.IsDigitCount 10 1 n k → Io.last_digits 10 k n ≡ digits (suc f) n
unfolding digits
same_digits f zero n h w = absurd (omega (arith, w.0))
same_digits f (suc zero) n h w =
    let l : n < 10 = w.1 in
    let e : n % 10 ≡ n = omega arith in
    rw (lt-ltb n 10 l) (ap (λ x. x ∷ []) (glyph (n % 10) (mod-lt n (lit< tt)) ∙ ap (λ x. 48 + x) e))
same_digits zero (suc (suc k)) n h w =
    absurd (not-le_of_lt h (le_trans (pow-le-pow_right {n = 10} (lit< tt) {i = 1} {j = suc (suc k) - 1} (omega arith)) (w.2 (omega arith))))
same_digits (suc f) (suc (suc k)) n h w =
    let e : suc (suc k) - 1 ≡ suc k = omega arith in
    let more : 10 ^ suc k ≤ n = subst (λ (x : ℕ). 10 ^ x ≤ n) e (w.2 (omega arith)) in
    let ten : 10 ≤ n = le_trans (pow-le-pow_right {n = 10} (lit< tt) {i = 1} {j = suc k} (omega arith)) more in
    let one_less : suc k - 1 ≡ k = omega arith in
    let less : Io.IsDigitCount 10 1 (n / 10) (suc k) = (
      omega arith,
      (div-lt_iff_lt-mul (lit< tt)).1 (subst (λ (x : ℕ). n < x) (pow-suc 10 (suc k)) w.1),
      λ l. subst (λ (x : ℕ). 10 ^ x ≤ n / 10) (sym one_less)
          ((le-div_iff_mul-le (lit< tt)).1 (subst (λ (x : ℕ). x ≤ n) (pow-suc 10 k) more)),
    ) in
    rw (le-ltb n 10 ten)
    (ap₂ (λ x y. x ++ y ∷ []) (same_digits f (suc k) (n / 10) ((div-lt_iff_lt-mul (lit< tt)).1 (subst (λ (x : ℕ). n < x) (pow-suc 10 (suc f)) h)) less)
    (glyph (n % 10) (mod-lt n (lit< tt))))

pub natural_is : {n k : ℕ} → n < 10 ^ 20 → Io.IsDigitCount 10 1 n k → Io.last_digits 10 k n ≡ natural n
unfolding natural
natural_is {n} {k} h w = same_digits 19 k n h w

-- ---- by the sign

pub positive : {before after : List ℕ} {at end size : ℕ} (z : ℤ) → lt_z z (pos 0) ≡ false → size ≡ nat_abs z → Put before after at end (natural size)
    → Put before after at end (integer z)
unfolding integer
positive {before} {after} {at} {end} (pos n) e s p = subst (λ (k : ℕ). Put before after at end (natural k)) s p
positive (negsuc n) e s p = absurd (subst T e tt)

pub negative : {before after : List ℕ} {at end size : ℕ} (z : ℤ) → lt_z z (pos 0) ≡ true → size ≡ nat_abs z → at < length before
    → Put (set before at 45) after (at + 1) end (natural size) → Put before after at end (integer z)
unfolding integer
negative (pos n) e s h p = absurd (omega (arith, ltb-true n 0 e))
negative {before} {after} {at} {end} (negsuc n) e s h p =
    put_then (put_byte 45 h (put_nothing before (omega arith))) (subst (λ (k : ℕ). Put (set before at 45) after (at + 1) end (natural k)) s p)
