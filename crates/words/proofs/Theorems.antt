-- What is written reads back: the word of a number is that number.
use mathlib.Core.Path.{◌≡◌, refl, sym, ap, ◌∙◌}
use mathlib.Core.Bool.{Bool, true, false, cond}
use mathlib.Core.List.{List, [], ◌∷◌, ◌++◌}
use Rattle.std.specs.Prelude.{None, Some}
use Prim.Native.Nat.{ℕ, zero, suc, ◌+◌, ◌*◌, ◌/◌, ◌%◌, ◌≤◌, ◌<◌, ◌^◌}
use native.Mathlib.Nat.{div-add-mod', mod-lt, div-lt_iff_lt-mul, pow-zero, pow-suc, lt_of_lt_of_le}
use native.Mathlib.Omega.{arith}
use borrow.Author.Tests.{lt-ltb, ltb-true, ltb-false, le-leb, ne_eqb}
use lib.Dec.{T, ltb, lit<, lit≤}
use lib.Ieee.{Float, binary32, fits, to_bits}
use lib.Ieee.Bits.{to_bits-lt, of_bits-to_bits}
use lib.IntN.{ℤ, pos, negsuc, nat_abs}
use lib.ListN.{length, length-append}
use Rattle.io.specs.Digits.{hex_digit_ascii, last_digits}
use Rattle.whole.specs.Choice.{when◌then◌else◌}
use Rattle.words.specs.Digits.{between, digit_of, value_from, word_value}
use Rattle.text.specs.Pages as Pages
use Rattle.words.specs.Words.{has_minus, numeral, up_to, single, pattern}
use Rattle.words.proofs.Digits.{inside, above}
use Rattle.words.proofs.Values.{value_is}

-- ---- digits

decimal_back : (d : ℕ) → d < 10 → digit_of (48 + d) ≡ d
unfolding digit_of
decimal_back d h = simp (inside 48 57 (48 + d) (omega arith) (omega arith)) (omega arith)

digit_back : (d : ℕ) → d < 16 → digit_of (hex_digit_ascii d) ≡ d
unfolding digit_of
digit_back d h = go (ltb d 10) refl
  where
    go : (t : Bool) → ltb d 10 ≡ t → digit_of (cond t (48 + d) (87 + d)) ≡ d
    go true e = decimal_back d (ltb-true d 10 e)
    go false e =
        let large = ltb-false d 10 e in
        simp (above 48 57 (87 + d) (omega arith) (omega arith), above 65 70 (87 + d) (omega arith) (omega arith), inside 97 102 (87 + d) (omega arith) (omega arith))
        (omega arith)

last : (base n m b : ℕ) (w : List ℕ) → value_from base n w ≡ Some m → digit_of b < base → value_from base n (w ++ (b ∷ [])) ≡ Some (m * base + digit_of b)
unfolding value_from
last base n m b [] e h = let same : n ≡ m = cc in simp (lt-ltb (digit_of b) base h, same)
last base n m b (a ∷ w) e h = go (ltb (digit_of a) base) refl e (λ k. last base (n * base + digit_of a) m b w k h)
  where
    go : (t : Bool) → ltb (digit_of a) base ≡ t → (when t then value_from base (n * base + digit_of a) w else None) ≡ Some m
        → (value_from base (n * base + digit_of a) w ≡ Some m → value_from base (n * base + digit_of a) (w ++ (b ∷ [])) ≡ Some (m * base + digit_of b))
        → (when t then value_from base (n * base + digit_of a) (w ++ (b ∷ [])) else None) ≡ Some (m * base + digit_of b)
    go true s k rest = rest k
    go false s k rest = let z : ◌≡◌ {A = ℕ} 0 1 = cc in absurd (omega arith)

length_digits : (base k n : ℕ) → length (last_digits base k n) ≡ k
length_digits base zero n = refl
length_digits base (suc k) n = length-append (last_digits base k (n / base)) (hex_digit_ascii (n % base) ∷ []) ∙ (omega (arith, length_digits base k (n / base)))

digits_back : (base k n : ℕ) → 0 < base → base ≤ 16 → n < base ^ k → value_from base 0 (last_digits base k n) ≡ Some n
unfolding value_from
digits_back base zero n b c h = let same : n ≡ 0 = omega (arith, pow-zero base) in rw same
digits_back base (suc k) n b c h =
    let small = mod-lt n b in
    let same = digit_back (n % base) (lt_of_lt_of_le small c) in
    last base 0 (n / base) (hex_digit_ascii (n % base)) (last_digits base k (n / base))
    (digits_back base k (n / base) b c ((div-lt_iff_lt-mul b).1 (rw pow-suc at h)))
    (rw same small)
    ∙ ap Some (rw same (div-add-mod' n base))

-- the same for digits with no zero before them
naturals_back : (k n : ℕ) → n < 10 ^ suc k → (0 < length (Pages.digits (suc k) n)) × (value_from 10 0 (Pages.digits (suc k) n) ≡ Some n)
unfolding value_from Pages.digits
naturals_back zero n h = rw (lt-ltb n 10 h) (omega arith, simp (decimal_back n h, lt-ltb n 10 h) (ap Some (omega arith)))
naturals_back (suc k) n h = go (ltb n 10) refl (naturals_back k (n / 10) ((div-lt_iff_lt-mul (lit< tt)).1 (rw pow-suc at h))).1
  where
    go : (t : Bool) → ltb n 10 ≡ t → value_from 10 0 (Pages.digits (suc k) (n / 10)) ≡ Some (n / 10)
        → let w = when t then (48 + n) ∷ [] else Pages.digits (suc k) (n / 10) ++ (48 + n % 10) ∷ [] in (0 < length w) × (value_from 10 0 w ≡ Some n)
    go true e r = (omega arith, simp (decimal_back n (ltb-true n 10 e), e) (ap Some (omega arith)))
    go false e r =
        let small = mod-lt n (lit< tt) in
        let same = decimal_back (n % 10) small in (
          omega (arith, length-append (Pages.digits (suc k) (n / 10)) ((48 + n % 10) ∷ [])),
          last 10 0 (n / 10) (48 + n % 10) (Pages.digits (suc k) (n / 10)) r (rw same small) ∙ ap Some (rw same (div-add-mod' n 10)),
        )

-- ---- words

value_back : (base k n : ℕ) (w : List ℕ) → 0 < base → base ≤ 16 → 0 < k → n < base ^ k → w ≡ last_digits base k n → word_value base w ≡ Some n
value_back base k n w b c p h e = value_is base w (rw e (rw (length_digits base k n) p)) ∙ rw e (digits_back base k n b c h)

pub natural_back : (n : ℕ) → n < 10 ^ 20 → word_value 10 (Pages.natural n) ≡ Some n
unfolding Pages.natural
natural_back n h = let b = naturals_back 19 n h in value_is 10 (Pages.digits 20 n) b.0 ∙ b.1

minus_first : (w : List ℕ) → word_value 10 (45 ∷ w) ≡ None
unfolding word_value value_from digit_of between
minus_first w = refl

-- no digit is a minus
digit_first : (n : ℕ) (w : List ℕ) → word_value 10 w ≡ Some n → has_minus w ≡ false
unfolding has_minus
digit_first n [] e = refl
digit_first n (b ∷ w) e = ne_eqb b 45 λ m. clash (sym e ∙ ap (λ a. word_value 10 (a ∷ w)) m ∙ minus_first w)
  where
    clash : Some n ≡ None → ⊥
    clash s = let z : ◌≡◌ {A = ℕ} 0 1 = cc in omega arith

pub integer_back : (z : ℤ) → nat_abs z < 10 ^ 20 → numeral (Pages.integer z) ≡ Some z
unfolding numeral has_minus Pages.integer
integer_back (pos n) h = simp (digit_first n (Pages.natural n) (natural_back n h), natural_back n h)
integer_back (negsuc n) h = simp (natural_back (suc n) h)

pub single_back : (x : Float) → T (fits binary32 x) → single (pattern x) ≡ Some x
unfolding single up_to
single_back x f =
    let n = to_bits binary32 x in
    let small : n < 2 ^ 32 = to_bits-lt binary32 x f in
    simp (value_back 16 8 n (pattern x) (lit< tt) (lit≤ tt) (lit< tt) small refl, le-leb n 4294967295 (omega arith))
    (ap Some (of_bits-to_bits binary32 x f))
