-- The number that digits spell, as a walk along them finds it.
use mathlib.Core.Path.{◌≡◌, refl, sym, ap, ◌∙◌, subst}
use mathlib.Core.Bool.{Bool, true, false, ◌&&◌}
use mathlib.Core.List.{List, [], ◌∷◌, ◌++◌}
use Prim.Native.Nat.{ℕ, suc, ◌+◌, ◌-◌, ◌*◌, ◌^◌, ◌<◌, ◌≤◌}
use native.Mathlib.Nat.{le_refl, le_trans, le_of_eq, lt_of_le_of_lt, mul-le-mul_right, mul_assoc, mul_comm, pow-suc}
use native.Mathlib.Numerals.{add-one}
use native.Mathlib.Omega.{arith}
use borrow.Author.Tests.{leb-true}
use lib.Dec.{leb}
use lib.ListN.{length, get_or, drop}
use lib.Seq.{drop-cons}
use Rattle.whole.proofs.Comparisons.{ff_tt}
use Rattle.decimal.specs.Decimals.{is_digit, AllDigits, ◌and◌, with_digits}

-- ---- a digit's range

pub digit_range : (b : ℕ) → is_digit b ≡ true → (48 ≤ b) × (b ≤ 57)
unfolding is_digit
digit_range b e = go (leb 48 b) (leb b 57) refl refl e
  where
    go : (x y : Bool) → leb 48 b ≡ x → leb b 57 ≡ y → (x && y) ≡ true → (48 ≤ b) × (b ≤ 57)
    go true true p q e = (leb-true 48 b p, leb-true b 57 q)
    go true false p q e = absurd (ff_tt e)
    go false y p q e = absurd (ff_tt e)

pub digit_head : {b : ℕ} {bs : List ℕ} → AllDigits (b ∷ bs) → is_digit b ≡ true
digit_head (d and ds) = d

pub digit_tail : {b : ℕ} {bs : List ℕ} → AllDigits (b ∷ bs) → AllDigits bs
digit_tail (d and ds) = ds

-- ---- the number that digits spell

pub with_digits-nil : (n : ℕ) → with_digits n [] ≡ n
unfolding with_digits
with_digits-nil n = refl

pub with_digits-cons : (n d : ℕ) (ds : List ℕ) → with_digits n (d ∷ ds) ≡ with_digits (n * 10 + (d - 48)) ds
unfolding with_digits
with_digits-cons n d ds = refl

-- it grows with each digit
pub with_digits_from : (n : ℕ) (ds : List ℕ) → n ≤ with_digits n ds
unfolding with_digits
with_digits_from n [] = le_refl n
with_digits_from n (d ∷ ds) = let h = with_digits_from (n * 10 + (d - 48)) ds in omega arith

-- and stays below the next power of ten
pub with_digits_below : (n : ℕ) (ds : List ℕ) → AllDigits ds → with_digits n ds < (n + 1) * 10 ^ length ds
unfolding with_digits
with_digits_below n [] a = omega arith
with_digits_below n (d ∷ ds) (e and a) =
    let m = n * 10 + (d - 48) in
    let h : with_digits m ds < (m + 1) * 10 ^ length ds = with_digits_below m ds a in
    let r : m + 1 ≤ (n + 1) * 10 = omega (arith, (digit_range d e).1) in
    le_trans h (le_trans (mul-le-mul_right (10 ^ length ds) r)
    (le_of_eq (mul_assoc (n + 1) 10 (10 ^ length ds) ∙ ap (λ (z : ℕ). (n + 1) * z) (mul_comm 10 (10 ^ length ds) ∙ sym (pow-suc 10 (length ds))))))

pub with_digits-append : (n : ℕ) (ds es : List ℕ) → with_digits n (ds ++ es) ≡ with_digits (with_digits n ds) es
unfolding with_digits
with_digits-append n [] es = refl
with_digits-append n (d ∷ ds) es = with_digits-append (n * 10 + (d - 48)) ds es

-- ---- of a loop that has read i of the digits: the next one, and what is left
module _ (ds : List ℕ) (i : ℕ) (h : i < length ds) (a : AllDigits (drop i ds)) where
  pub next_digit : is_digit (get_or ds i 0) ≡ true
  next_digit = digit_head (subst AllDigits (drop-cons ds i 0 h) a)

  pub next_rest : AllDigits (drop (i + 1) ds)
  next_rest = rw add-one (digit_tail (subst AllDigits (drop-cons ds i 0 h) a))

  pub next_number : (n : ℕ) → with_digits n (drop i ds) ≡ with_digits (n * 10 + (get_or ds i 0 - 48)) (drop (i + 1) ds)
  next_number n = rw (add-one, drop-cons ds i 0 h) (with_digits-cons n (get_or ds i 0) (drop (suc i) ds))

  pub next_below : {m : ℕ} (n : ℕ) → with_digits n (drop i ds) < m → n * 10 + (get_or ds i 0 - 48) < m
  next_below n l = lt_of_le_of_lt (le_trans (with_digits_from _ _) (le_of_eq (sym (next_number n)))) l
