-- The number that digits are, taken one by one from the front: a further digit makes it no smaller.
use mathlib.Core.Path.{◌≡◌, refl}
use mathlib.Core.Bool.{Bool, true, false}
use mathlib.Core.List.{List, [], ◌∷◌}
use Rattle.std.specs.Prelude.{None}
use Prim.Native.Nat.{ℕ, ◌+◌, ◌*◌, ◌≤◌, ◌<◌}
use native.Mathlib.Nat.{mul-le-mul_left, mul-one}
use native.Mathlib.Numerals.{add-one}
use native.Mathlib.Omega.{arith}
use borrow.Author.Tests.{lt-ltb, le-ltb, lt-leb, ltb-true}
use lib.Dec.{ltb}
use lib.ListN.{length, get_or, drop}
use lib.Seq.{drop-cons}
use Rattle.whole.specs.Choice.{when◌then◌else◌}
use Rattle.words.specs.Digits.{digit_of, value_from, word_value}
use Rattle.words.specs.Words.{up_to}

pub value_is : (base : ℕ) (w : List ℕ) → 0 < length w → word_value base w ≡ value_from base 0 w
unfolding word_value
value_is base [] h = absurd (omega arith)
value_is base (b ∷ w) h = refl

pub no_value : (base : ℕ) (w : List ℕ) → length w ≡ 0 → word_value base w ≡ None
unfolding word_value
no_value base [] h = refl
no_value base (b ∷ w) h = absurd (omega arith)

module _ (base n i : ℕ) (w : List ℕ) (h : i < length w) where
  pub one_more : digit_of (get_or w i 0) < base → value_from base n (drop i w) ≡ value_from base (n * base + digit_of (get_or w i 0)) (drop (i + 1) w)
  unfolding value_from
  one_more d = rw (add-one, drop-cons w i 0 h) (simp (lt-ltb _ _ d))

  pub no_digit : base ≤ digit_of (get_or w i 0) → value_from base n (drop i w) ≡ None
  unfolding value_from
  no_digit d = rw (drop-cons w i 0 h) (simp (le-ltb _ _ d))

grows : (base n d : ℕ) → d < base → n ≤ n * base + d
grows base n d h = omega (arith, mul-le-mul_left {m = 1} {n = base} n (omega arith), mul-one n)

pub too_large : (base most n : ℕ) (w : List ℕ) → most < n → up_to most (value_from base n w) ≡ None
unfolding value_from up_to
too_large base most n [] h = simp (lt-leb _ _ h)
too_large base most n (b ∷ w) h = go (ltb (digit_of b) base) refl (λ k. too_large base most (n * base + digit_of b) w k)
  where
    go : (t : Bool) → ltb (digit_of b) base ≡ t → (most < n * base + digit_of b → up_to most (value_from base (n * base + digit_of b) w) ≡ None)
        → up_to most (when t then value_from base (n * base + digit_of b) w else None) ≡ None
    go true e k = k (omega (arith, grows base n (digit_of b) (ltb-true _ _ e)))
    go false e k = refl
