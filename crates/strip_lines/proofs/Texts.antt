-- What the put functions put, as the definitions have it: a sign by the sign, and words in a chain as words in a list.
use mathlib.Core.Path.{◌≡◌, sym, ap, ◌∙◌, subst}
use mathlib.Core.Bool.{true, false}
use mathlib.Core.List.{List, [], ◌∷◌, ◌++◌, append_assoc, append-nil}
use Prim.Native.Nat.{ℕ, ◌+◌, ◌<◌, ◌≤◌}
use native.Mathlib.Omega.{arith}
use borrow.Author.Tests.{ltb-true}
use lib.Dec.{T}
use lib.IntN.{ℤ, pos, negsuc}
use lib.ListN.{length, set}
use lib.Signed.{lt_z}
use Rattle.text.specs.Pages.{Put, integer, ascii}
use Rattle.text.proofs.Puts.{put_nothing, put_byte}
use Rattle.strip_lines.specs.Lines.{sign, listed, lengths, millimetre}

module _ (page : List ℕ) {at : ℕ} where
  pub minus_put : (z : ℤ) → lt_z z (pos 0) ≡ true → at < length page → Put page (set page at 45) at (at + 1) (sign z)
  minus_put (pos n) e h = absurd (omega (arith, ltb-true n 0 e))
  minus_put (negsuc n) e h = put_byte 45 h (put_nothing page (omega arith))

  pub no_sign : (z : ℤ) → lt_z z (pos 0) ≡ false → at ≤ length page → Put page page at at (sign z)
  no_sign (pos n) e h = put_nothing page h
  no_sign (negsuc n) e h = absurd (subst T e tt)

-- ---- two and four words one after another

two : (a b : List ℕ) → a ++ b ≡ a ++ (b ++ [])
two a b = ap (a ++◌) (sym (append-nil b))

four : (a b c d : List ℕ) → ((a ++ b) ++ c) ++ d ≡ a ++ (b ++ (c ++ (d ++ [])))
four a b c d = append_assoc (a ++ b) c d ∙ append_assoc a b (c ++ d) ∙ ap (λ (x : List ℕ). a ++ (b ++ (c ++ x))) (sym (append-nil d))

module _ {before after : List ℕ} {at end : ℕ} where
  pub two_listed : (x y : ℤ) → Put before after at end ((integer x ++ ascii " ") ++ (integer y ++ ascii " "))
      → Put before after at end (listed (x ∷ y ∷ []))
  unfolding listed
  two_listed x y p = subst (Put before after at end) (two (integer x ++ ascii " ") (integer y ++ ascii " ")) p

  pub four_listed : (x y z w : ℤ)
      → Put before after at end ((((integer x ++ ascii " ") ++ (integer y ++ ascii " ")) ++ (integer z ++ ascii " ")) ++ (integer w ++ ascii " "))
      → Put before after at end (listed (x ∷ y ∷ z ∷ w ∷ []))
  unfolding listed
  four_listed x y z w p =
      subst (Put before after at end) (four (integer x ++ ascii " ") (integer y ++ ascii " ") (integer z ++ ascii " ") (integer w ++ ascii " ")) p

  pub four_lengths : (x y z w : ℤ) → Put before after at end (((millimetre x ++ millimetre y) ++ millimetre z) ++ millimetre w)
      → Put before after at end (lengths (x ∷ y ∷ z ∷ w ∷ []))
  unfolding lengths
  four_lengths x y z w p = subst (Put before after at end) (four (millimetre x) (millimetre y) (millimetre z) (millimetre w)) p
