-- What a word is read as: where it stands in the line, by its place or by how many words come before it.
use mathlib.Core.Path.{◌≡◌, sym, ap, ◌∙◌, subst}
use mathlib.Core.Bool.{Bool, true, false}
use mathlib.Core.List.{List}
use Prim.Native.Nat.{ℕ, suc, ◌-◌, ◌≤◌}
use borrow.Author.Tests.{eqb-true, eqb-false}
use lib.Dec.{eqb}
use lib.IntN.{ℤ}
use lib.Ieee.{Float, binary32, of_bits}
use lib.ListN.{length, take, drop}
use Rattle.words.specs.Words.{numeral, as_integer}
use Rattle.std.specs.Prelude.{None, Some, is_some}
use Rattle.decimal.specs.Decimals.{Reads}
use Rattle.decimal.proofs.Unique.{reads_unique}
use Rattle.pen_line.specs.Lines.{start_of, end_of, word}
use Rattle.pen_line.proofs.Words.{end_is, word_is}
use Rattle.orders.specs.Orders.{place_after, word_after, Over, IsWhole, IsLength, nearest}
use Rattle.orders.specs.Workers.{NextWord, WholeFrom, LengthFrom}

-- ---- the word from s to e, which is the next from i on

module _ (l : List ℕ) (i : ℕ) {s e : ℕ} (n : NextWord l i s e) where
  next_is : take (e - s) (drop s l) ≡ word l i
  next_is = word_is l i n.starts n.ends

  pub whole_is : {z : ℤ} → as_integer (numeral (take (e - s) (drop s l))) ≡ Some z → WholeFrom l i (Some (z, e))
  whole_is {z} r = (subst (λ (w : List ℕ). IsWhole w z) next_is r, end_is l i n.starts n.ends, n.within)

  pub whole_bad : as_integer (numeral (take (e - s) (drop s l))) ≡ None → WholeFrom l i None
  whole_bad r z k = let e : false ≡ true = ap is_some (sym r ∙ ap (λ (w : List ℕ). as_integer (numeral w)) next_is ∙ k) in cc

  pub length_is : {bits : ℕ} {x : Float} → Reads (take (e - s) (drop s l)) (Some bits) → x ≡ of_bits binary32 bits → LengthFrom l i (Some (x, e))
  length_is {bits} {x} r b =
      let read = subst (λ (w : List ℕ). Reads w (Some bits)) next_is r in
      (subst (IsLength _) (sym b) (nearest read), end_is l i n.starts n.ends, n.within)

  pub length_bad : Reads (take (e - s) (drop s l)) None → LengthFrom l i None
  length_bad r x (nearest k) = let e : false ≡ true = ap is_some (reads_unique (subst (λ (w : List ℕ). Reads w None) next_is r) k) in cc

-- ---- the word after the first n, where these end at i

module _ (l : List ℕ) (n : ℕ) {i : ℕ} (p : i ≡ place_after l n) where
  pub whole_at : {z : ℤ} {k : ℕ} → IsWhole (word l i) z × (k ≡ end_of l i) × (k ≤ length l)
      → IsWhole (word_after l n) z × (k ≡ place_after l (suc n)) × (k ≤ length l)
  whole_at {z} {k} w = subst (λ (x : ℕ). IsWhole (word l x) z × (k ≡ end_of l x) × (k ≤ length l)) p w

  pub no_whole : WholeFrom l i None → WholeFrom l (place_after l n) None
  no_whole w = subst (λ (x : ℕ). WholeFrom l x None) p w

  pub length_at : {x : Float} {k : ℕ} → IsLength (word l i) x × (k ≡ end_of l i) × (k ≤ length l)
      → IsLength (word_after l n) x × (k ≡ place_after l (suc n)) × (k ≤ length l)
  length_at {x} {k} w = subst (λ (y : ℕ). IsLength (word l y) x × (k ≡ end_of l y) × (k ≤ length l)) p w

  pub no_length : LengthFrom l i None → LengthFrom l (place_after l n) None
  no_length w = subst (λ (x : ℕ). LengthFrom l x None) p w

  pub is_over : {t : Bool} → t ≡ eqb (start_of l i) (length l) → t ≡ true → Over l n
  is_over e h = ap (start_of l) (sym p) ∙ eqb-true (start_of l i) (length l) (sym e ∙ h)

  pub not_over : {t : Bool} → t ≡ eqb (start_of l i) (length l) → t ≡ false → Over l n → ⊥
  not_over e h o = eqb-false (start_of l i) (length l) (sym e ∙ h) (ap (start_of l) p ∙ o)
