-- Why a line does not follow those before it. The last line begins with a letter and a strip's line with a digit, so no place has both.
use mathlib.Core.Path.{◌≡◌, refl, sym, ap, ◌∙◌}
use mathlib.Core.Bool.{Bool, true, false}
use mathlib.Core.List.{List}
use Prim.Native.Nat.{ℕ, ◌+◌, ◌-◌, ◌*◌, ◌/◌, ◌<◌, ◌≤◌}
use native.Mathlib.Omega.{arith}
use borrow.Author.Tests.{lt-ltb}
use lib.IntN.{ℤ, pos}
use lib.ListN.{length, get_or, take, drop, length-drop, length-replicate}
use lib.Seq.{length-sets, take_all, get_or-take}
use Rattle.whole.proofs.Comparisons.{ff_tt}
use Rattle.std.specs.Prelude.{⊤, Result}
use Rattle.std.specs.Str.{bytes_eq}
use Rattle.std.specs.List.{starts_with}
use lib.Dec.{eqb}
use Rattle.std.proofs.lemmas.Slice.Eq.{bytes_eq-Decides}
use Rattle.grid.specs.declared.Window.{Window}
use Rattle.slots.specs.Slots.{is_book, slot_of, slot_numbers}
use Rattle.bookkeeping.specs.Runs.{empty_book}
use Rattle.text.specs.Pages.{digits, natural, integer}
use Rattle.strip_lines.specs.Lines.{listed, row_text}
use Rattle.row_reading.specs.Rows.{StandsAt, IsRow}
use Rattle.row_reading.proofs.Unique.{one_row, row_long, stands_within}
use Rattle.book_text.specs.Texts.{head_text, end_text, with_strip}
use Rattle.book_text.specs.Readings.{Follows, Lines, ReadsAs, book, no_line, behind}
use Rattle.book_text.specs.Workers.{EndsAs, ends, goes_on, another}

-- a strip's line begins with its renter's digit
row_starts : (k : ℕ) (w : Window) → k < 64 → get_or (row_text k w) 0 0 ≡ 48 + k / 32
unfolding row_text listed integer natural digits
row_starts k w h = rw (lt-ltb (k / 32) 10 (omega arith)) refl

module _ (t : List ℕ) (i : ℕ) where
  -- ---- a line that does not follow

  pub row_within : {k : ℕ} {w : Window} → i ≤ length t → IsRow t i k w → i + length (row_text k w) ≤ length t
  row_within {k} {w} h r = omega (arith, stands_within t (row_text k w) i r.line, row_long k w)

  pub text_over : length t ≤ i → (next : ℕ) (zs : List ℤ) (k : ℕ) (w : Window) → Follows t i next zs k w → ⊥
  text_over h next zs k w f = omega (arith, stands_within t (row_text k w) i f.line.line, row_long k w)

  module _ {k : ℕ} {w : Window} (h : 1 ≤ i) (r : IsRow t i k w) (next : ℕ) (zs : List ℤ) where
    pub too_early : k < next → (j : ℕ) (v : Window) → Follows t i next zs j v → ⊥
    too_early l j v f = omega (arith, f.later, (one_row t i j k v w h f.line r).0)

    pub no_book : is_book (with_strip zs k w) ≡ false → (j : ℕ) (v : Window) → Follows t i next zs j v → ⊥
    no_book b j v f =
        let e = one_row t i j k v w h f.line r in
        ff_tt (sym b ∙ ap (λ (n : ℕ). is_book (with_strip zs n w)) (sym e.0) ∙ ap (λ (x : Window). is_book (with_strip zs j x)) (sym e.1) ∙ f.book)

  -- ---- the first line

  pub headed_so : {b : Bool} → b ≡ starts_with eqb t head_text → b ≡ true → StandsAt t 0 head_text
  headed_so e h = sym ((bytes_eq-Decides head_text (take 69 t)).0 (sym e ∙ h))

  pub not_headed : {b : Bool} → b ≡ starts_with eqb t head_text → b ≡ false → StandsAt t 0 head_text → ⊥
  not_headed e h s = ff_tt (sym h ∙ e ∙ (bytes_eq-Decides head_text (take 69 t)).1 (sym s))

  -- ---- the last line

  -- the first byte of what stands there
  starts : (word : List ℕ) → 0 < length word → StandsAt t i word → get_or (drop i t) 0 0 ≡ get_or word 0 0
  starts word h s = sym (get_or-take (length word) (drop i t) 0 0 h) ∙ ap (λ (x : List ℕ). get_or x 0 0) s

  -- it begins with a letter, so it does not stand where a strip's line does
  pub no_end : {k : ℕ} {w : Window} → IsRow t i k w → StandsAt t i end_text → ⊥
  no_end {k} {w} r s =
      let letter : get_or end_text 0 0 ≡ 101 = refl in
      let digit = starts (row_text k w) (omega (arith, row_long k w)) r.line in
      omega (arith, r.slot, row_starts k w r.slot, digit, starts end_text (omega arith) s, letter)

  -- nor where fewer bytes are left than it has
  pub no_room : length t < i + 4 → StandsAt t i end_text → ⊥
  no_room h s = let size : length end_text ≡ 4 = refl in omega (arith, size, stands_within t end_text i s)

  -- what is left there, compared with it
  left_is : take (length t - i) (drop i t) ≡ drop i t
  left_is = take_all (length t - i) (drop i t) (omega (arith, length-drop i t))

  pub compared : bytes_eq (take 4 (take (length t - i) (drop i t))) end_text ≡ true → StandsAt t i end_text
  compared h =
      (bytes_eq-Decides (take 4 (drop i t)) end_text).0 (ap (λ (l : List ℕ). bytes_eq (take 4 l) end_text) (sym left_is) ∙ h)

  pub not_compared : bytes_eq (take 4 (take (length t - i) (drop i t))) end_text ≡ false → StandsAt t i end_text → ⊥
  not_compared h s =
      ff_tt (sym h ∙ ap (λ (l : List ℕ). bytes_eq (take 4 l) end_text) left_is ∙ (bytes_eq-Decides (take 4 (drop i t)) end_text).1 s)

  pub stands_last : drop i t ≡ end_text → StandsAt t i end_text
  stands_last e = ap (take 4) e

  -- it is all that is left, or something follows it
  pub is_last : length t ≤ i + 4 → StandsAt t i end_text → drop i t ≡ end_text
  is_last h s = sym (take_all 4 (drop i t) (omega (arith, length-drop i t))) ∙ s

  pub not_last : i + 4 < length t → drop i t ≡ end_text → ⊥
  not_last h e = omega (arith, length-drop i t, ap length e)

pub empty_long : length empty_book ≡ 320
unfolding empty_book
empty_long = length-replicate 320 (pos 0)

pub with_long : (zs : List ℤ) (k : ℕ) (w : Window) → length (with_strip zs k w) ≡ length zs
with_long zs k w = length-sets zs (5 * k) (slot_numbers (slot_of 1 w))

-- a text that has no further line
pub ended : {t : List ℕ} {n i next : ℕ} {ys : List ℤ} {r : Result ⊤ ℕ} → Lines t n i next ys → ((k : ℕ) (w : Window) → Follows t i next ys k w → ⊥)
    → EndsAs t i n r → ReadsAs t r ys
ended l never (ends e) = book l e
ended l never (goes_on s more) = behind l s more
ended l never (another n) = no_line l never n
