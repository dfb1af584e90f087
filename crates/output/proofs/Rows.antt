-- What is put one thing after another: a byte and what follows it, one field more, and the lent numbers of which the first n are done.
use mathlib.Core.Path.{◌≡◌, refl, sym, ap, ◌∙◌, subst}
use mathlib.Core.List.{List, [], ◌∷◌, ◌++◌, append_assoc, append-nil}
use Prim.Native.Nat.{ℕ, zero, suc, ◌+◌, ◌*◌, ◌<◌, ◌≤◌}
use native.Mathlib.Numerals.{add-one}
use native.Mathlib.Omega.{arith}
use lib.IntN.{ℤ, pos}
use lib.ListN.{length, get_or, set, drop, drop_of_length-le}
use lib.Seq.{drop-cons}
use Rattle.text.specs.Pages.{Put, ascii, integer}
use Rattle.text.proofs.Puts.{put_nothing, put_byte, put_then}
use Rattle.output.specs.Written.{field_text, parted_text, fields_text, lent_text, lent_line}
use Rattle.replies.specs.declared.Field.{Field}
use Rattle.replies.specs.declared.Field.TheVariants.{Plain}

pub put_behind : {before after word : List ℕ} {at end : ℕ} (b : ℕ) → at < length before → Put (set before at b) after (at + 1) end word
    → Put before after at end (b ∷ word)
put_behind {before} b h p = put_then (put_byte b h (put_nothing before (omega arith))) p

-- one field more is put behind the others
pub fields_on : {before after page : List ℕ} {at end to : ℕ} (n : ℕ) (fs : List Field) → Put before after at end (fields_text n fs)
    → Put after page end to (parted_text n (get_or fs n (Plain 0))) → Put before page at to (fields_text (n + 1) fs)
unfolding fields_text
fields_on n fs p q = rw add-one (put_then p q)

-- a field that is not the first has a space before it
pub parted_behind : (i : ℕ) (f : Field) → (i ≡ 0 → ⊥) → parted_text i f ≡ 32 ∷ field_text f
unfolding parted_text
parted_behind zero f h = absurd (h refl)
parted_behind (suc i) f h = refl

pub record Rows (zs : List ℤ) (before after : List ℕ) (at end n : ℕ) : Type 0 where
  pub text : List ℕ
  pub put : Put before after at end text
  pub left : text ++ lent_text (drop n zs) ≡ lent_text zs
  pub short : end ≤ at + 12 * n

pub rows_start : (zs : List ℤ) (page : List ℕ) {at : ℕ} → at ≤ length page → Rows zs page page at at 0
rows_start zs page h = record { text = []; put = put_nothing page h; left = refl; short = omega arith }

module _ (zs : List ℤ) {before after : List ℕ} {at end n : ℕ} (r : Rows zs before after at end n) where
  next : n < length zs → lent_text (drop n zs) ≡ (32 ∷ integer (get_or zs n (pos 0))) ++ lent_text (drop (n + 1) zs)
  unfolding lent_text
  next h = rw (add-one, drop-cons zs n (pos 0) h)

  pub rows_on : {page : List ℕ} {to : ℕ} → n < length zs → Put after page end to (32 ∷ integer (get_or zs n (pos 0))) → to ≤ end + 12
      → Rows zs before page at to (n + 1)
  rows_on h p s =
      let word : List ℕ = 32 ∷ integer (get_or zs n (pos 0)) in
      record {
        text = r.text ++ word;
        put = put_then r.put p;
        left = append_assoc r.text word (lent_text (drop (n + 1) zs)) ∙ ap (λ (x : List ℕ). r.text ++ x) (sym (next h)) ∙ r.left;
        short = omega (arith, r.short);
      }

  pub rows_end : length zs ≤ n → end < length after → Put before (set after end 10) at (end + 1) (lent_line zs)
  unfolding lent_line lent_text
  rows_end h l =
      let e : lent_text (drop n zs) ≡ [] = rw drop_of_length-le refl in
      let whole : r.text ≡ lent_text zs = sym (append-nil r.text) ∙ ap (λ (x : List ℕ). r.text ++ x) (sym e) ∙ r.left in
      subst (λ (x : List ℕ). Put before (set after end 10) at (end + 1) (x ++ ascii "\n")) whole (put_byte 10 l r.put)
