-- The lines of rows as a loop that goes by five puts them: the first n numbers are done.
use mathlib.Core.Path.{◌≡◌, refl, sym, ap, ◌∙◌, subst}
use mathlib.Core.List.{List, [], ◌∷◌, ◌++◌, append_assoc, append-nil}
use Prim.Native.Nat.{ℕ, suc, ◌+◌, ◌*◌, ◌<◌, ◌≤◌}
use native.Mathlib.Numerals.{towards_suc}
use native.Mathlib.Omega.{arith}
use lib.IntN.{ℤ, pos}
use lib.ListN.{length, drop, length-drop}
use lib.Seq.{drop-cons}
use Rattle.text.specs.Pages.{Put}
use Rattle.text.proofs.Puts.{put_nothing, put_then}
use Rattle.lines.specs.Lines.{row_at, row_lines}

rows_more : (xs : List ℤ) (n : ℕ) → n + 5 ≤ length xs → row_lines (drop n xs) ≡ row_at xs n ++ row_lines (drop (n + 5) xs)
unfolding row_lines
rows_more xs n h =
    let h₀ : n < length xs = omega arith in
    let h₁ : suc n < length xs = omega arith in
    let h₂ : suc (suc n) < length xs = omega arith in
    let h₃ : suc (suc (suc n)) < length xs = omega arith in
    let h₄ : suc (suc (suc (suc n))) < length xs = omega arith in
    simp towards_suc
    (rw (
      drop-cons xs n (pos 0) h₀,
      drop-cons xs (suc n) (pos 0) h₁,
      drop-cons xs (suc (suc n)) (pos 0) h₂,
      drop-cons xs (suc (suc (suc n))) (pos 0) h₃,
      drop-cons xs (suc (suc (suc (suc n)))) (pos 0) h₄,
    ))

rows_few : (xs : List ℤ) → length xs < 5 → row_lines xs ≡ []
unfolding row_lines
rows_few [] h = refl
rows_few (a ∷ []) h = refl
rows_few (a ∷ b ∷ []) h = refl
rows_few (a ∷ b ∷ c ∷ []) h = refl
rows_few (a ∷ b ∷ c ∷ d ∷ []) h = refl
rows_few (a ∷ b ∷ c ∷ d ∷ e ∷ xs) h = absurd (omega arith)

pub record Rows (xs : List ℤ) (before after : List ℕ) (at end n : ℕ) : Type 0 where
  pub text : List ℕ
  pub put : Put before after at end text
  pub left : text ++ row_lines (drop n xs) ≡ row_lines xs
  pub short : end ≤ at + 12 * n

pub rows_start : (xs : List ℤ) (page : List ℕ) {at : ℕ} → at ≤ length page → Rows xs page page at at 0
rows_start xs page h = record { text = []; put = put_nothing page h; left = refl; short = omega arith }

-- how many are done may be written in another way
pub rows_to : {xs : List ℤ} {before after : List ℕ} {at end n m : ℕ} → n ≡ m → Rows xs before after at end n → Rows xs before after at end m
rows_to {xs} {before} {after} {at} {end} e r = subst (λ (k : ℕ). Rows xs before after at end k) e r

module _ (xs : List ℤ) {before after : List ℕ} {at end n : ℕ} (r : Rows xs before after at end n) where
  pub rows_on : {next : List ℕ} {to : ℕ} → n + 5 ≤ length xs → Put after next end to (row_at xs n) → to ≤ end + 60 → Rows xs before next at to (n + 5)
  rows_on h p s =
      record {
        text = r.text ++ row_at xs n;
        put = put_then r.put p;
        left =
            append_assoc r.text (row_at xs n) (row_lines (drop (n + 5) xs)) ∙ ap (λ (x : List ℕ). r.text ++ x) (sym (rows_more xs n h)) ∙ r.left;
        short = omega (arith, r.short);
      }

  pub rows_end : length xs < n + 5 → Put before after at end (row_lines xs)
  rows_end h =
      let e : row_lines (drop n xs) ≡ [] = rows_few (drop n xs) (omega (arith, length-drop n xs)) in
      subst (Put before after at end) (sym (append-nil r.text) ∙ ap (λ (x : List ℕ). r.text ++ x) (sym e) ∙ r.left) r.put
