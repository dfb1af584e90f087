-- What was read is the text of the table so far: a line enters its strip behind all others, so its row is the last one that the table has.
use mathlib.Core.Path.{◌≡◌, refl, sym, ap, ap₂, ◌∙◌}
use mathlib.Core.Bool.{Bool, true, false}
use mathlib.Core.List.{List, [], ◌∷◌, ◌++◌, append_assoc, append-nil}
use Prim.Native.Nat.{ℕ, zero, suc, ◌+◌, ◌<◌, ◌≤◌}
use native.Mathlib.Nat.{add-zero, zero-add}
use native.Mathlib.Omega.{arith}
use lib.IntN.{ℤ}
use lib.ListN.{length, take, drop, get_or, set, take-append-drop}
use lib.Seq.{take-add}
use Rattle.whole.specs.Choice.{when◌then◌else◌}
use Rattle.whole.proofs.Comparisons.{tt_ff}
use Rattle.grid.specs.declared.Window.{Window}
use Rattle.slots.specs.Slots.{Slot, slots_of, slot_at, slot_of, free_slot, in_use}
use Rattle.slots.proofs.Places.{slots_put}
use Rattle.bookkeeping.specs.Runs.{empty_book, no_call}
use Rattle.bookkeeping.proofs.Steps.{book_slots}
use Rattle.bookkeeping.proofs.Theorems.{stays_a_book}
use Rattle.strip_lines.specs.Lines.{row_text}
use Rattle.book_rows.specs.Rows.{rows_text}
use Rattle.row_reading.specs.Rows.{StandsAt}
use Rattle.row_reading.proofs.Unique.{stands_within}
use Rattle.book_text.specs.Texts.{head_text, end_text, book_text, with_strip, Sound}
use Rattle.book_text.specs.Readings.{Follows, Lines, first, one_more}
use Rattle.book_text.proofs.Slots.{empty_at, FreeAreZero, stay_zero, put_elsewhere}

-- ---- the rows of slots

no_rows : (ss : List Slot) (m : ℕ) → ((j : ℕ) → in_use (get_or ss j free_slot) ≡ false) → rows_text m ss ≡ []
unfolding rows_text
no_rows [] m f = refl
no_rows (s ∷ ss) m f = let u : in_use s ≡ false = f 0 in rw u (no_rows ss (suc m) (λ (j : ℕ). f (suc j)))

-- a strip behind all others has the last row
rows_entered : (ss : List Slot) (m k : ℕ) (w : Window) → k < length ss → ((j : ℕ) → k ≤ j → in_use (get_or ss j free_slot) ≡ false)
    → rows_text m (set ss k (slot_of 1 w)) ≡ rows_text m ss ++ row_text (m + k) w
unfolding rows_text
rows_entered [] m k w h f = absurd (omega arith)
rows_entered (s ∷ ss) m zero w h f =
    let none = no_rows ss (suc m) (λ (j : ℕ). f (suc j) (omega arith)) in
    let none' = no_rows (s ∷ ss) m (λ (j : ℕ). f j (omega arith)) in
    ap (λ (x : List ℕ). row_text m w ++ x) none
    ∙ append-nil (row_text m w)
    ∙ ap (λ (n : ℕ). row_text n w) (sym (add-zero m))
    ∙ ap (λ (x : List ℕ). x ++ row_text (m + 0) w) (sym none')
rows_entered (s ∷ ss) m (suc k) w h f = go (in_use s) (rows_entered ss (suc m) k w (omega arith) (λ (j : ℕ) l. f (suc j) (omega arith)))
  where
    next : suc m + k ≡ m + suc k
    next = omega arith

    go : (b : Bool) → rows_text (suc m) (set ss k (slot_of 1 w)) ≡ rows_text (suc m) ss ++ row_text (suc m + k) w
        → let behind = rows_text (suc m) (set ss k (slot_of 1 w)) in
        (when b then row_text m s.strip ++ behind else behind)
        ≡ (when b then row_text m s.strip ++ rows_text (suc m) ss else rows_text (suc m) ss) ++ row_text (m + suc k) w
    go true e =
        ap (λ (x : List ℕ). row_text m s.strip ++ x) e
        ∙ sym (append_assoc (row_text m s.strip) (rows_text (suc m) ss) (row_text (suc m + k) w))
        ∙ ap (λ (n : ℕ). (row_text m s.strip ++ rows_text (suc m) ss) ++ row_text n w) next
    go false e = e ∙ ap (λ (n : ℕ). rows_text (suc m) ss ++ row_text n w) next

-- ---- the table so far

pub record Written (t : List ℕ) (i next : ℕ) (zs : List ℤ) : Type 0 where
  pub begun : 1 ≤ i
  pub within : i ≤ length t
  pub text : take i t ≡ head_text ++ rows_text 0 (slots_of zs)
  pub sound : Sound zs
  pub rest : (j : ℕ) → next ≤ j → slot_at zs j ≡ free_slot

-- the first line, and the empty book
pub empty_sound : Sound empty_book
empty_sound = record { book = stays_a_book [] empty_book no_call; free = λ j u. empty_at j }

at_first : {t : List ℕ} → StandsAt t 0 head_text → Written t (length head_text) 0 empty_book
at_first {t} s =
    let none = no_rows (slots_of empty_book) 0 (λ (j : ℕ). ap in_use (empty_at j)) in
    record {
      begun = omega arith;
      within = omega (arith, stands_within t head_text 0 s);
      text = s ∙ sym (append-nil head_text) ∙ ap (λ (x : List ℕ). head_text ++ x) (sym none);
      sound = empty_sound;
      rest = λ j h. empty_at j;
    }

-- one more line, and the table with its strip
module _ {t : List ℕ} {i next k : ℕ} {zs : List ℤ} {w : Window} (r : Written t i next zs) (f : Follows t i next zs k w) where
  free_now : FreeAreZero (with_strip zs k w)
  free_now = stay_zero (with_strip zs k w) zs k (slot_of 1 w) (slots_put (slot_of 1 w) zs k) (λ u. absurd (tt_ff u)) r.sound.free

  text_now : take (i + length (row_text k w)) t ≡ head_text ++ rows_text 0 (slots_of (with_strip zs k w))
  text_now =
      let rows = rows_text 0 (slots_of zs) in
      let among : k < length (slots_of zs) = omega (arith, book_slots zs r.sound.book, f.line.slot) in
      let entered = rows_entered (slots_of zs) 0 k w among (λ (j : ℕ) h. ap in_use (r.rest j (omega (arith, f.later)))) in
      take-add i (length (row_text k w)) t
      ∙ ap₂ (λ (x y : List ℕ). x ++ y) r.text f.line.line
      ∙ append_assoc head_text rows (row_text k w)
      ∙ ap (λ (n : ℕ). head_text ++ (rows ++ row_text n w)) (sym (zero-add k))
      ∙ ap (λ (x : List ℕ). head_text ++ x) (sym entered)
      ∙ ap (λ (ss : List Slot). head_text ++ rows_text 0 ss) (sym (slots_put (slot_of 1 w) zs k))

  at_next : Written t (i + length (row_text k w)) (k + 1) (with_strip zs k w)
  at_next = record {
    begun = omega (arith, r.begun);
    within = omega (arith, stands_within t (row_text k w) i f.line.line, r.within);
    text = text_now;
    sound = record { book = f.book; free = free_now };
    rest = λ j h. put_elsewhere zs k w j (λ (e : j ≡ k). omega arith) ∙ r.rest j (omega (arith, f.later));
  }

pub written : {t : List ℕ} {n i next : ℕ} {zs : List ℤ} → Lines t n i next zs → Written t i next zs
written (first s) = at_first s
written (one_more l f) = at_next (written l) f

-- ---- the whole text

pub whole_text : {t : List ℕ} {n i next : ℕ} {zs : List ℤ} → Lines t n i next zs → drop i t ≡ end_text → t ≡ book_text zs
unfolding book_text
whole_text {t} {i = i} l e = sym (take-append-drop i t) ∙ ap₂ (λ (x y : List ℕ). x ++ y) (written l).text e
