-- The laws of a book's text: what was read is the text of the table so far, the text of a sound book is read slot by slot, and the lines of a text
-- are told one after another. And a call changes one slot, which is in use then or holds five zeros.
use mathlib.Core.Path.{◌≡◌, refl, sym, ap, subst}
use mathlib.Core.List.{List}
use Prim.Native.Nat.{ℕ, ◌+◌}
use lib.IntN.{ℤ}
use lib.ListN.{drop}
use Rattle.whole.proofs.Comparisons.{tt_ff}
use Rattle.slots.specs.Slots.{slot_of, free_slot}
use Rattle.std.specs.Prelude.{⊤, Result, Ok, Err, is_ok}
use Rattle.whole.proofs.Comparisons.{ff_tt}
use Rattle.bookkeeping.specs.Runs.{Event, booking, release, listing, InBook}
use Rattle.bookkeeping.proofs.Answers.{lent_by}
use Rattle.bookkeeping.proofs.Steps.{slots_booked, slots_released, call_stays}
use Rattle.row_reading.specs.Rows.{StandsAt}
use Rattle.book_text.specs.Texts.{end_text, book_text, Sound}
use Rattle.book_text.specs.Readings.{Lines, ReadsAs, book, no_first, no_line, behind}
use Rattle.book_text.specs.Laws.{OneReading, ReadsBack, WritesBack, OneText, SoundEmpty, StaysSound}
use Rattle.book_text.proofs.Lines.{no_end, stands_last}
use Rattle.book_text.proofs.Slots.{FreeAreZero, stay_zero}
use Rattle.book_text.proofs.Written.{written, whole_text, empty_sound}
use Rattle.book_text.proofs.Back.{read_back}
use Rattle.book_text.proofs.Once.{headed, Last, one_last}

not_a_book : (n : ℕ) {P : Type 0} → ◌≡◌ {A = Result ⊤ ℕ} (Err n) (Ok tt) → P
not_a_book n e = absurd (ff_tt (ap is_ok e))

-- ---- there and back

pub writes_back : WritesBack
writes_back t zs r = go refl r
  where
    go : {a : Result ⊤ ℕ} {ys : List ℤ} → a ≡ Ok tt → ReadsAs t a ys → Sound ys × (t ≡ book_text ys)
    go e (book l f) = ((written l).sound, whole_text l f)
    go e (no_first n) = not_a_book 1 e
    go e (no_line {n = m} l never n) = not_a_book m e
    go e (behind {n = m} l s n) = not_a_book (m + 1) e

pub reads_back : ReadsBack
reads_back zs s = read_back zs s

-- ---- one reading

module _ (t : List ℕ) where
  -- no strip's line follows where the last line stands
  at_end : {n i next : ℕ} {zs : List ℤ} → Lines t n i next zs → StandsAt t i end_text → Last t i next zs
  at_end {i = i} l s k w f = no_end t i f.line s

  ends_there : {n i next : ℕ} {zs : List ℤ} → Lines t n i next zs → drop i t ≡ end_text → Last t i next zs
  ends_there {i = i} l e = at_end l (stands_last t i e)

  -- it stands there or not, and something follows it or not
  stands_or_not : {m n i j p q : ℕ} {ys zs : List ℤ} → Lines t m i p ys → StandsAt t i end_text
      → Lines t n j q zs → Last t j q zs → (StandsAt t j end_text → ⊥) → ⊥
  stands_or_not l s r never n = n (subst (λ (x : ℕ). StandsAt t x end_text) (one_last t l (at_end l s) r never).1.place s)

  over_or_not : {m n i j p q : ℕ} {ys zs : List ℤ} → Lines t m i p ys → drop i t ≡ end_text
      → Lines t n j q zs → StandsAt t j end_text → (drop j t ≡ end_text → ⊥) → ⊥
  over_or_not l e r s n = n (subst (λ (x : ℕ). drop x t ≡ end_text) (one_last t l (ends_there l e) r (at_end r s)).1.place e)

  read_once : {a b : Result ⊤ ℕ} {ys zs : List ℤ} → ReadsAs t a ys → ReadsAs t b zs → (a ≡ b) × (a ≡ Ok tt → ys ≡ zs)
  read_once (book l e) (book r f) = (refl, λ _. (one_last t l (ends_there l e) r (ends_there r f)).1.table)
  read_once (book l e) (no_first n) = absurd (n (headed l))
  read_once (book {i = i} l e) (no_line r never n) = absurd (stands_or_not l (stands_last t i e) r never n)
  read_once (book l e) (behind r s n) = absurd (over_or_not l e r s n)
  read_once (no_first n) (book r f) = absurd (n (headed r))
  read_once (no_first n) (no_first n') = (refl, λ c. not_a_book 1 c)
  read_once (no_first n) (no_line r never n') = absurd (n (headed r))
  read_once (no_first n) (behind r s n') = absurd (n (headed r))
  read_once (no_line l never n) (book {i = j} r f) = absurd (stands_or_not r (stands_last t j f) l never n)
  read_once (no_line l never n) (no_first n') = absurd (n' (headed l))
  read_once (no_line {n = m} l never n) (no_line r never' n') = (ap Err (one_last t l never r never').0, λ c. not_a_book m c)
  read_once (no_line l never n) (behind r s n') = absurd (stands_or_not r s l never n)
  read_once (behind l s n) (book r f) = absurd (over_or_not r f l s n)
  read_once (behind l s n) (no_first n') = absurd (n' (headed l))
  read_once (behind l s n) (no_line r never n') = absurd (stands_or_not l s r never n')
  read_once (behind {n = m} l s n) (behind r s' n') =
      (ap (λ (x : ℕ). Err (x + 1)) (one_last t l (at_end l s) r (at_end r s')).0, λ c. not_a_book (m + 1) c)

pub one_reading : OneReading
one_reading t a b ys zs r q = read_once t r q

pub one_text : OneText
one_text ys zs s r e =
    (one_reading (book_text zs) (Ok tt) (Ok tt) ys zs (subst (λ (t : List ℕ). ReadsAs t (Ok tt) ys) e (reads_back ys s)) (reads_back zs r)).1 refl

-- ---- sound books

pub sound_empty : SoundEmpty
sound_empty = empty_sound

-- a booking leaves its slot in use, a release leaves five zeros, and a listing changes nothing
zeros_stay : (e : Event) (before after : List ℤ) → InBook before e after → FreeAreZero before → FreeAreZero after
zeros_stay (booking renter w a) before after p f =
    lent_by p
    (λ z d. stay_zero after before _ (slot_of 1 w) (slots_booked d) (λ u. absurd (tt_ff u)) f)
    (λ n r. subst FreeAreZero (sym r.untouched) f)
zeros_stay (release renter z a) before after p f =
    lent_by p
    (λ e d. stay_zero after before _ free_slot (slots_released d) (λ u. refl) f)
    (λ n r. subst FreeAreZero (sym r.untouched) f)
zeros_stay (listing renter out a out') before after p f = subst FreeAreZero (sym p.1) f

pub stays_sound : StaysSound
stays_sound before after e s p = record { book = call_stays e before after p s.book; free = zeros_stay e before after p s.free }
