-- A line with a table: its first argument counts the table's numbers, and those that are left stand behind it.
-- The call works on the table where it was read to, so that it is said from there.
use mathlib.Core.Path.{◌≡◌, refl, sym, subst, ap, ◌∙◌}
use mathlib.Core.List.{List, [], ◌∷◌, ◌++◌}
use Rattle.std.specs.Prelude.{Option, None, Some}
use Prim.Native.Nat.{ℕ, suc, ◌+◌, ◌-◌, ◌≤◌, ◌<◌}
use native.Mathlib.Omega.{arith}
use lib.IntN.{ℤ, pos}
use lib.ListN.{length, take, drop, get_or, length-append, length-drop}
use lib.Seq.{take-add, take_at, drop-cons, length-take-le}
use Rattle.grid.specs.Table.{sides}
use Rattle.words.specs.Words.{numeral, unsigned}
use Rattle.arguments.specs.Arguments.{behind_first, first_word, first_window, Numbers}
use Rattle.lending.specs.Lent.{most_room, AsksRoom}
use Rattle.lending.proofs.Lists.{no_room, part_length}
use Rattle.replies.specs.Replies.{Fields, said, Says, Tells}
use Rattle.replies.specs.declared.Reply.{Reply}
use Rattle.replies.proofs.Lines.{with_lent}
use Rattle.book_commands.specs.Lines.{most_table, AsksTable, ReadTable, AsksEnter, AsksRelease}

-- ---- the table is read

pub no_count : (text : List ℕ) → unsigned most_room (numeral (first_word text)) ≡ None → (table more : List ℤ) → AsksTable text table more → ⊥
no_count text e table more a = no_room text e (length table) a.count

module _ (text : List ℕ) (m : ℕ) (count : AsksRoom text m) where
  same_count : (table more : List ℤ) → AsksTable text table more → length table ≡ m
  same_count table more a = let e = sym a.count ∙ count in cc

  pub too_long : most_table < m → (table more : List ℤ) → AsksTable text table more → ⊥
  too_long h table more a = omega (arith, same_count table more a, a.few)

  module _ (out : List ℤ) (behind : ℕ) where
    pub no_numbers : Numbers (behind_first text) out None → most_table + behind ≤ length out → (table more : List ℤ) →
        length more ≡ behind → AsksTable text table more → ⊥
    no_numbers read room table more e a = omega (arith, read _ a.numbers, length-append table more, a.few)

    pub other_count : (n : ℕ) → Numbers (behind_first text) out (Some n) → (n ≡ m + behind → ⊥) → (table more : List ℤ) →
        length more ≡ behind → AsksTable text table more → ⊥
    other_count n read ne table more e a =
        let same : table ++ more ≡ take n out = let k = sym a.numbers ∙ read.1 in cc in
        ne (omega (arith, length-take-le n out read.0, length-append table more, ap length same, same_count table more a))

    pub table_read : (n : ℕ) → Numbers (behind_first text) out (Some n) → m ≤ most_table → n ≡ m + behind →
        AsksTable text (take m out) (take behind (drop m out))
    table_read n read h e =
        let long : length (take m out) ≡ m = length-take-le m out (omega (arith, read.0)) in
        record {
          count = rw long count;
          numbers = read.1 ∙ ap Some (ap (λ k. take k out) e ∙ take-add m behind out);
          few = omega arith;
        }

-- the table of the text that was read is that behind the first argument
pub table_behind : (text behind : List ℕ) (out : List ℤ) (r : Option ℕ) → behind ≡ behind_first text → ReadTable 1 behind out r → ReadTable 1 (behind_first text) out r
table_behind text behind out r e h = subst (λ (t : List ℕ). ReadTable 1 t out r) e h

-- ---- what stands behind it

four : (zs : List ℤ) → 4 ≤ length zs → take 4 zs ≡ sides (first_window zs)
four [] h = absurd (omega arith)
four (a ∷ []) h = absurd (omega arith)
four (a ∷ b ∷ []) h = absurd (omega arith)
four (a ∷ b ∷ c ∷ []) h = absurd (omega arith)
four (a ∷ b ∷ c ∷ d ∷ zs) h = refl

first_of : (out : List ℤ) (m : ℕ) → m < length out → drop m out ≡ get_or out m (pos 0) ∷ drop (m + 1) out
first_of out m h =
    let next : suc m ≡ m + 1 = omega arith in
    drop-cons out m (pos 0) h ∙ ap (λ k. get_or out m (pos 0) ∷ drop k out) next

module _ (text : List ℕ) (out : List ℤ) (m : ℕ) where
  pub asks_enter : ReadTable 5 text out (Some m) → m + 5 ≤ length out →
      AsksEnter text (record { table = take m out; renter = get_or out m (pos 0); window = first_window (drop (m + 1) out) })
  asks_enter read room =
      rw (first_of out m (omega arith), four (drop (m + 1) out) (simp length-drop (omega arith))) at read

  pub asks_release : ReadTable 2 text out (Some m) → m + 2 ≤ length out →
      AsksRelease text (record { table = take m out; renter = get_or out m (pos 0); slot = get_or out (m + 1) (pos 0) })
  asks_release read room = rw (first_of out m (omega arith), first_of out (m + 1) (omega arith)) at read

  pub asks_renter : ReadTable 1 text out (Some m) → m + 1 ≤ length out → AsksTable text (take m out) (get_or out m (pos 0) ∷ [])
  asks_renter read room = rw (first_of out m (omega arith)) at read

-- ---- the reply says the table after the call

pub with_table : {A : Type 0} {fields : A → Fields} {k m : ℕ} {r s : Reply} (Call : A → List ℤ → List ℤ → Type 0)
    (out part rest : List ℤ) →
    m ≤ length out → length part ≡ length (take (m - 0) out) → Tells (λ a. Call a (take (m - 0) out) part) fields k r →
    Says s r.count (said r) m →
    Tells (λ a. Call a (take m out) (take (length (take m out)) (part ++ rest))) fields (length (take m out)) s
with_table {m = m} Call out part rest h e t s =
    let all : m - 0 ≡ m = omega arith in
    let long : length (take m out) ≡ m = length-take-le m out h in
    rw (long, take_at part rest m (e ∙ part_length m out h)) (with_lent (λ a c. rw all at c) t s)
