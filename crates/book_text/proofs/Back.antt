-- The text of a sound book is read slot by slot: once the rows of the slots before j are read, the table has these slots of the book, and is free
-- from j on; it is a book since its strips are some of the book's. After the last slot it has all slots of the book, and so it is the book.
use mathlib.Core.Path.{◌≡◌, refl, sym, ap, ◌∙◌, subst}
use mathlib.Core.Bool.{Bool, true, false}
use mathlib.Core.List.{List, [], ◌++◌, append_assoc}
use mathlib.Core.Logic.{◌⊎◌, inl, inr, ⊎_elim}
use Prim.Native.Nat.{ℕ, zero, suc, ◌+◌, ◌<◌, ◌≤◌}
use native.Mathlib.Nat.{eq-or-lt_of_le}
use native.Mathlib.Numerals.{add-one}
use native.Mathlib.Omega.{arith}
use borrow.Author.Tests.{ltb-true, ltb-false}
use lib.Dec.{ltb}
use lib.IntN.{ℤ}
use lib.ListN.{length, take, drop}
use lib.Seq.{take_all, drop-drop, ext_get_or, take-append_seam, drop-append_seam, slice_empty}
use Rattle.whole.proofs.Comparisons.{ff_tt}
use Rattle.grid.specs.declared.Window.{Window}
use Rattle.slots.specs.Slots.{Slot, slots_of, slot_at, free_slot, in_use, good_mark, is_book}
use Rattle.slots.proofs.Places.{slot_at_lem}
use Rattle.strip_book.proofs.Refusing.{book_long}
use Rattle.bookkeeping.specs.Runs.{empty_book}
use Rattle.bookkeeping.proofs.Good.{Good, slots_good_lem}
use Rattle.bookkeeping.proofs.Steps.{book_good, book_slots}
use Rattle.strip_lines.specs.Lines.{row_text}
use Rattle.book_rows.specs.Rows.{rows_text}
use Rattle.book_rows.proofs.Rows.{rows_on, row_used, row_free}
use Rattle.std.specs.Prelude.{Ok}
use Rattle.book_text.specs.Texts.{head_text, end_text, book_text, with_strip, Sound}
use Rattle.book_text.specs.Readings.{Follows, Lines, first, one_more, ReadsAs, book}
use Rattle.book_text.proofs.Lines.{with_long}
use Rattle.book_text.proofs.Slots.{empty_at, used_is, put_here, put_elsewhere, told_by_slots}
use Rattle.book_text.proofs.Written.{written}

-- ---- a table whose slots are some of a book's, the others free

module _ (zs : List ℤ) (b : is_book zs ≡ true) (ys : List ℤ) (long : length ys ≡ 320)
    (part : (m : ℕ) → (slot_at ys m ≡ slot_at zs m) ⊎ (slot_at ys m ≡ free_slot)) where
  good_mark_lem : (m : ℕ) → good_mark (slot_at ys m) ≡ true
  good_mark_lem m = ⊎_elim (λ e. ap good_mark e ∙ (book_good zs b).marks m) (λ e. ap good_mark e) (part m)

  used_in_book : (m : ℕ) → in_use (slot_at ys m) ≡ true → slot_at ys m ≡ slot_at zs m
  used_in_book m u = ⊎_elim (λ e. e) (λ e. absurd (ff_tt (sym (ap in_use e) ∙ u))) (part m)

  good_part : Good (slots_of ys)
  good_part = record {
    marks = good_mark_lem;
    strips = λ m u. let e = used_in_book m u in rw e ((book_good zs b).strips m (rw e at u));
    areas = λ l m h u v.
        let e = used_in_book l u in
        let f = used_in_book m v in
        rw (e, f) ((book_good zs b).areas l m h (rw e at u) (rw f at v));
  }

  part_book : is_book ys ≡ true
  unfolding is_book
  part_book = rw (long, slots_good_lem (slots_of ys) good_part)

-- ---- the text of a sound book

module _ (zs : List ℤ) (s : Sound zs) where
  abbrev t : List ℕ
  t = book_text zs

  long : length zs ≡ 320
  long = book_long zs s.book

  -- the rows of the slots from j on
  abbrev rows_from : ℕ → List ℕ
  rows_from = rows_on zs 64

  over_row : (j : ℕ) → j < 64 → in_use (slot_at zs j) ≡ false → rows_from j ≡ rows_from (suc j)
  over_row j h u = rw add-one at (row_free zs 64 j h (omega arith) long u)

  own_row : (j : ℕ) → j < 64 → in_use (slot_at zs j) ≡ true → rows_from j ≡ row_text j (slot_at zs j).strip ++ rows_from (suc j)
  own_row j h u =
      let strip = ap (λ (x : Slot). x.strip) (slot_at_lem j zs free_slot (omega (arith, long))) in
      rw add-one at (row_used zs 64 j h (omega arith) long u strip)

  -- the slots before j are read
  record ReadTo (j : ℕ) : Type 0 where
    line : ℕ
    place : ℕ
    next : ℕ
    table : List ℤ
    lines : Lines t line place next table
    early : next ≤ j
    before : (m : ℕ) → m < j → slot_at table m ≡ slot_at zs m
    behind : (m : ℕ) → j ≤ m → slot_at table m ≡ free_slot
    rest : drop place t ≡ rows_from j ++ end_text

  none_read : ReadTo 0
  unfolding book_text
  none_read =
      let all : slots_of zs ≡ take 64 (slots_of zs) = sym (take_all 64 (slots_of zs) (omega (arith, book_slots zs s.book))) in
      let whole : t ≡ head_text ++ (rows_from 0 ++ end_text) =
      ap (λ (ss : List Slot). (head_text ++ rows_text 0 ss) ++ end_text) all ∙ append_assoc head_text (rows_from 0) end_text in
      record {
        line = 2;
        place = length head_text;
        next = 0;
        table = empty_book;
        lines = first (ap (take (length head_text)) whole ∙ take-append_seam head_text (rows_from 0 ++ end_text));
        early = omega arith;
        before = λ m h. absurd (omega arith);
        behind = λ m h. empty_at m;
        rest = ap (drop (length head_text)) whole ∙ drop-append_seam head_text (rows_from 0 ++ end_text);
      }

  module _ (j : ℕ) (h : j < 64) (r : ReadTo j) where
    -- the slot j is free
    over_free : in_use (slot_at zs j) ≡ false → ReadTo (suc j)
    over_free u = record {
      line = r.line;
      place = r.place;
      next = r.next;
      table = r.table;
      lines = r.lines;
      early = omega (arith, r.early);
      before = λ m l. ⊎_elim (at_j m) (r.before m) (eq-or-lt_of_le (omega arith));
      behind = λ m l. r.behind m (omega arith);
      rest = r.rest ∙ ap (λ (x : List ℕ). x ++ end_text) (over_row j h u);
    }
      where
        at_j : (m : ℕ) → m ≡ j → slot_at r.table m ≡ slot_at zs m
        at_j m e = r.behind m (omega arith) ∙ sym (s.free j u) ∙ ap (slot_at zs) (sym e)

    -- it is in use
    module _ (u : in_use (slot_at zs j) ≡ true) where
      abbrev w : Window
      w = (slot_at zs j).strip

      abbrev row : List ℕ
      row = row_text j w

      abbrev table' : List ℤ
      table' = with_strip r.table j w

      long' : length r.table ≡ 320
      long' = book_long r.table (written r.lines).sound.book

      here : slot_at table' j ≡ slot_at zs j
      here = put_here r.table j w long' h ∙ used_is (slot_at zs j) u

      elsewhere : (m : ℕ) → (m ≡ j → ⊥) → slot_at table' m ≡ slot_at r.table m
      elsewhere m n = put_elsewhere r.table j w m n

      before' : (m : ℕ) → m < suc j → slot_at table' m ≡ slot_at zs m
      before' m l =
          ⊎_elim
          (λ (e : m ≡ j). ap (slot_at table') e ∙ here ∙ ap (slot_at zs) (sym e))
          (λ (b : m < j). elsewhere m (λ (e : m ≡ j). omega arith) ∙ r.before m b)
          (eq-or-lt_of_le (omega arith))

      behind' : (m : ℕ) → suc j ≤ m → slot_at table' m ≡ free_slot
      behind' m l = elsewhere m (λ (e : m ≡ j). omega arith) ∙ r.behind m (omega arith)

      part : (m : ℕ) → (slot_at table' m ≡ slot_at zs m) ⊎ (slot_at table' m ≡ free_slot)
      part m = go (ltb m (suc j)) refl
        where
          go : (b : Bool) → ltb m (suc j) ≡ b → (slot_at table' m ≡ slot_at zs m) ⊎ (slot_at table' m ≡ free_slot)
          go true e = inl (before' m (ltb-true m (suc j) e))
          go false e = inr (behind' m (ltb-false m (suc j) e))

      -- what is left of the text is the row of the slot, and the rows behind it
      left : drop r.place t ≡ row ++ (rows_from (suc j) ++ end_text)
      left =
          r.rest
          ∙ ap (λ (x : List ℕ). x ++ end_text) (own_row j h u)
          ∙ append_assoc row (rows_from (suc j)) end_text

      follows : Follows t r.place r.next r.table j w
      follows = record {
        line = record {
          slot = h;
          good = (book_good zs s.book).strips j u;
          line = ap (take (length row)) left ∙ take-append_seam row (rows_from (suc j) ++ end_text);
        };
        later = r.early;
        book = part_book zs s.book table' (with_long r.table j w ∙ long') part;
      }

      read_row : ReadTo (suc j)
      read_row = record {
        line = r.line + 1;
        place = r.place + length row;
        next = j + 1;
        table = table';
        lines = one_more r.lines follows;
        early = omega arith;
        before = before';
        behind = behind';
        rest =
            sym (drop-drop (length row) r.place t)
            ∙ ap (drop (length row)) left
            ∙ drop-append_seam row (rows_from (suc j) ++ end_text);
      }

    one_slot : ReadTo (suc j)
    one_slot = go (in_use (slot_at zs j)) refl
      where
        go : (b : Bool) → in_use (slot_at zs j) ≡ b → ReadTo (suc j)
        go true u = read_row u
        go false u = over_free u

  read_to : (j : ℕ) → j ≤ 64 → ReadTo j
  read_to zero h = none_read
  read_to (suc j) h = one_slot j h (read_to j (omega arith))

  -- ---- all slots are read

  table_is : (r : ReadTo 64) → r.table ≡ zs
  table_is r =
      let b = (written r.lines).sound.book in
      let n = book_slots r.table b in
      let n' = book_slots zs s.book in
      told_by_slots r.table zs (book_long r.table b) long
      (ext_get_or free_slot (slots_of r.table) (slots_of zs) (n ∙ sym n') (λ m l. r.before m (omega arith)))

  no_more : rows_from 64 ≡ []
  unfolding rows_text
  no_more = ap (rows_text 64) (slice_empty 64 (slots_of zs))

  pub read_back : ReadsAs (book_text zs) (Ok tt) zs
  read_back =
      let r = read_to 64 (omega arith) in
      subst (ReadsAs t (Ok tt)) (table_is r) (book r.lines (r.rest ∙ ap (λ (x : List ℕ). x ++ end_text) no_more))
