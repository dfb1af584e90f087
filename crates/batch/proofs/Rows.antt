-- The rows of a list of strokes: there is one list of them, that of the computed answers; a loop that goes by four meets them one after the other.
use mathlib.Core.Path.{◌≡◌, refl, sym, ap, ◌∙◌, subst}
use mathlib.Core.Bool.{Bool, true, false}
use mathlib.Core.List.{List, [], ◌∷◌, ◌++◌, map}
use Rattle.std.specs.Prelude.{Option, Some, None}
use Prim.Native.Nat.{ℕ, suc, ◌+◌, ◌*◌, ◌/◌, ◌≤◌}
use native.Mathlib.Omega.{arith}
use lib.IntN.{ℤ, pos}
use lib.ListN.{length, drop, length-append}
use Rattle.whole.specs.Choice.{when◌then◌else◌}
use Rattle.grid.specs.declared.Stroke.{Stroke}
use Rattle.grid.specs.declared.Window.{Window}
use Rattle.grid.specs.Table.{ends, stroke_at, strokes_of, WindowOnTable, StrokesOnTable, NumbersOnTable}
use Rattle.grid.proofs.Calls.{call_unique}
use Rattle.grid.proofs.StrokeLists.{strokes_more, strokes_none, stroke_of_list}
use Rattle.rings.specs.Lists.{Each}
use Rattle.rings.specs.Lists as lists
use Rattle.strokes.specs.Strokes.{Clipped}
use Rattle.strokes.specs.declared.StrokeAnswer.{StrokeAnswer}
use Rattle.strokes.proofs.Computed.{clipped_of, clipped_of_is}
use Rattle.strokes.proofs.Unique.{clipped_unique}
use Rattle.cuts.specs.Cuts.{is_given, part_kept, CutIs, SaysGiven}
use Rattle.batch.specs.Batches.{five_of, row, rows, RowsGiven, batch_refusal}
use Rattle.batch.specs.Laws.{OneBatch, OneBatchWithTouches}

-- ---- one list of rows
each_unique : {w : Window} {ss : List Stroke} {xs ys : List StrokeAnswer} → Each (Clipped w) ss xs → Each (Clipped w) ss ys → xs ≡ ys
each_unique lists.none lists.none = refl
each_unique (lists.◌and◌ p ps) (lists.◌and◌ q qs) = λ i. clipped_unique p q i ∷ each_unique ps qs i

pub rows_unique : {touches : Bool} {w : Window} {zs xs ys : List ℤ} → RowsGiven touches w zs xs → RowsGiven touches w zs ys → xs ≡ ys
rows_unique {touches} p q = p.are ∙ ap (rows touches 0) (each_unique p.clipped q.clipped) ∙ sym q.are

pub one_batch : OneBatch
one_batch w zs a b before after after' p q = call_unique (batch_refusal w zs) (λ xs ys. rows_unique) p q

pub one_batch_with_touches : OneBatchWithTouches
one_batch_with_touches w zs a b before after after' p q = call_unique (batch_refusal w zs) (λ xs ys. rows_unique) p q

-- ---- the rows of the computed answers
module _ {w : Window} (on : WindowOnTable w) where
  each_clipped : (zs : List ℤ) → NumbersOnTable zs → Each (Clipped w) (strokes_of zs) (map (clipped_of w) (strokes_of zs))
  unfolding strokes_of
  each_clipped [] h = lists.none
  each_clipped (a ∷ []) h = lists.none
  each_clipped (a ∷ b ∷ []) h = lists.none
  each_clipped (a ∷ b ∷ c ∷ []) h = lists.none
  each_clipped (a ∷ b ∷ c ∷ d ∷ zs) h =
      lists.◌and◌ (clipped_of_is on (record { x1 = h 0 (omega arith); y1 = h 1 (omega arith); x2 = h 2 (omega arith); y2 = h 3 (omega arith) }))
      (each_clipped zs (λ k l. h (suc (suc (suc (suc k)))) (omega arith)))

-- the row of stroke k, of which a part is given or nothing
abbrev pub cut_row : ℕ → Option Stroke → List ℤ
cut_row k None = []
cut_row k (Some part) = pos k ∷ ends part

module _ (touches : Bool) where
  -- the computed rows of the strokes from the place p on
  abbrev pub rows_from : Window → List ℤ → ℕ → List ℤ
  rows_from w zs p = rows touches (p / 4) (map (clipped_of w) (strokes_of (drop p zs)))

  pub computed_rows : {w : Window} {zs : List ℤ} → WindowOnTable w → StrokesOnTable zs → RowsGiven touches w zs (rows_from w zs 0)
  computed_rows {w} {zs} on t = record { answers = map (clipped_of w) (strokes_of zs); clipped = each_clipped on zs t.on; are = refl }

  module _ (w : Window) (zs : List ℤ) (p : ℕ) where
    pub rows_more : p + 4 ≤ length zs → rows_from w zs p ≡ row touches (p / 4) (clipped_of w (stroke_at zs p)) ++ rows_from w zs (p + 4)
    unfolding rows
    rows_more h = let next : (p + 4) / 4 ≡ suc (p / 4) = omega arith in rw (strokes_more zs p h, next)

    pub rows_none : length zs ≤ p → rows_from w zs p ≡ []
    unfolding rows
    rows_none h = rw (strokes_none zs p h)

  -- ---- the row of stroke k, by what is given of it
  pub row_cut : {w : Window} {s : Stroke} {c : Option Stroke} {a : StrokeAnswer} (k : ℕ) → CutIs touches w s c → Clipped w s a
      → row touches k a ≡ cut_row k c
  row_cut {w} {s} {c} {a} k cut r = five (is_given touches a) ∙ ap (cut_row k) (sym (cut a r))
    where
      five : (b : Bool) → (when b then five_of k a else []) ≡ cut_row k (when b then Some (part_kept a) else None)
      five true = refl
      five false = refl

  -- ---- what is to be written from the place p on
  module _ {w : Window} {zs : List ℤ} {s : Stroke} (p : ℕ) (on : WindowOnTable w) (t : StrokesOnTable zs) (h : p + 4 ≤ length zs)
      (e : s ≡ stroke_at zs p) where
    abbrev answer : StrokeAnswer
    answer = clipped_of w (stroke_at zs p)

    pub clipped : Clipped w s answer
    clipped = subst (λ (s : Stroke). Clipped w s answer) (sym e) (clipped_of_is on (stroke_of_list p t h))

    -- how many numbers that are, by whether it is given
    pub rows_length : {b : Bool} → SaysGiven touches w s b → length (rows_from w zs p) ≡ (when b then 5 else 0) + length (rows_from w zs (p + 4))
    rows_length g =
        ap length (rows_more w zs p h) ∙ length-append (row touches (p / 4) answer) (rows_from w zs (p + 4))
        ∙ ap (λ (n : ℕ). n + length (rows_from w zs (p + 4)))
        (row_length (is_given touches answer) ∙ ap (λ (b : Bool). when b then 5 else 0) (sym (g answer clipped)))
      where
        row_length : (b : Bool)
            → length (when b then five_of (p / 4) answer else []) ≡ (when b then 5 else 0)
        row_length true = refl
        row_length false = refl

  -- ---- five numbers a stroke at the most
  row_short : (k : ℕ) (a : StrokeAnswer) → length (row touches k a) ≤ 5
  row_short k a = go (is_given touches a)
    where
      go : (b : Bool) → length (when b then five_of k a else []) ≤ 5
      go true = omega arith
      go false = omega arith

  rows_short : (k : ℕ) (answers : List StrokeAnswer) → length (rows touches k answers) ≤ 5 * length answers
  unfolding rows
  rows_short k [] = omega arith
  rows_short k (a ∷ answers) = omega (arith, length-append (row touches k a) (rows touches (suc k) answers), row_short k a, rows_short (suc k) answers)

strokes_short : (zs : List ℤ) → 4 * length (strokes_of zs) ≤ length zs
unfolding strokes_of
strokes_short [] = omega arith
strokes_short (a ∷ []) = omega arith
strokes_short (a ∷ b ∷ []) = omega arith
strokes_short (a ∷ b ∷ c ∷ []) = omega arith
strokes_short (a ∷ b ∷ c ∷ d ∷ zs) = omega (arith, strokes_short zs)

pub rows_of_short : {touches : Bool} {w : Window} {zs xs : List ℤ} → RowsGiven touches w zs xs → length xs ≤ length zs / 4 * 5
rows_of_short {touches} {w} {zs} {xs} p =
    omega (arith, ap length p.are, rows_short touches 0 p.answers, strokes_short zs, each_length p.clipped)
  where
    each_length : {ss : List Stroke} {ys : List StrokeAnswer} → Each (Clipped w) ss ys → length ys ≡ length ss
    each_length lists.none = refl
    each_length (lists.◌and◌ p ps) = ap suc (each_length ps)
