-- What the batch promises: for each stroke that is given, in order, its index and its two rounded points. Given are the kept strokes; those that only
-- touch the window, t0 = t1, only where `touches` is true.
--   five_of k a        what is given of stroke k, whose single answer is a: its index and its two rounded points
--   row touches k a   its row: these five numbers, or nothing where it is not given
--   rows touches k answers   the rows of answers counted from k, one after the other
--   RowsGiven touches w zs xs   xs are the rows of the strokes of the list zs, each with the answer of the single call
--   RowsOf w zs xs    the same where touches are not asked for
--   batch_refusal w zs what both calls refuse: 2, 3, 5, then 6
--   RowsCall touches w zs a before after   what a call that gives these rows promises: its answer, and its output before and after
--   Batch w zs a before after              what `batch::batch` promises: strokes that only touch are left out
--   BatchWithTouches w zs a before after   what `batch::batch_with_touches` promises: all kept strokes are given
--   RoomForRow touches w s k n out   from n on there is room for the row of stroke k, which is s, if it has one
--   WroteRow touches w s k n r before after   this row is put from n on, and the next one starts at r
--   WroteRows touches w zs n before after   the rows are written from the front, n numbers in all
--   RefusesRows touches w zs room r   r is what the test of such a call says where its output has `room` numbers: what both calls refuse, then 8
use Rattle.std.specs.Prelude.{◌≡◌, Bool, true, false, List, [], ◌∷◌, ◌++◌, ℕ, suc, ◌+◌, ◌≤◌, ℤ, pos, length, ⊤, Result, Err}
use Rattle.std.proofs.lemmas.List.Edits.{sets}
use Rattle.whole.specs.Choice.{when◌then◌else◌}
use Rattle.grid.specs.declared.Answer.{Answer}
use Rattle.grid.specs.declared.Refusal.{Refusal}
use Rattle.grid.specs.declared.Stroke.{Stroke}
use Rattle.grid.specs.declared.Window.{Window}
use Rattle.grid.specs.Calls.{Call, GaveNumbers}
use Rattle.grid.specs.Refusals.{first, tested, window_refusal, strokes_refusal, room_refusal}
use Rattle.grid.specs.Table.{strokes_of}
use Rattle.rings.specs.Lists.{Each}
use Rattle.strokes.specs.Strokes.{Clipped}
use Rattle.strokes.specs.declared.StrokeAnswer.{StrokeAnswer}
use Rattle.cuts.specs.Cuts.{is_given}

abbrev pub five_of : ℕ → StrokeAnswer → List ℤ
five_of k a = pos k ∷ a.ax ∷ a.ay ∷ a.bx ∷ a.by ∷ []

abbrev pub row : Bool → ℕ → StrokeAnswer → List ℤ
row touches k a = when is_given touches a then five_of k a else []

unfoldable pub rows : Bool → ℕ → List StrokeAnswer → List ℤ
rows touches k [] = []
rows touches k (a ∷ rest) = row touches k a ++ rows touches (suc k) rest

pub record RowsGiven (touches : Bool) (w : Window) (zs xs : List ℤ) : Type 0 where
  pub answers : List StrokeAnswer
  pub clipped : Each (Clipped w) (strokes_of zs) answers
  pub are : xs ≡ rows touches 0 answers

abbrev pub RowsOf : Window → List ℤ → List ℤ → Type 0
RowsOf = RowsGiven false

unfoldable pub batch_refusal : Window → List ℤ → Refusal
batch_refusal w zs = first (window_refusal w ∷ strokes_refusal zs ∷ [])

-- A case of `Call`, which says once what every call does with a lent output; only the list is the batch's own.
abbrev pub RowsCall : Bool → Window → List ℤ → Answer → List ℤ → List ℤ → Type 0
RowsCall touches w zs = Call (batch_refusal w zs) (RowsGiven touches w zs)

abbrev pub Batch : Window → List ℤ → Answer → List ℤ → List ℤ → Type 0
Batch = RowsCall false

abbrev pub BatchWithTouches : Window → List ℤ → Answer → List ℤ → List ℤ → Type 0
BatchWithTouches = RowsCall true

-- ---- what the workers promise
abbrev pub RoomForRow : Bool → Window → Stroke → ℕ → ℕ → List ℤ → Type 0
RoomForRow touches w s k n out = (a : StrokeAnswer) → Clipped w s a → n + length (row touches k a) ≤ length out

abbrev pub WroteRow : Bool → Window → Stroke → ℕ → ℕ → ℕ → List ℤ → List ℤ → Type 0
WroteRow touches w s k n r before after =
    (a : StrokeAnswer) → Clipped w s a → (r ≡ n + length (row touches k a)) × (after ≡ sets before n (row touches k a))

abbrev pub WroteRows : Bool → Window → List ℤ → ℕ → List ℤ → List ℤ → Type 0
WroteRows touches w zs = GaveNumbers (RowsGiven touches w zs)

pub record RefusesRows (touches : Bool) (w : Window) (zs : List ℤ) (room : ℕ) (r : Result ⊤ Refusal) : Type 0 where
  pub refused : ((batch_refusal w zs).number ≡ 0 → ⊥) → r ≡ Err (batch_refusal w zs)
  pub done : (batch_refusal w zs).number ≡ 0 → (xs : List ℤ) → RowsGiven touches w zs xs → r ≡ tested (room_refusal (length xs) room)
