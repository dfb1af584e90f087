-- Laws of the batch, over every window and every list; proved in proofs/Rows.antt and proofs/Laws.antt. Row j of a call is the five numbers from 5·j
-- on of those that it gave; rows are counted from 0.
--   OneBatch, OneBatchWithTouches   for one window, list and output two results are equal: the answer, and the output after it
--   numbers_given a after   the numbers that a call gave, by its answer and its output after it: those that it counts, from the front on
--   RowIs xs j k a     row j of xs is that of stroke k, which has the answer a: its index and its two points
--   HasRow xs k a      some row of xs is that of stroke k, which has the answer a
--   RowExactly P xs k a   where P holds, stroke k, which has the answer a, has its row in xs; a row of xs has its index only where P holds
--   KeptHaveRows       by `batch_with_touches` a stroke has a row exactly when its single answer is kept
--   TouchesHaveNone    by `batch` a stroke has a row exactly when its single answer is kept and t0 is not t1
--   MeantDots          so a stroke of no length inside, or on the border, has a row by `batch` too
--   RowOfAStroke w zs xs j   row j of xs is that of a stroke of the list zs, by its single answer
--   RowsInOrder        the indices of the rows rise, so that no stroke has two, and each row is that of a stroke of the list
--   RowInside w xs j   the two points of row j of xs lie in the closed window
--   RowsStayInside     the rounded points in the rows that a call gave never leave the window
--   OnlyTouches w s    the single answer of the stroke s is kept, and t0 is t1
--   RowsBut T xs ys    ys are the rows of xs in their order, without those, and only those, of whose index T holds
--   TouchesLeftOut     the rows that `batch` gives are those that `batch_with_touches` gives, without those of strokes that only touch
--   NeedIsGiven        a call is refused by 8 exactly where its output is shorter than what the same call gives where it has room, and 8 says how
--                      much that is
use Rattle.std.specs.Prelude.{◌≡◌, Bool, true, List, [], ◌∷◌, ◌↔◌, ℕ, ◌+◌, ◌*◌, ◌<◌, ◌≤◌, ℤ, pos, length, get_or, take, ◌<ℤ◌}
use Rattle.grid.specs.declared.Answer.{Answer}
use Rattle.grid.specs.declared.Stroke.{Stroke}
use Rattle.grid.specs.declared.Window.{Window}
use Rattle.grid.specs.Refusals.{no_room}
use Rattle.grid.specs.Table.{stroke_at}
use Rattle.strokes.specs.Laws.{InClosedWindow}
use Rattle.strokes.specs.Strokes.{Clipping}
use Rattle.strokes.specs.declared.StrokeAnswer.{StrokeAnswer}
use Rattle.batch.specs.Batches.{RowsCall, Batch, BatchWithTouches}

abbrev pub OneBatch : Type 0
OneBatch = (w : Window) (zs : List ℤ) (a b : Answer) (before after after' : List ℤ)
    → Batch w zs a before after → Batch w zs b before after' → (a ≡ b) × (after ≡ after')

abbrev pub OneBatchWithTouches : Type 0
OneBatchWithTouches = (w : Window) (zs : List ℤ) (a b : Answer) (before after after' : List ℤ)
    → BatchWithTouches w zs a before after → BatchWithTouches w zs b before after' → (a ≡ b) × (after ≡ after')

-- ---- which strokes have a row
abbrev pub numbers_given : Answer → List ℤ → List ℤ
numbers_given a after = take a.count after

pub record RowIs (xs : List ℤ) (j k : ℕ) (a : StrokeAnswer) : Type 0 where
  pub within : 5 * j + 5 ≤ length xs
  pub index : get_or xs (5 * j) (pos 0) ≡ pos k
  pub start : (get_or xs (5 * j + 1) (pos 0) ≡ a.ax) × (get_or xs (5 * j + 2) (pos 0) ≡ a.ay)
  pub finish : (get_or xs (5 * j + 3) (pos 0) ≡ a.bx) × (get_or xs (5 * j + 4) (pos 0) ≡ a.by)

pub record HasRow (xs : List ℤ) (k : ℕ) (a : StrokeAnswer) : Type 0 where
  pub at : ℕ
  pub is : RowIs xs at k a

pub record RowExactly (P : Type 0) (xs : List ℤ) (k : ℕ) (a : StrokeAnswer) : Type 0 where
  pub has : P → HasRow xs k a
  pub only : (j : ℕ) → 5 * j < length xs → get_or xs (5 * j) (pos 0) ≡ pos k → P

abbrev pub KeptHaveRows : Type 0
KeptHaveRows = (w : Window) (zs : List ℤ) (a : Answer) (before after : List ℤ) → BatchWithTouches w zs a before after → a.number ≡ 0
    → (k : ℕ) → 4 * k < length zs → (s : StrokeAnswer) → Clipping w (stroke_at zs (4 * k)) s
    → RowExactly (s.kept ≡ true) (numbers_given a after) k s

abbrev pub TouchesHaveNone : Type 0
TouchesHaveNone = (w : Window) (zs : List ℤ) (a : Answer) (before after : List ℤ) → Batch w zs a before after → a.number ≡ 0
    → (k : ℕ) → 4 * k < length zs → (s : StrokeAnswer) → Clipping w (stroke_at zs (4 * k)) s
    → RowExactly ((s.kept ≡ true) × (s.t0 ≡ s.t1 → ⊥)) (numbers_given a after) k s

abbrev pub MeantDots : Type 0
MeantDots = (w : Window) (zs : List ℤ) (a : Answer) (before after : List ℤ) → Batch w zs a before after → a.number ≡ 0
    → (k : ℕ) → 4 * k < length zs → let dot = stroke_at zs (4 * k) in dot.x1 ≡ dot.x2 → dot.y1 ≡ dot.y2 → InClosedWindow w dot.x1 dot.y1
    → (s : StrokeAnswer) → Clipping w dot s → HasRow (numbers_given a after) k s

-- ---- in which order they are
pub record RowOfAStroke (w : Window) (zs xs : List ℤ) (j : ℕ) : Type 0 where
  pub stroke : ℕ
  pub listed : 4 * stroke < length zs
  pub answer : StrokeAnswer
  pub right : Clipping w (stroke_at zs (4 * stroke)) answer
  pub is : RowIs xs j stroke answer

abbrev pub RowsInOrder : Type 0
RowsInOrder = (touches : Bool) (w : Window) (zs : List ℤ) (a : Answer) (before after : List ℤ) → RowsCall touches w zs a before after
    → let xs = numbers_given a after in
    ((j : ℕ) → 5 * j < a.count → RowOfAStroke w zs xs j)
    × ((i j : ℕ) → i < j → 5 * j < a.count → get_or xs (5 * i) (pos 0) <ℤ get_or xs (5 * j) (pos 0))

-- ---- where their points are
abbrev pub RowInside : Window → List ℤ → ℕ → Type 0
RowInside w xs j =
    InClosedWindow w (get_or xs (5 * j + 1) (pos 0)) (get_or xs (5 * j + 2) (pos 0))
    × InClosedWindow w (get_or xs (5 * j + 3) (pos 0)) (get_or xs (5 * j + 4) (pos 0))

abbrev pub RowsStayInside : Type 0
RowsStayInside = (touches : Bool) (w : Window) (zs : List ℤ) (a : Answer) (before after : List ℤ) → RowsCall touches w zs a before after
    → (j : ℕ) → 5 * j < a.count → RowInside w (numbers_given a after) j

-- ---- one call and the other
pub record OnlyTouches (w : Window) (s : Stroke) : Type 0 where
  pub answer : StrokeAnswer
  pub right : Clipping w s answer
  pub kept : answer.kept ≡ true
  pub one : answer.t0 ≡ answer.t1

pub data RowsBut (T : ℕ → Type 0) : List ℤ → List ℤ → Type 0 where
  no_more : RowsBut T [] []
  stays : {k : ℕ} {ax ay bx by : ℤ} {xs ys : List ℤ} → (T k → ⊥) → RowsBut T xs ys
      → RowsBut T (pos k ∷ ax ∷ ay ∷ bx ∷ by ∷ xs) (pos k ∷ ax ∷ ay ∷ bx ∷ by ∷ ys)
  left_out : {k : ℕ} {ax ay bx by : ℤ} {xs ys : List ℤ} → T k → RowsBut T xs ys → RowsBut T (pos k ∷ ax ∷ ay ∷ bx ∷ by ∷ xs) ys

abbrev pub TouchesLeftOut : Type 0
TouchesLeftOut = (w : Window) (zs : List ℤ) (a b : Answer) (before after before' after' : List ℤ)
    → Batch w zs a before after → a.number ≡ 0 → BatchWithTouches w zs b before' after' → b.number ≡ 0
    → RowsBut (λ k. OnlyTouches w (stroke_at zs (4 * k))) (numbers_given b after') (numbers_given a after)

-- ---- how much room a call needs
abbrev pub NeedIsGiven : Type 0
NeedIsGiven = (touches : Bool) (w : Window) (zs : List ℤ) (a b : Answer) (before after before' after' : List ℤ)
    → RowsCall touches w zs a before after → RowsCall touches w zs b before' after' → b.number ≡ 0
    → ((a.number ≡ no_room) ↔ (length before < b.count)) × (a.number ≡ no_room → a.place ≡ b.count)
