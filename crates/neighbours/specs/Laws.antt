-- Laws of neighbouring strips: two windows with the same bottom and top, where the right of one is the left of the other, and the window that they are
-- together. Over all such windows, every stroke, refused and missed ones too, and every list of strokes; proved in proofs/Windows.antt,
-- proofs/Strokes.antt and proofs/Rows.antt. The part of an answer is all fractions from its t0 to its t1, if it keeps any, `InPart`.
--   Neighbours w v      w and v are such windows, w on the left, and nothing is refused in either
--   joined w v          the window that they are together
--   JoinedNotRefused    nothing is refused in it
--   ThreeAnswers w v s a b c   w and v are neighbours, and the stroke s has the answers a for w, b for v and c for the joined window, by
--                       `strokes::liang_barsky` or any other call that promises `Clipping`
--   ByCodesToo          three answers by `codes::cohen_sutherland` are such answers, so that all that follows holds of them, too; of the count of
--                       shortenings nothing is said
--   RefusedAlike        all three refuse the stroke, with the same number and place, or none of them does
--   KeptByOne           a stroke is kept by the joined window exactly when one of the two, or both, keep it
--   PartsTogether       the parts together are the joined part
--   MeetsOnce a b       the part of a ends at the fraction where that of b starts, they share no other, and their rounded points there are equal
--   ShareOneFraction    if both keep it and dx is not 0, they share exactly one fraction, and the rounded point there is the same for both
--   AlongTheBorder      a stroke along the common border is kept by both, with equal fractions, or by neither: its two answers are equal
--   from_to a b          the answer with the start of a and the end of b: their fractions, points and sides
--   PutTogether s a b c   where one of a and b keeps nothing, c is the other. Where both keep some, they meet once, and c has the start of the one through
--                       whose window the stroke comes first, and the end of the other; or the stroke is upright, and all three are equal
--   JoinedAnswer        so the answer for the joined window is put together from the two
--   RowsJoin w v zs xs ys us   of each stroke of the list zs: us has its row for the joined window exactly when xs has its row for w or ys its row for v
--   RowOfOne            a stroke has a row in the joined batch exactly when it has one in one of the two, or in both: by `batch::batch_with_touches`,
--                       and by `batch::batch` as well
--   ListRefusedAlike    a list is refused for all three windows, with the same number and place, or for none, but that each call asks for its own room
--   RoomForBoth         an output with room for the rows of both has room for those of the joined batch, so that it is done where the two are
use Rattle.std.specs.Prelude.{◌≡◌, Bool, true, false, List, ◌⊎◌, ◌↔◌, ℕ, ◌+◌, ◌*◌, ◌<◌, ◌≤◌, ℤ, pos, ◌*ℤ◌, length, ◌<ℤ◌}
use Rattle.grid.specs.declared.Answer.{Answer}
use Rattle.grid.specs.declared.Stroke.{Stroke}
use Rattle.grid.specs.declared.Window.{Window}
use Rattle.grid.specs.Refusals.{window_refusal}
use Rattle.grid.specs.Table.{stroke_at}
use Rattle.strokes.specs.Laws.{InPart}
use Rattle.strokes.specs.Sides.{dx}
use Rattle.strokes.specs.Strokes.{Clipping}
use Rattle.strokes.specs.declared.StrokeAnswer.{StrokeAnswer}
use Rattle.codes.specs.Steps.{CohenSutherland}
use Rattle.codes.specs.declared.CountedAnswer.{CountedAnswer}
use Rattle.batch.specs.Batches.{RowsCall, batch_refusal}
use Rattle.batch.specs.Laws.{numbers_given, HasRow}

-- ---- two strips
pub record Neighbours (w v : Window) : Type 0 where
  pub left : (window_refusal w).number ≡ 0
  pub right : (window_refusal v).number ≡ 0
  pub bottom : w.bottom ≡ v.bottom
  pub top : w.top ≡ v.top
  pub border : w.right ≡ v.left

abbrev pub joined : Window → Window → Window
joined w v = record { left = w.left; bottom = w.bottom; right = v.right; top = w.top }

abbrev pub JoinedNotRefused : Type 0
JoinedNotRefused = (w v : Window) → Neighbours w v → (window_refusal (joined w v)).number ≡ 0

-- ---- one stroke
pub record ThreeAnswers (w v : Window) (s : Stroke) (a b c : StrokeAnswer) : Type 0 where
  pub neighbours : Neighbours w v
  pub left : Clipping w s a
  pub right : Clipping v s b
  pub together : Clipping (joined w v) s c

abbrev pub ByCodesToo : Type 0
ByCodesToo = (w v : Window) (s : Stroke) (a b c : CountedAnswer) → Neighbours w v
    → CohenSutherland w s a → CohenSutherland v s b → CohenSutherland (joined w v) s c → ThreeAnswers w v s a.answer b.answer c.answer

abbrev pub RefusedAlike : Type 0
RefusedAlike = (w v : Window) (s : Stroke) (a b c : StrokeAnswer) → ThreeAnswers w v s a b c
    → (c.number ≡ a.number) × (c.place ≡ a.place) × (c.number ≡ b.number) × (c.place ≡ b.place)

abbrev pub KeptByOne : Type 0
KeptByOne = (w v : Window) (s : Stroke) (a b c : StrokeAnswer) → ThreeAnswers w v s a b c
    → (c.kept ≡ true) ↔ ((a.kept ≡ true) ⊎ (b.kept ≡ true))

abbrev pub PartsTogether : Type 0
PartsTogether = (w v : Window) (s : Stroke) (a b c : StrokeAnswer) → ThreeAnswers w v s a b c
    → (n d : ℤ) → InPart c n d ↔ (InPart a n d ⊎ InPart b n d)

pub record MeetsOnce (a b : StrokeAnswer) : Type 0 where
  pub fraction : a.t1 ≡ b.t0
  pub shared : InPart a a.t1.num a.t1.den × InPart b a.t1.num a.t1.den
  pub no_other : (n d : ℤ) → InPart a n d → InPart b n d → n *ℤ a.t1.den ≡ a.t1.num *ℤ d
  pub point : (a.bx ≡ b.ax) × (a.by ≡ b.ay)

abbrev pub ShareOneFraction : Type 0
ShareOneFraction = (w v : Window) (s : Stroke) (a b : StrokeAnswer) → Neighbours w v → Clipping w s a → Clipping v s b
    → a.kept ≡ true → b.kept ≡ true → (dx s ≡ pos 0 → ⊥) → MeetsOnce a b ⊎ MeetsOnce b a

abbrev pub AlongTheBorder : Type 0
AlongTheBorder = (w v : Window) (s : Stroke) (a b : StrokeAnswer) → Neighbours w v → Clipping w s a → Clipping v s b
    → s.x1 ≡ w.right → s.x2 ≡ w.right → a ≡ b

abbrev pub from_to : StrokeAnswer → StrokeAnswer → StrokeAnswer
from_to a b = record {
  number = 0;
  place = 0;
  kept = true;
  t0 = a.t0;
  t1 = b.t1;
  ax = a.ax;
  ay = a.ay;
  bx = b.bx;
  by = b.by;
  side0 = a.side0;
  side1 = b.side1;
}

pub record PutTogether (s : Stroke) (a b c : StrokeAnswer) : Type 0 where
  pub left_alone : b.kept ≡ false → c ≡ a
  pub right_alone : a.kept ≡ false → c ≡ b
  pub rightward : a.kept ≡ true → b.kept ≡ true → pos 0 <ℤ dx s → MeetsOnce a b × (c ≡ from_to a b)
  pub leftward : a.kept ≡ true → b.kept ≡ true → dx s <ℤ pos 0 → MeetsOnce b a × (c ≡ from_to b a)
  pub upright : a.kept ≡ true → b.kept ≡ true → dx s ≡ pos 0 → (c ≡ a) × (c ≡ b)

abbrev pub JoinedAnswer : Type 0
JoinedAnswer = (w v : Window) (s : Stroke) (a b c : StrokeAnswer) → ThreeAnswers w v s a b c → PutTogether s a b c

-- ---- many strokes
abbrev pub RowsJoin : Window → Window → List ℤ → List ℤ → List ℤ → List ℤ → Type 0
RowsJoin w v zs xs ys us = (k : ℕ) → 4 * k < length zs → (a b c : StrokeAnswer)
    → ThreeAnswers w v (stroke_at zs (4 * k)) a b c → HasRow us k c ↔ (HasRow xs k a ⊎ HasRow ys k b)

abbrev pub RowOfOne : Type 0
RowOfOne = (touches : Bool) (w v : Window) (zs : List ℤ) (a b c : Answer) (before after before' after' before'' after'' : List ℤ)
    → RowsCall touches w zs a before after → RowsCall touches v zs b before' after' → RowsCall touches (joined w v) zs c before'' after''
    → a.number ≡ 0 → b.number ≡ 0 → c.number ≡ 0
    → RowsJoin w v zs (numbers_given a after) (numbers_given b after') (numbers_given c after'')

abbrev pub ListRefusedAlike : Type 0
ListRefusedAlike = (w v : Window) (zs : List ℤ) → Neighbours w v
    → (batch_refusal (joined w v) zs ≡ batch_refusal w zs) × (batch_refusal (joined w v) zs ≡ batch_refusal v zs)

abbrev pub RoomForBoth : Type 0
RoomForBoth = (touches : Bool) (w v : Window) (zs : List ℤ) (a b c : Answer) (before after before' after' before'' after'' : List ℤ) → Neighbours w v
    → RowsCall touches w zs a before after → RowsCall touches v zs b before' after' → RowsCall touches (joined w v) zs c before'' after''
    → a.number ≡ 0 → b.number ≡ 0 → a.count + b.count ≤ length before'' → c.number ≡ 0
