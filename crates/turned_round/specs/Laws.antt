-- Laws of rounding, and of a stroke turned round, drawn from its end to its start: whoever drew the line, halves go to the even grid number, and turned
-- round the stroke has the same two grid points and the same two sides, exchanged. Over every window and every stroke or list of strokes, refused and
-- missed ones too; proved in proofs/Halves.antt, proofs/Strokes.antt, proofs/Corners.antt and proofs/Batches.antt.
--   HalvesToEven        where x/d is n and a half, it is rounded to an even number
--   turn_round s         the stroke s turned round
--   one_minus f          1 − f, with the denominator of f, and so in lowest terms where f is
--   SidesExchanged i j k l   the sides k and l are i and j, exchanged
--   AnswerTurnedRound a b   a answers a stroke, and b the same stroke turned round: refused, missed or kept alike, with the points and the sides
--                       exchanged, and where kept from 1 − t1 to 1 − t0; only a number off the table, 6, may have another place
--   TurnedRound         so answers `strokes::liang_barsky`, and every call that promises `Clipping`
--   TurnedRoundByCodes  so does `codes::cohen_sutherland`; of how often it shortens nothing is said here
--   CornersTurnedRound a b   the same of two answers for a corner window, which have no points
--   TurnedRoundInCorners   so answers `corners::cyrus_beck`
--   swap turn x1 y1 x2 y2   the four numbers, or where `turn` says so the last two before the first two
--   strokes_turned_round which k zs   the strokes of the list zs, four numbers each and counted from k, of which those are turned round that `which`
--                       names; numbers left over at the end stay
--   rows_turned_round which xs   the rows xs of the batch, five numbers each, with the two points exchanged where `which` names the row's stroke
--   BatchTurnedRound which a after b after'   a and b are the answers of one and the same batch call to a list and to the list so turned
--                       round, and after and after' what is then in the output, lent alike: the rows are the same but for the exchanged points, and
--                       behind them nothing differs
--   TurnedRoundInRows   so answer `batch::batch` and `batch::batch_with_touches`, whichever of their strokes are turned round
use Rattle.std.specs.Prelude.{◌≡◌, Bool, true, false, List, [], ◌∷◌, ◌++◌, ℕ, suc, ℤ, pos, nat_abs, ◌+ℤ◌, ◌-ℤ◌, ◌*ℤ◌, drop, ◌<ℤ◌}
use Rattle.whole.specs.Choice.{when◌then◌else◌}
use Rattle.fraction.specs.declared.Fraction.{Fraction}
use Rattle.fraction.specs.Fraction.{Divides}
use Rattle.fraction.specs.Rounding.{Rounded}
use Rattle.grid.specs.declared.Answer.{Answer}
use Rattle.grid.specs.declared.Stroke.{Stroke}
use Rattle.grid.specs.declared.Window.{Window}
use Rattle.grid.specs.Refusals.{number_off}
use Rattle.spans.specs.Parts.{zeroth}
use Rattle.strokes.specs.Strokes.{Clipping}
use Rattle.strokes.specs.declared.StrokeAnswer.{StrokeAnswer}
use Rattle.codes.specs.Steps.{CohenSutherland}
use Rattle.codes.specs.declared.CountedAnswer.{CountedAnswer}
use Rattle.corners.specs.Corners.{CyrusBeck}
use Rattle.corners.specs.declared.CornerAnswer.{CornerAnswer}
use Rattle.batch.specs.Batches.{RowsCall}
use Rattle.batch.specs.Laws.{numbers_given}

abbrev pub HalvesToEven : Type 0
HalvesToEven = (n x d r : ℤ) → pos 0 <ℤ d → pos 2 *ℤ x ≡ (pos 2 *ℤ n +ℤ pos 1) *ℤ d → Rounded x d r → Divides 2 r

-- ---- one stroke
abbrev pub turn_round : Stroke → Stroke
turn_round s = record { x1 = s.x2; y1 = s.y2; x2 = s.x1; y2 = s.y1 }

abbrev pub one_minus : Fraction → Fraction
one_minus f = record { num = f.den -ℤ f.num; den = f.den }

abbrev pub SidesExchanged : ℕ → ℕ → ℕ → ℕ → Type 0
SidesExchanged i j k l = (k ≡ j) × (l ≡ i)

pub record AnswerTurnedRound (a b : StrokeAnswer) : Type 0 where
  pub number : b.number ≡ a.number
  pub place : (a.number ≡ number_off → ⊥) → b.place ≡ a.place
  pub kept : b.kept ≡ a.kept
  pub start : (b.ax ≡ a.bx) × (b.ay ≡ a.by)
  pub finish : (b.bx ≡ a.ax) × (b.by ≡ a.ay)
  pub fractions : a.kept ≡ true → (b.t0 ≡ one_minus a.t1) × (b.t1 ≡ one_minus a.t0)
  pub missed : a.kept ≡ false → (b.t0 ≡ zeroth) × (b.t1 ≡ zeroth)
  pub sides : SidesExchanged a.side0 a.side1 b.side0 b.side1

abbrev pub TurnedRound : Type 0
TurnedRound = (w : Window) (s : Stroke) (a b : StrokeAnswer) → Clipping w s a → Clipping w (turn_round s) b → AnswerTurnedRound a b

abbrev pub TurnedRoundByCodes : Type 0
TurnedRoundByCodes = (w : Window) (s : Stroke) (a b : CountedAnswer) → CohenSutherland w s a → CohenSutherland w (turn_round s) b
    → AnswerTurnedRound a.answer b.answer

pub record CornersTurnedRound (a b : CornerAnswer) : Type 0 where
  pub number : b.number ≡ a.number
  pub place : (a.number ≡ number_off → ⊥) → b.place ≡ a.place
  pub kept : b.kept ≡ a.kept
  pub fractions : a.kept ≡ true → (b.t0 ≡ one_minus a.t1) × (b.t1 ≡ one_minus a.t0)
  pub missed : a.kept ≡ false → (b.t0 ≡ zeroth) × (b.t1 ≡ zeroth)
  pub sides : SidesExchanged a.side0 a.side1 b.side0 b.side1

abbrev pub TurnedRoundInCorners : Type 0
TurnedRoundInCorners = (zs : List ℤ) (s : Stroke) (a b : CornerAnswer) → CyrusBeck zs s a → CyrusBeck zs (turn_round s) b → CornersTurnedRound a b

-- ---- many strokes
abbrev pub swap : Bool → ℤ → ℤ → ℤ → ℤ → List ℤ
swap turn x1 y1 x2 y2 = when turn then x2 ∷ y2 ∷ x1 ∷ y1 ∷ [] else x1 ∷ y1 ∷ x2 ∷ y2 ∷ []

unfoldable pub strokes_turned_round : (ℕ → Bool) → ℕ → List ℤ → List ℤ
strokes_turned_round which k (x1 ∷ y1 ∷ x2 ∷ y2 ∷ zs) = swap (which k) x1 y1 x2 y2 ++ strokes_turned_round which (suc k) zs
strokes_turned_round which k (x1 ∷ y1 ∷ x2 ∷ []) = x1 ∷ y1 ∷ x2 ∷ []
strokes_turned_round which k (x1 ∷ y1 ∷ []) = x1 ∷ y1 ∷ []
strokes_turned_round which k (x1 ∷ []) = x1 ∷ []
strokes_turned_round which k [] = []

unfoldable pub rows_turned_round : (ℕ → Bool) → List ℤ → List ℤ
rows_turned_round which (k ∷ ax ∷ ay ∷ bx ∷ by ∷ xs) = k ∷ swap (which (nat_abs k)) ax ay bx by ++ rows_turned_round which xs
rows_turned_round which (k ∷ ax ∷ ay ∷ bx ∷ []) = k ∷ ax ∷ ay ∷ bx ∷ []
rows_turned_round which (k ∷ ax ∷ ay ∷ []) = k ∷ ax ∷ ay ∷ []
rows_turned_round which (k ∷ ax ∷ []) = k ∷ ax ∷ []
rows_turned_round which (k ∷ []) = k ∷ []
rows_turned_round which [] = []

pub record BatchTurnedRound (which : ℕ → Bool) (a : Answer) (after : List ℤ) (b : Answer) (after' : List ℤ) : Type 0 where
  pub number : b.number ≡ a.number
  pub place : (a.number ≡ number_off → ⊥) → b.place ≡ a.place
  pub count : b.count ≡ a.count
  pub rows : after' ≡ rows_turned_round which (numbers_given a after) ++ drop a.count after

abbrev pub TurnedRoundInRows : Type 0
TurnedRoundInRows = (touches : Bool) (which : ℕ → Bool) (w : Window) (zs : List ℤ) (a b : Answer) (before after after' : List ℤ)
    → RowsCall touches w zs a before after → RowsCall touches w (strokes_turned_round which 0 zs) b before after' → BatchTurnedRound which a after b after'
