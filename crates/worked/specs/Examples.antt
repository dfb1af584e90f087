-- The worked examples A to S, and E, M, O, Q and R turned round, in one table. Q and R have a corner window, all others the window 0 0 10 10.
--   table         the examples in their order
--   Example       a stroke, by its two ends, and what both stroke calls answer, the count of shortenings included;
--                 an outline, by its corners, and its verdict; or a corner window, by its corners, a stroke, and what
--                 the Cyrus-Beck call answers
--   Verdict       a ring, by its corners; no area; or refused, by the refusal's number
--   Holds e       the calls' statements hold of this answer and of no other; of an outline's, in every order
--   StrokeHolds, OutlineHolds   what Holds says of a stroke, and of an outline
--   ten           the window of all but Q and R;  zeros n: a list of n zeros
--   from_to p q    the stroke from p to q
--   coordinates ps   the numbers of the points ps;  ring_numbers cs: those of a ring's corners, four a corner
--   expected e    the outline call's answer where e is the verdict, but for the counts of the passes, and its output:
--                 32 numbers, zeros before the call
--   with_passes ns a   the outline call's answer that is a but for the counts, which are ns
--   Answered o zs r   r is such an answer to the outline zs in the order o, with its output. What the passes leave on
--                 the way depends on the order, and is in no example
-- The words of the table:
--   + n, - n      the whole number n, and n below 0
--   n over d      the fraction n/d
--   corner x y    a ring's corner with whole coordinates
--   kept t u p q n k   both stroke calls' answer: kept from t to u, with the rounded points p and q, after n shortenings; k
--                 are the two sides, no_side for an end that is the stroke's own
--   missed_after n    both stroke calls' answer: missed, after n shortenings
--   kept_in t u k     the Cyrus-Beck call's answer: kept from t to u, with the sides k
use Rattle.std.specs.Prelude.{true, List, [], ◌∷◌, ℕ, ◌≤◌, ℤ, pos, neg_ℤ, replicate}
use Rattle.whole.specs.Only.{TheOnly}
use Rattle.codes.specs.declared.CountedAnswer.{CountedAnswer}
use Rattle.codes.specs.Steps.{CohenSutherland}
use Rattle.corners.specs.Corners.{CyrusBeck}
use Rattle.corners.specs.declared.CornerAnswer.{CornerAnswer}
use Rattle.fraction.specs.declared.Fraction.{Fraction}
use Rattle.grid.specs.declared.Answer.{Answer}
use Rattle.grid.specs.declared.Stroke.{Stroke}
use Rattle.grid.specs.declared.Window.{Window}
use Rattle.grid.specs.Calls.{written, refused_by, gives_all}
use Rattle.grid.specs.Refusals.{refuse, none}
use Rattle.outlines.specs.Outlines.{last_order, Outline}
use Rattle.outlines.specs.declared.OutlineAnswer.{OutlineAnswer}
use Rattle.spans.specs.Sides.{no_side}
use Rattle.strokes.specs.Strokes.{Clipping, blank}

pub data Verdict : Type 0 where
  ring : List (Fraction × Fraction) → Verdict
  without_area : Verdict
  refused : ℕ → Verdict

pub data Example : Type 0 where
  stroke : ℤ × ℤ → ℤ × ℤ → CountedAnswer → Example
  outline : List (ℤ × ℤ) → Verdict → Example
  cornered : List (ℤ × ℤ) → ℤ × ℤ → ℤ × ℤ → CornerAnswer → Example

abbrev pub ten : Window
ten = record { left = pos 0; bottom = pos 0; right = pos 10; top = pos 10 }

-- ---- strokes
pub record StrokeHolds (s : Stroke) (r : CountedAnswer) : Type 0 where
  pub liang_barsky : TheOnly (Clipping ten s) r.answer
  pub cohen_sutherland : TheOnly (CohenSutherland ten s) r

-- ---- outlines
abbrev pub zeros : ℕ → List ℤ
zeros n = replicate n (pos 0)

abbrev pub coordinates : List (ℤ × ℤ) → List ℤ
coordinates [] = []
coordinates (p ∷ ps) = p.0 ∷ p.1 ∷ coordinates ps

abbrev pub ring_numbers : List (Fraction × Fraction) → List ℤ
ring_numbers [] = []
ring_numbers (c ∷ cs) = c.0.num ∷ c.0.den ∷ c.1.num ∷ c.1.den ∷ ring_numbers cs

abbrev pub expected : Verdict → Answer × List ℤ
expected (ring cs) = (gives_all (ring_numbers cs), written (ring_numbers cs) (zeros 32))
expected without_area = (gives_all [], zeros 32)
expected (refused n) = (refused_by (refuse n 0), zeros 32)

abbrev pub with_passes : List ℕ → Answer → OutlineAnswer
with_passes ns a = record { number = a.number; place = a.place; count = a.count; passes = ns }

pub record Answered (o : ℕ) (zs : List ℤ) (r : Answer × List ℤ) : Type 0 where
  pub passes : List ℕ
  pub promised : Outline ten o zs (with_passes passes r.0) (zeros 32) r.1

pub record OutlineHolds (zs : List ℤ) (e : Verdict) : Type 0 where
  pub in_order : (o : ℕ) → o ≤ last_order → TheOnly (Answered o zs) (expected e)

-- ---- all
abbrev pub from_to : ℤ × ℤ → ℤ × ℤ → Stroke
from_to p q = record { x1 = p.0; y1 = p.1; x2 = q.0; y2 = q.1 }

abbrev pub Holds : Example → Type 0
Holds (stroke p q r) = StrokeHolds (from_to p q) r
Holds (outline ps e) = OutlineHolds (coordinates ps) e
Holds (cornered ps p q r) = TheOnly (CyrusBeck (coordinates ps) (from_to p q)) r

-- ---- the words of the table
infix 90 +◌
abbrev pub +◌ : ℕ → ℤ
+ n = pos n

infix 90 -◌
abbrev pub -◌ : ℕ → ℤ
- n = neg_ℤ (pos n)

infix 90 ◌over◌
abbrev pub ◌over◌ : ℕ → ℕ → Fraction
n over d = record { num = pos n; den = pos d }

abbrev pub corner : ℕ → ℕ → Fraction × Fraction
corner x y = (x over 1, y over 1)

abbrev pub kept : Fraction → Fraction → ℕ × ℕ → ℕ × ℕ → ℕ → ℕ × ℕ → CountedAnswer
kept t u p q n k = record {
  answer = record {
    number = 0;
    place = 0;
    kept = true;
    t0 = t;
    t1 = u;
    ax = pos p.0;
    ay = pos p.1;
    bx = pos q.0;
    by = pos q.1;
    side0 = k.0;
    side1 = k.1;
  };
  shortenings = n;
}

abbrev pub missed_after : ℕ → CountedAnswer
missed_after n = record { answer = blank none; shortenings = n }

abbrev pub kept_in : Fraction → Fraction → ℕ × ℕ → CornerAnswer
kept_in t u k = record { number = 0; place = 0; kept = true; t0 = t; t1 = u; side0 = k.0; side1 = k.1 }

unfoldable pub table : List Example
table =
    -- A
    stroke (- 5, + 5) (+ 15, + 5) (kept (1 over 4) (3 over 4) (0, 5) (10, 5) 2 (0, 1))
    -- B
    ∷ stroke (- 5, + 5) (+ 5, - 5) (kept (1 over 2) (1 over 2) (0, 0) (0, 0) 2 (0, 2))
    -- C
    ∷ stroke (- 5, + 4) (+ 4, - 5) (missed_after 1)
    -- D
    ∷ stroke (- 1, + 24) (+ 11, - 14) (kept (7 over 19) (12 over 19) (3, 10) (7, 0) 4 (3, 2))
    -- E
    ∷ stroke (- 1, + 0) (+ 1, + 1) (kept (1 over 2) (1 over 1) (0, 0) (1, 1) 1 (0, no_side))
    -- E turned round
    ∷ stroke (+ 1, + 1) (- 1, + 0) (kept (0 over 1) (1 over 2) (1, 1) (0, 0) 1 (no_side, 0))
    -- F
    ∷ stroke (+ 10, + 10) (+ 10, + 10) (kept (0 over 1) (1 over 1) (10, 10) (10, 10) 0 (no_side, no_side))
    -- G
    ∷ stroke (+ 11, + 10) (+ 11, + 10) (missed_after 0)
    -- H
    ∷ outline ((+ 5, - 2) ∷ (+ 12, + 5) ∷ (+ 5, + 12) ∷ (- 2, + 5) ∷ [])
    (ring (corner 3 0 ∷ corner 7 0 ∷ corner 10 3 ∷ corner 10 7
    ∷ corner 7 10 ∷ corner 3 10 ∷ corner 0 7 ∷ corner 0 3 ∷ []))
    -- I
    ∷ outline ((- 1, + 0) ∷ (+ 2, + 1) ∷ (- 1, + 2) ∷ [])
    (ring ((0 over 1, 1 over 3) ∷ corner 2 1 ∷ (0 over 1, 5 over 3) ∷ []))
    -- J
    ∷ outline ((- 5, + 0) ∷ (+ 15, + 0) ∷ (+ 5, + 20) ∷ [])
    (ring (corner 0 0 ∷ corner 10 0 ∷ corner 10 10 ∷ corner 0 10 ∷ []))
    -- K
    ∷ outline ((- 4, + 0) ∷ (+ 0, + 2) ∷ (- 4, + 4) ∷ []) without_area
    -- L
    ∷ outline ((+ 0, + 3) ∷ (- 2, - 3) ∷ (+ 3, + 1) ∷ (- 3, + 1) ∷ (+ 2, - 3) ∷ []) (refused 7)
    -- M
    ∷ stroke (- 1, + 1) (+ 1, + 2) (kept (1 over 2) (1 over 1) (0, 2) (1, 2) 1 (0, no_side))
    -- M turned round
    ∷ stroke (+ 1, + 2) (- 1, + 1) (kept (0 over 1) (1 over 2) (1, 2) (0, 2) 1 (no_side, 0))
    -- N
    ∷ stroke (- 5, - 5) (+ 15, + 15) (kept (1 over 4) (3 over 4) (0, 0) (10, 10) 2 (0, 1))
    -- O
    ∷ stroke (- 5, + 5) (+ 0, + 5) (kept (1 over 1) (1 over 1) (0, 5) (0, 5) 1 (0, no_side))
    -- O turned round
    ∷ stroke (+ 0, + 5) (- 5, + 5) (kept (0 over 1) (0 over 1) (0, 5) (0, 5) 1 (no_side, 0))
    -- P
    ∷ stroke (+ 0, + 5) (+ 5, + 5) (kept (0 over 1) (1 over 1) (0, 5) (5, 5) 0 (no_side, no_side))
    -- Q
    ∷ cornered ((+ 0, + 0) ∷ (+ 10, + 0) ∷ (+ 0, + 10) ∷ []) (- 2, - 2) (+ 2, + 2) (kept_in (1 over 2) (1 over 1) (0, no_side))
    -- Q turned round
    ∷ cornered ((+ 0, + 0) ∷ (+ 10, + 0) ∷ (+ 0, + 10) ∷ []) (+ 2, + 2) (- 2, - 2) (kept_in (0 over 1) (1 over 2) (no_side, 0))
    -- R
    ∷ cornered ((+ 0, + 0) ∷ (+ 10, + 0) ∷ (+ 0, + 10) ∷ []) (- 2, + 3) (+ 12, + 3) (kept_in (1 over 7) (9 over 14) (2, 1))
    -- R turned round
    ∷ cornered ((+ 0, + 0) ∷ (+ 10, + 0) ∷ (+ 0, + 10) ∷ []) (+ 12, + 3) (- 2, + 3) (kept_in (5 over 14) (6 over 7) (1, 2))
    -- S
    ∷ stroke (+ 0, - 5) (+ 0, + 5) (kept (1 over 2) (1 over 1) (0, 0) (0, 5) 1 (2, no_side))
    ∷ []
