-- What the replies to lb, cs, xp and cb say.
--   with_part fs kept t0 t1   the fields fs and K n0 d0 n1 d1
--   with_sides fs side0 side1   the fields fs and Z0 Z1
--   part_fields a       N P K n0 d0 n1 d1 ax ay bx by
--   stroke_fields a     part_fields and Z0 Z1;  counted_fields a: part_fields and S Z0 Z1;  corner_fields a: N P K n0 d0 n1
--                      d1 Z0 Z1. N is the refusal, P its place, K 1 for kept, S the count of shortenings, Z0 and Z1 the
--                      sides
--   PairArguments      what lb, cs and xp ask of: a window and a stroke;  CornerArguments, cb: the numbers of a window's
--                      corners, and a stroke
--   AsksPair text p    the text is l b r t x1 y1 x2 y2 of these
--   AsksCorners text c the text is M c1 .. cM x1 y1 x2 y2 of these, M at most 64
--   Lb, Cs, Xp, Cb text r   r is the reply to the text after the word. Both lb and xp are stated by `Clipping`: they
--                      differ only in the engine that they call
use Rattle.std.specs.Prelude.{◌≡◌, Bool, List, ◌∷◌, ◌++◌, ℕ, ◌≤◌, ℤ, pos, Option, Some, length}
use Rattle.fraction.specs.declared.Fraction.{Fraction}
use Rattle.grid.specs.Table.{ends}
use Rattle.grid.specs.declared.Stroke.{Stroke}
use Rattle.grid.specs.declared.Window.{Window}
use Rattle.arguments.specs.Arguments.{numbers_in, PairIs}
use Rattle.strokes.specs.Strokes.{Clipping}
use Rattle.strokes.specs.declared.StrokeAnswer.{StrokeAnswer}
use Rattle.codes.specs.Steps.{CohenSutherland}
use Rattle.codes.specs.declared.CountedAnswer.{CountedAnswer}
use Rattle.corners.specs.Corners.{CyrusBeck}
use Rattle.corners.specs.declared.CornerAnswer.{CornerAnswer}
use Rattle.replies.specs.Replies.{Fields, none, ◌and◌, number, plain, flag, Tells, Replies}
use Rattle.replies.specs.declared.Reply.{Reply}

-- ---- the fields

abbrev pub with_part : Fields → Bool → Fraction → Fraction → Fields
with_part fs kept t0 t1 = fs and flag kept and number t0.num and number t0.den and number t1.num and number
    t1.den

abbrev pub with_sides : Fields → ℕ → ℕ → Fields
with_sides fs side0 side1 = fs and plain side0 and plain side1

abbrev pub part_fields : StrokeAnswer → Fields
part_fields a =
    with_part (none and plain a.number and plain a.place) a.kept a.t0 a.t1
    and number a.ax and number a.ay and number a.bx and number a.by

abbrev pub stroke_fields : StrokeAnswer → Fields
stroke_fields a = with_sides (part_fields a) a.side0 a.side1

abbrev pub counted_fields : CountedAnswer → Fields
counted_fields a = let r = a.answer in with_sides (part_fields r and plain a.shortenings) r.side0 r.side1

abbrev pub corner_fields : CornerAnswer → Fields
corner_fields a =
    with_sides (with_part (none and plain a.number and plain a.place) a.kept a.t0 a.t1) a.side0 a.side1

-- ---- the lines

pub record PairArguments : Type 0 where
  pub window : Window
  pub stroke : Stroke

pub record CornerArguments : Type 0 where
  pub corners : List ℤ
  pub stroke : Stroke

abbrev pub AsksPair : List ℕ → PairArguments → Type 0
AsksPair text p = PairIs text p.window p.stroke

pub record AsksCorners (text : List ℕ) (c : CornerArguments) : Type 0 where
  pub numbers : numbers_in text ≡ Some (pos (length c.corners) ∷ c.corners ++ ends c.stroke)
  pub few : length c.corners ≤ 64

abbrev pub Lb : List ℕ → Option Reply → Type 0
Lb text = Replies (AsksPair text) (λ p. Tells (Clipping p.window p.stroke) stroke_fields 0)

abbrev pub Cs : List ℕ → Option Reply → Type 0
Cs text = Replies (AsksPair text) (λ p. Tells (CohenSutherland p.window p.stroke) counted_fields 0)

abbrev pub Xp : List ℕ → Option Reply → Type 0
Xp = Lb

abbrev pub Cb : List ℕ → Option Reply → Type 0
Cb text = Replies (AsksCorners text) (λ c. Tells (CyrusBeck c.corners c.stroke) corner_fields 0)
