-- What the workers behind a stroke call promise each other.
--   EndsBetween lo hi a b   both ends of the way from a to b are between lo and hi, and so is all of it
--   MayReach lo hi a b   the two ends are not both below lo, nor, where neither is below lo, both above hi: the way from a to b may come between them
--   EndsInside w s, Reaching w s   EndsBetween, and MayReach, for both coordinates of a stroke and the window's sides
--   LiesAlong lo hi a b p, Lies w s p   a way, or a stroke, lies as p says: plainly Inside, plainly Outside, or Neither
--   Ranged a b c d       four numbers of the table in rising order, the last above the first
--   Risen, Fallen a p q b r   r is the way up, or down, from a to b; from the coordinate p to the coordinate q it is between two sides
--   ProperWay r          a way has a length of 1 to 32,766, and its start and its end are on it in this order
--   WayAt a b r          r is such a way from a to b, and its two coordinates are exact
--   FromStartToEnd r n d   the fraction n/d of the way is from its start to its end
--   MetAt lo hi a b c    coming in between lo and hi, the way from a to b meets a side at c: lo where it rises, hi where it falls
--   WayOf lo hi a b r    r is a way from a to b, and from its start to its end it is between lo and hi, nowhere else;
--                        where it comes in or goes out on the way it meets a side there
--   Apart k x y          one way ends before the other starts (k = 0), or at the latest as it starts (k = 1): the stroke misses, or at most touches.
--                        Places on two ways are compared by cross products
--   Overlap k x y        neither is so: some fraction is on both ways (k = 0), more than one is (k = 1)
--   OnWay f              f is a fraction from 0 to 1, with a denominator no larger than the longest way
--   side_number k        the number of the side k, its place in the list of the four
--   side_met a b i j      the side that the way from a to b meets coming in, by its number: i where it rises, j where it falls
--   StartBy s x y t k    t is the later start of the two ways, and k names the side that is met there, that of x where both are met at once; no_side
--                        where both start with the stroke
--   FinishBy s x y t k   t is the earlier end of the two ways, and k names the side that is met there looking back, that of x where both are met at
--                        once; no_side where both end with the stroke
--   StartOf, FinishOf s x y e   e is the later start, or the earlier end, of the two ways, with the rounded point and its side
--   EndAt s f k e        e is the stroke's point at the fraction f, rounded, fixed by the side of number k
--   kept_answer a b t u   the answer for a stroke that is kept from the point of a to that of b, with their sides and the fractions t and u
--   KeptAnswer a b r     r is such an answer, with the fractions of a and b in lowest terms
--   whole_answer s        the answer for a stroke that is kept whole
use Rattle.std.specs.Prelude.{◌≡◌, true, ◌⊎◌, ℕ, ◌+◌, ◌*◌, ◌<◌, ◌≤◌, ℤ, pos, ◌-ℤ◌, ◌*ℤ◌, ◌≤ℤ◌, ◌<ℤ◌}
use Rattle.std.specs.Int.Signed.{lt_z}
use Rattle.whole.specs.Choice.{when◌then◌else◌}
use Rattle.whole.specs.Within.{Within}
use Rattle.fraction.specs.declared.Fraction.{Fraction}
use Rattle.fraction.specs.Fraction.{LowestOf}
use Rattle.fraction.specs.Rounding.{along}
use Rattle.grid.specs.declared.Stroke.{Stroke}
use Rattle.grid.specs.declared.Window.{Window}
use Rattle.grid.specs.Table.{farthest}
use Rattle.spans.specs.Parts.{Time, zeroth, unit}
use Rattle.spans.specs.Sides.{no_side}
use Rattle.strokes.specs.Strokes.{KeepsCoordinate, Keeps, PointAt}
use Rattle.strokes.specs.declared.End.{End}
use Rattle.strokes.specs.declared.Side.{Side}
use Rattle.strokes.specs.declared.Side.TheVariants.{Left, Right, Bottom, Top}
use Rattle.strokes.specs.declared.StrokeAnswer.{StrokeAnswer}
use Rattle.strokes.specs.declared.plain.Plainly.{Plainly}
use Rattle.strokes.specs.declared.plain.Plainly.TheVariants.{Inside, Outside, Neither}
use Rattle.strokes.specs.declared.ways.Way.{Way}

-- ---- where a stroke plainly lies
pub record EndsBetween (lo hi a b : ℤ) : Type 0 where
  pub a_low : lo ≤ℤ a
  pub a_high : a ≤ℤ hi
  pub b_low : lo ≤ℤ b
  pub b_high : b ≤ℤ hi

pub record MayReach (lo hi a b : ℤ) : Type 0 where
  pub up : a <ℤ lo → lo ≤ℤ b
  pub down : lo ≤ℤ a → lo ≤ℤ b → hi <ℤ a → b ≤ℤ hi

pub record EndsInside (w : Window) (s : Stroke) : Type 0 where
  pub x : EndsBetween w.left w.right s.x1 s.x2
  pub y : EndsBetween w.bottom w.top s.y1 s.y2

pub record Reaching (w : Window) (s : Stroke) : Type 0 where
  pub x : MayReach w.left w.right s.x1 s.x2
  pub y : MayReach w.bottom w.top s.y1 s.y2

abbrev pub LiesAlong : ℤ → ℤ → ℤ → ℤ → Plainly → Type 0
LiesAlong lo hi a b Inside = EndsBetween lo hi a b
LiesAlong lo hi a b Outside = (n d : ℤ) → Time n d → KeepsCoordinate lo hi a b n d → ⊥
LiesAlong lo hi a b Neither = MayReach lo hi a b

abbrev pub Lies : Window → Stroke → Plainly → Type 0
Lies w s Inside = EndsInside w s
Lies w s Outside = (n d : ℤ) → Keeps w s n d → ⊥
Lies w s Neither = Reaching w s

-- ---- the way of one coordinate
pub record Ranged (a b c d : ℤ) : Type 0 where
  pub a_on : Within farthest a
  pub b_on : Within farthest b
  pub c_on : Within farthest c
  pub d_on : Within farthest d
  pub first : a ≤ℤ b
  pub middle : b ≤ℤ c
  pub last : c ≤ℤ d
  pub some : a <ℤ d

pub record Risen (a p q b : ℤ) (r : Way) : Type 0 where
  pub long : pos r.long ≡ b -ℤ a
  pub start : pos r.start ≡ p -ℤ a
  pub end : pos r.end ≡ q -ℤ a
  pub at : r.at ≡ p
  pub to : r.to ≡ q

pub record Fallen (a p q b : ℤ) (r : Way) : Type 0 where
  pub long : pos r.long ≡ a -ℤ b
  pub start : pos r.start ≡ a -ℤ p
  pub end : pos r.end ≡ a -ℤ q
  pub at : r.at ≡ p
  pub to : r.to ≡ q

pub record ProperWay (r : Way) : Type 0 where
  pub long : 0 < r.long
  pub small : r.long ≤ 32766
  pub order : r.start ≤ r.end
  pub high : r.end ≤ r.long

pub record WayAt (a b : ℤ) (r : Way) : Type 0 where
  pub proper : ProperWay r
  pub at : along a b (pos r.start) (pos r.long) ≡ r.at *ℤ pos r.long
  pub to : along a b (pos r.end) (pos r.long) ≡ r.to *ℤ pos r.long

pub record FromStartToEnd (r : Way) (n d : ℤ) : Type 0 where
  pub from : (pos r.start *ℤ d) ≤ℤ (n *ℤ pos r.long)
  pub upto : (n *ℤ pos r.long) ≤ℤ (pos r.end *ℤ d)

pub data MetAt (lo hi a b : ℤ) : ℤ → Type 0 where
  rising : a <ℤ b → MetAt lo hi a b lo
  falling : b <ℤ a → MetAt lo hi a b hi

pub record WayOf (lo hi a b : ℤ) (r : Way) : Type 0 where
  pub way : WayAt a b r
  pub stays : (n d : ℤ) → Time n d → KeepsCoordinate lo hi a b n d → FromStartToEnd r n d
  pub keeps : (n d : ℤ) → Time n d → FromStartToEnd r n d → KeepsCoordinate lo hi a b n d
  pub comes : 0 < r.start → MetAt lo hi a b r.at
  pub goes : r.end < r.long → MetAt lo hi b a r.to

-- ---- both ways
abbrev pub Apart : ℕ → Way → Way → Type 0
Apart k x y = (y.end * x.long < x.start * y.long + k) ⊎ (x.end * y.long < y.start * x.long + k)

pub record Overlap (k : ℕ) (x y : Way) : Type 0 where
  pub x_first : x.start * y.long + k ≤ y.end * x.long
  pub y_first : y.start * x.long + k ≤ x.end * y.long

pub record OnWay (f : Fraction) : Type 0 where
  pub time : Time f.num f.den
  pub small : Within 32766 f.den

abbrev pub side_number : Side → ℕ
side_number Left = 0
side_number Right = 1
side_number Bottom = 2
side_number Top = 3

abbrev pub side_met : ℤ → ℤ → ℕ → ℕ → ℕ
side_met a b i j = when lt_z b a then j else i

pub data StartBy (s : Stroke) (x y : Way) : Fraction → ℕ → Type 0 where
  uncut : x.start ≡ 0 → y.start ≡ 0 → StartBy s x y zeroth no_side
  by_x : 0 < x.start → y.start * x.long ≤ x.start * y.long
      → StartBy s x y (record { num = pos x.start; den = pos x.long }) (side_met s.x1 s.x2 0 1)
  by_y : x.start * y.long < y.start * x.long
      → StartBy s x y (record { num = pos y.start; den = pos y.long }) (side_met s.y1 s.y2 2 3)

pub data FinishBy (s : Stroke) (x y : Way) : Fraction → ℕ → Type 0 where
  uncut : x.end ≡ x.long → y.end ≡ y.long → FinishBy s x y unit no_side
  by_x : x.end < x.long → x.end * y.long ≤ y.end * x.long
      → FinishBy s x y (record { num = pos x.end; den = pos x.long }) (side_met s.x2 s.x1 0 1)
  by_y : y.end * x.long < x.end * y.long
      → FinishBy s x y (record { num = pos y.end; den = pos y.long }) (side_met s.y2 s.y1 2 3)

pub record StartOf (s : Stroke) (x y : Way) (e : End) : Type 0 where
  pub way : OnWay e.t
  pub x_in : (pos x.start *ℤ e.t.den) ≤ℤ (e.t.num *ℤ pos x.long)
  pub y_in : (pos y.start *ℤ e.t.den) ≤ℤ (e.t.num *ℤ pos y.long)
  pub least : (n d : ℤ) → pos 0 <ℤ d → (pos x.start *ℤ d) ≤ℤ (n *ℤ pos x.long) → (pos y.start *ℤ d) ≤ℤ (n *ℤ pos y.long)
      → (e.t.num *ℤ d) ≤ℤ (n *ℤ e.t.den)
  pub point : PointAt s e.t e.x e.y
  pub side : StartBy s x y e.t e.side

pub record FinishOf (s : Stroke) (x y : Way) (e : End) : Type 0 where
  pub way : OnWay e.t
  pub x_out : (e.t.num *ℤ pos x.long) ≤ℤ (pos x.end *ℤ e.t.den)
  pub y_out : (e.t.num *ℤ pos y.long) ≤ℤ (pos y.end *ℤ e.t.den)
  pub greatest : (n d : ℤ) → pos 0 <ℤ d → (n *ℤ pos x.long) ≤ℤ (pos x.end *ℤ d) → (n *ℤ pos y.long) ≤ℤ (pos y.end *ℤ d)
      → (n *ℤ e.t.den) ≤ℤ (e.t.num *ℤ d)
  pub point : PointAt s e.t e.x e.y
  pub side : FinishBy s x y e.t e.side

-- ---- answers
pub record EndAt (s : Stroke) (f : Fraction) (k : ℕ) (e : End) : Type 0 where
  pub t : e.t ≡ f
  pub point : PointAt s f e.x e.y
  pub side : e.side ≡ k

abbrev pub kept_answer : End → End → Fraction → Fraction → StrokeAnswer
kept_answer a b t u = record {
  number = 0;
  place = 0;
  kept = true;
  t0 = t;
  t1 = u;
  ax = a.x;
  ay = a.y;
  bx = b.x;
  by = b.y;
  side0 = a.side;
  side1 = b.side;
}

pub record KeptAnswer (a b : End) (r : StrokeAnswer) : Type 0 where
  pub first : LowestOf a.t.num a.t.den r.t0
  pub last : LowestOf b.t.num b.t.den r.t1
  pub answer : r ≡ kept_answer a b r.t0 r.t1

abbrev pub whole_answer : Stroke → StrokeAnswer
whole_answer s =
    kept_answer (record { t = zeroth; x = s.x1; y = s.y1; side = no_side }) (record { t = unit; x = s.x2; y = s.y2; side = no_side }) zeroth unit
