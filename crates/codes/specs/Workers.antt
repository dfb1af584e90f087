-- What the workers behind the Cohen-Sutherland call promise each other.
--   outside_of lo hi a b f under over   two bits of a code, for the coordinate at the fraction f of the way from a to b:
--                       the bit `under` where it is below lo, the bit `over` where it is above hi, none where it is between them
--   marks_of lo hi x under over   the same two bits for a coordinate x that is known itself, without a fraction
--   end_code w x y       the code of the point (x, y), whose coordinates are whole numbers, as those of a stroke's two ends are
--   PartOfWay f g       f and g are fractions of a stroke's way, and f is not the greater: the part of the way from f to g
--   Apart s k           the stroke is not parallel to the line of the side k and has a length, so that it meets the line at one fraction
--   WayMeets c a b f    at the fraction f the way from a to b is at c
--   StrokeMeets w s k f   at the fraction f the stroke is on the line of the side k
--   KindOf n d          the decision of number n, of those in Codes, is d: to keep, missed, or to shorten the start or the end, at whatever side
--   PieceOf w s p       the piece p is a part of the stroke, with the codes of its two points and the sides that fixed them
--   Shortened w s p q   the piece q is what one shortening leaves of p
--   KeptFrom s p n r    r is right, after n shortenings, for any window that keeps of the stroke what the piece p has, with its sides
--   Finished w s r      r is right for a window and a stroke in which nothing is refused
use Rattle.std.specs.Prelude.{◌≡◌, ℕ, ◌<◌, ◌≤◌, ℤ, pos, ◌-ℤ◌, ◌*ℤ◌, ◌≤ℤ◌, ◌<ℤ◌}
use Rattle.std.specs.Int.Bits.{bit_or}
use Rattle.std.specs.Int.Signed.{lt_z}
use Rattle.whole.specs.Choice.{when◌then◌else◌}
use Rattle.whole.specs.Within.{Within}
use Rattle.fraction.specs.declared.Fraction.{Fraction}
use Rattle.fraction.specs.Rounding.{along}
use Rattle.grid.specs.declared.Stroke.{Stroke}
use Rattle.grid.specs.declared.Window.{Window}
use Rattle.grid.specs.Sides.{Side, left, right, bottom, top}
use Rattle.spans.specs.Parts.{zeroth, unit}
use Rattle.spans.specs.Sides.{StartSide, EndSide}
use Rattle.spans.specs.Spans.{SpanOf}
use Rattle.strokes.specs.Sides.{conditions}
use Rattle.strokes.specs.Strokes.{Keeps, Clipped}
use Rattle.strokes.specs.Workers.{OnWay}
use Rattle.codes.specs.Codes.{code, keep, missed}
use Rattle.codes.specs.Steps.{OnLine, Shortening, Run}
use Rattle.codes.specs.declared.CountedAnswer.{CountedAnswer}
use Rattle.codes.specs.declared.Ruling.{Ruling}
use Rattle.codes.specs.declared.Ruling.TheVariants.{Keep, Missed, Shorten}
use Rattle.codes.specs.declared.Piece.{Piece}
use Rattle.codes.specs.declared.Which.TheVariants.{Start, End}

abbrev pub outside_of : ℤ → ℤ → ℤ → ℤ → Fraction → ℕ → ℕ → ℕ
outside_of lo hi a b f under over =
    bit_or (when lt_z (pos 0) (lo *ℤ f.den -ℤ along a b f.num f.den) then under else 0)
    (when lt_z (pos 0) (along a b f.num f.den -ℤ hi *ℤ f.den) then over else 0)

abbrev pub marks_of : ℤ → ℤ → ℤ → ℕ → ℕ → ℕ
marks_of lo hi x under over = bit_or (when lt_z x lo then under else 0) (when lt_z hi x then over else 0)

abbrev pub end_code : Window → ℤ → ℤ → ℕ
end_code w x y = bit_or (marks_of w.left w.right x 1 2) (marks_of w.bottom w.top y 4 8)

pub record PartOfWay (f g : Fraction) : Type 0 where
  pub start : OnWay f
  pub end : OnWay g
  pub order : (f.num *ℤ g.den) ≤ℤ (g.num *ℤ f.den)

abbrev pub Apart : Stroke → Side → Type 0
Apart s left = s.x1 ≡ s.x2 → ⊥
Apart s right = s.x1 ≡ s.x2 → ⊥
Apart s bottom = s.y1 ≡ s.y2 → ⊥
Apart s top = s.y1 ≡ s.y2 → ⊥

pub record WayMeets (c a b : ℤ) (f : Fraction) : Type 0 where
  pub den : pos 0 <ℤ f.den
  pub at : along a b f.num f.den ≡ c *ℤ f.den
  pub small : Within 32766 f.den

pub record StrokeMeets (w : Window) (s : Stroke) (k : Side) (f : Fraction) : Type 0 where
  pub line : OnLine w s k f
  pub small : Within 32766 f.den

abbrev pub KindOf : ℕ → Ruling → Type 0
KindOf n Keep = n ≡ keep
KindOf n Missed = n ≡ missed
KindOf n (Shorten Start) = (2 ≤ n) × (n < 6)
KindOf n (Shorten End) = 6 ≤ n

pub record PieceOf (w : Window) (s : Stroke) (p : Piece) : Type 0 where
  pub part : PartOfWay p.start.t p.end.t
  pub a : p.start.code ≡ code w s p.start.t
  pub b : p.end.code ≡ code w s p.end.t
  pub start_side : StartSide (conditions w s) p.start.t p.start.side
  pub end_side : EndSide (conditions w s) p.end.t p.end.side

pub record Shortened (w : Window) (s : Stroke) (p q : Piece) : Type 0 where
  pub step : Shortening w s p.start.t p.end.t q.start.t q.end.t
  pub piece : PieceOf w s q

pub record KeptFrom (s : Stroke) (p : Piece) (n : ℕ) (r : CountedAnswer) : Type 0 where
  pub clipped : (w : Window) → SpanOf 32766 (Keeps w s) (record { first = p.start.t; last = p.end.t })
      → StartSide (conditions w s) p.start.t p.start.side → EndSide (conditions w s) p.end.t p.end.side → Clipped w s r.answer
  pub count : r.shortenings ≡ n

pub record Finished (w : Window) (s : Stroke) (r : CountedAnswer) : Type 0 where
  pub clipped : Clipped w s r.answer
  pub run : Run w s zeroth unit r.shortenings
