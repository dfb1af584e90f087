-- A span of fractions, from its first to its last, and what a condition p·t ≤ q leaves of it. Where the first is the greater no fraction lies in it.
--   largest        2 · 32,766²: no number of the Cyrus-Beck rule is above it, as the contracts of `spans` and `corners`
--                  demand and promise; so a product of two fits 64 bits
--   InSpan s n d   n/d lies in the span s
--   ProperSpan s   s lies in 0 to 1, unless it is empty, and its denominators are positive
--   Sized A s      its numbers are not above A
--   SpanCut p q s r   r is what of s has p·t ≤ q, with numbers no larger than those of s, p and q
--   SpanOf A K s   s is proper, its numbers are not above A, and its fractions are those that are kept
--   whole_span      from 0/1 to 1/1, the stroke's own ends
--   SomeLeft s     some fraction lies in s: the first is not above the last
--   StartCut p q k f i g j   the start was f, fixed by the side i, and is g, fixed by the side j: both as before, or the stroke crosses the side k, of p
--                  and q, inward at g, which is later than f, and j is k
--   EndCut p q k f i g j   the same of the end: the stroke crosses the side outward at g, which is sooner than f
--   SidedCut p q k s r   what `cut` promises: r is what of s has p·t ≤ q, and where some is left, of its start and its end StartCut and EndCut hold
--   KeptBy A cs s  s has exactly the fractions that meet all of cs, its numbers are not above A, and where some is left its sides are those that fixed it
use Rattle.std.specs.Prelude.{List, ℕ, ◌≤◌, ℤ, pos, ◌*ℤ◌, ◌≤ℤ◌, ◌<ℤ◌}
use Rattle.whole.specs.Within.{Within}
use Rattle.fraction.specs.declared.Fraction.{Fraction}
use Rattle.spans.specs.Parts.{zeroth, unit}
use Rattle.spans.specs.Sides.{Condition, MeetsAll, Inward, Outward, Fixes, no_side, StartSide, EndSide}
use Rattle.spans.specs.declared.SidedSpan.{SidedSpan}
use Rattle.spans.specs.declared.Span.{Span}

abbrev pub largest : ℕ
largest = 2147221512

pub record InSpan (s : Span) (n d : ℤ) : Type 0 where
  pub from : (s.first.num *ℤ d) ≤ℤ (n *ℤ s.first.den)
  pub upto : (n *ℤ s.last.den) ≤ℤ (s.last.num *ℤ d)

pub record ProperSpan (s : Span) : Type 0 where
  pub low : pos 0 ≤ℤ s.first.num
  pub high : s.last.num ≤ℤ s.last.den
  pub den0 : pos 0 <ℤ s.first.den
  pub den1 : pos 0 <ℤ s.last.den

pub record Sized (A : ℕ) (s : Span) : Type 0 where
  pub n0 : Within A s.first.num
  pub d0 : Within A s.first.den
  pub n1 : Within A s.last.num
  pub d1 : Within A s.last.den

pub record SpanCut (p q : ℤ) (s r : Span) : Type 0 where
  pub proper : ProperSpan r
  pub sized : (A : ℕ) → 1 ≤ A → Within A p → Within A q → Sized A s → Sized A r
  pub stays : (n d : ℤ) → pos 0 <ℤ d → InSpan s n d → (p *ℤ n) ≤ℤ (q *ℤ d) → InSpan r n d
  pub part : (n d : ℤ) → pos 0 <ℤ d → InSpan r n d → InSpan s n d
  pub side : (n d : ℤ) → pos 0 <ℤ d → InSpan r n d → (p *ℤ n) ≤ℤ (q *ℤ d)

pub record SpanOf (A : ℕ) (K : ℤ → ℤ → Type 0) (s : Span) : Type 0 where
  pub proper : ProperSpan s
  pub sized : Sized A s
  pub stays : (n d : ℤ) → K n d → InSpan s n d
  pub keeps : (n d : ℤ) → pos 0 <ℤ d → InSpan s n d → K n d

-- ---- with the sides that fixed its ends
abbrev pub SomeLeft : Span → Type 0
SomeLeft s = (s.first.num *ℤ s.last.den) ≤ℤ (s.last.num *ℤ s.first.den)

abbrev pub whole_span : SidedSpan
whole_span = record { span = record { first = zeroth; last = unit }; side0 = no_side; side1 = no_side }

pub data StartCut (p q : ℤ) (k : ℕ) (f : Fraction) (i : ℕ) : Fraction → ℕ → Type 0 where
  same_start : StartCut p q k f i f i
  later_start : {g : Fraction} → (f.num *ℤ g.den) <ℤ (g.num *ℤ f.den) → Fixes Inward g (record { p = p; q = q }) → StartCut p q k f i g k

pub data EndCut (p q : ℤ) (k : ℕ) (f : Fraction) (i : ℕ) : Fraction → ℕ → Type 0 where
  same_end : EndCut p q k f i f i
  sooner_end : {g : Fraction} → (g.num *ℤ f.den) <ℤ (f.num *ℤ g.den) → Fixes Outward g (record { p = p; q = q }) → EndCut p q k f i g k

pub record SidedCut (p q : ℤ) (k : ℕ) (s r : SidedSpan) : Type 0 where
  pub span : SpanCut p q s.span r.span
  pub start : SomeLeft r.span → StartCut p q k s.span.first s.side0 r.span.first r.side0
  pub end : SomeLeft r.span → EndCut p q k s.span.last s.side1 r.span.last r.side1

pub record KeptBy (A : ℕ) (cs : List Condition) (s : SidedSpan) : Type 0 where
  pub span : SpanOf A (MeetsAll cs) s.span
  pub start : SomeLeft s.span → StartSide cs s.span.first s.side0
  pub end : SomeLeft s.span → EndSide cs s.span.last s.side1
