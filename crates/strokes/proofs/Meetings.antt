-- The ways of both coordinates: the later start and the earlier end are the ends of the span of the kept fractions,
-- and nothing is kept where one way ends before the other starts.
use mathlib.Core.Path.{◌≡◌, refl}
use mathlib.Core.Logic.{⊎_elim}
use mathlib.Core.List.{[], ◌∷◌}
use Prim.Native.Nat.{ℕ, zero, suc, ◌+◌, ◌*◌, ◌<◌, ◌≤◌}
use native.Mathlib.Nat.{mul-le-mul, le_refl}
use native.Mathlib.Omega.{arith}
use lib.IntN.{ℤ, pos, ◌*ℤ◌}
use lib.Signed.{◌≤ℤ◌, ◌<ℤ◌}
use mir.Syntax.{w32}
use mir.Val.{Fits}
use Rattle.whole.proofs.Certificates.{ge_by, clash, eq, eqn, ◌⊹◌, eq_cancel, po, le, lt, ◌⊞◌, ◌⊠◌}
use Rattle.whole.proofs.Expressions.{var, con, ◌⊕◌, ◌⊖◌, ◌⊗◌, neg, x0, x1, x2, x3}
use Rattle.whole.proofs.Order.{zarith, ≤_total}
use Rattle.whole.proofs.Ranges.{abs_within}
use Rattle.fraction.specs.declared.Fraction.{Fraction}
use Rattle.fraction.specs.Rounding.{Rounded, along}
use Rattle.fraction.proofs.Rounding.{rounded_exact}
use Rattle.grid.specs.declared.Stroke.{Stroke}
use Rattle.grid.specs.declared.Window.{Window}
use Rattle.spans.specs.Parts.{zeroth, unit}
use Rattle.spans.specs.Sides.{no_side}
use Rattle.spans.specs.Spans.{ProperSpan, SpanOf}
use Rattle.spans.proofs.Cutting.{in_time}
use Rattle.spans.proofs.Parts.{time_within}
use Rattle.strokes.specs.declared.End.{End}
use Rattle.strokes.specs.declared.ways.Way.{Way}
use Rattle.strokes.specs.Strokes.{Keeps}
use Rattle.strokes.specs.Workers.{ProperWay, WayAt, FromStartToEnd, WayOf, Apart, Overlap, OnWay, side_met, uncut, by_x, by_y, StartOf, FinishOf}
use Rattle.strokes.proofs.Points.{point_start}

pub positive : {k : ℕ} → 0 < k → pos 0 <ℤ pos k
positive h = omega zarith

-- ---- the numbers of short ways, and their products, which fit 32 bits
pub end_small : {r : Way} → ProperWay r → r.end ≤ 32766
end_small k = omega (arith, k.high, k.small)

pub start_small : {r : Way} → ProperWay r → r.start ≤ 32766
start_small k = omega (arith, k.order, end_small k)

pub product_fits : {m n : ℕ} → m ≤ 32766 → n ≤ 32766 → Fits w32 (m * n)
product_fits h k = record { fits = omega (arith, mul-le-mul h k) }

-- ---- one way ends before the other starts
never_both : {x y : Way} → ProperWay x → ProperWay y → y.end * x.long < x.start * y.long + 0 → (n d : ℤ) → pos 0 <ℤ d → FromStartToEnd x n d
    → FromStartToEnd y n d → ⊥
never_both {x} {y} f g l n d h i j =
    let m : pos (y.end * x.long) <ℤ pos (x.start * y.long) = omega zarith in
    clash ((pos x.start) ∷ (pos x.long) ∷ (pos y.end) ∷ (pos y.long) ∷ n ∷ d ∷ [])
    (po (var 5) h ⊠ lt (x2 ⊗ x1) (x0 ⊗ x3) m ⊞ po x3 (positive g.long) ⊠ le (x0 ⊗ var 5) (var 4 ⊗ x1) i.from ⊞ po x1 (positive f.long)
    ⊠ le (var 4 ⊗ x3) (x2 ⊗ var 5) j.upto) tt

-- ---- of two ways that do not both start at 0 the later start is above 0, and of two that do not both go to their ends the earlier end is before it
pub later_start : (a b k l : ℕ) → (a ≡ 0 → b ≡ 0 → ⊥) → 0 < k → b * k ≤ a * l → 0 < a
later_start zero zero k l n h i = absurd (n refl refl)
later_start zero (suc b) k l n h i = let j : 1 ≤ suc b = omega arith in absurd (omega (arith, mul-le-mul j (le_refl k)))
later_start (suc a) b k l n h i = omega arith

pub earlier_end : (a b k l : ℕ) → (a ≡ k → b ≡ l → ⊥) → a ≤ k → b ≤ l → 0 < k → a * l ≤ b * k → a < k
earlier_end a b k l n h j p i = ⊎_elim (λ e. absurd (n (omega zarith) (together (omega zarith)))) (λ e. omega zarith) (≤_total (pos k) (pos a))
  where
    together : k ≡ a → b ≡ l
    together e =
        let i : (pos a *ℤ pos l) ≤ℤ (pos b *ℤ pos k) = omega zarith in
        let m = ge_by ((pos a) ∷ (pos b) ∷ (pos k) ∷ (pos l) ∷ []) (po x2 (positive p)) x3 x1
        (le (x0 ⊗ x3) (x1 ⊗ x2) i ⊞ eq (neg x3) x2 x0 (λ t. pos (e t))) tt in
        omega zarith

-- ---- a place on a way, as a fraction
pub on_way : {n d : ℕ} → 0 < d → d ≤ 32766 → n ≤ d → OnWay (record { num = pos n; den = pos d })
on_way h k l = record { time = record { den = omega zarith; low = omega zarith; high = omega zarith }; small = abs_within k }

-- a way that is not left before its end goes to its end
whole_way : {a b : ℤ} {r : Way} → WayAt a b r → r.end ≡ r.long → along a b (pos 1) (pos 1) ≡ r.to *ℤ pos 1
whole_way {a} {b} {r} f e =
    eq_cancel (a ∷ b ∷ (pos r.long) ∷ (pos r.end) ∷ r.to ∷ []) (po x2 (positive f.proper.long))
    (x0 ⊗ con (pos 1) ⊕ con (pos 1) ⊗ (x1 ⊖ x0)) (var 4 ⊗ con (pos 1))
    (eqn (con (pos 1)) (x0 ⊗ x2 ⊕ x3 ⊗ (x1 ⊖ x0)) (var 4 ⊗ x2) f.to ⊹ eqn (x0 ⊖ x1) x3 x2 (λ k. pos (e k))) tt

-- ---- the later start and the earlier end
module _ {s : Stroke} {x y : Way} (fx : WayAt s.x1 s.x2 x) (fy : WayAt s.y1 s.y2 y) where
  pub start_none : x.start ≡ 0 → y.start ≡ 0 → StartOf s x y (record { t = zeroth; x = s.x1; y = s.y1; side = no_side })
  start_none p q = record {
    way = on_way (omega arith) (omega arith) (omega arith);
    x_in = omega (zarith, p);
    y_in = omega (zarith, q);
    least = λ n d h i j.
        ge_by ((pos x.long) ∷ n ∷ (pos x.start) ∷ d ∷ []) (po x0 (positive fx.proper.long)) (con (pos 0) ⊗ x3) (x1 ⊗ con (pos 1))
        (le (x2 ⊗ x3) (x1 ⊗ x0) i ⊞ eq x3 x2 (con (pos 0)) (λ k. pos (p k))) tt;
    point = point_start {f = zeroth} (omega zarith) refl;
    side = uncut p q;
  }

  pub start_x : {v : ℤ} → 0 < x.start → y.start * x.long ≤ x.start * y.long
      → Rounded (along s.y1 s.y2 (pos x.start) (pos x.long)) (pos x.long) v
      → StartOf s x y (record { t = record { num = pos x.start; den = pos x.long }; x = x.at; y = v; side = side_met s.x1 s.x2 0 1 })
  start_x n h r = let k = fx.proper in record {
    way = on_way k.long k.small (let o = k.order in let e = k.high in omega arith);
    x_in = omega zarith;
    y_in = omega zarith;
    least = λ n d h i j. i;
    point = record { across = rounded_exact fx.at (positive k.long); up = r };
    side = by_x n h;
  }

  pub start_y : {v : ℤ} → x.start * y.long < y.start * x.long → Rounded (along s.x1 s.x2 (pos y.start) (pos y.long)) (pos y.long) v
      → StartOf s x y (record { t = record { num = pos y.start; den = pos y.long }; x = v; y = y.at; side = side_met s.y1 s.y2 2 3 })
  start_y h r = let k = fy.proper in record {
    way = on_way k.long k.small (let o = k.order in let e = k.high in omega arith);
    x_in = omega zarith;
    y_in = omega zarith;
    least = λ n d h i j. j;
    point = record { across = r; up = rounded_exact fy.at (positive k.long) };
    side = by_y h;
  }

  pub finish_none : x.end ≡ x.long → y.end ≡ y.long → FinishOf s x y (record { t = unit; x = x.to; y = y.to; side = no_side })
  finish_none p q = record {
    way = on_way (omega arith) (omega arith) (omega arith);
    x_out = omega (zarith, p);
    y_out = omega (zarith, q);
    greatest = λ n d h i j.
        ge_by ((pos x.long) ∷ n ∷ (pos x.end) ∷ d ∷ []) (po x0 (positive fx.proper.long)) (x1 ⊗ con (pos 1)) (con (pos 1) ⊗ x3)
        (le (x1 ⊗ x0) (x2 ⊗ x3) i ⊞ eq (neg x3) x2 x0 (λ k. pos (p k))) tt;
    point = record { across = rounded_exact (whole_way fx p) (omega zarith); up = rounded_exact (whole_way fy q) (omega zarith) };
    side = uncut p q;
  }

  pub finish_x : {v : ℤ} → x.end < x.long → x.end * y.long ≤ y.end * x.long
      → Rounded (along s.y1 s.y2 (pos x.end) (pos x.long)) (pos x.long) v
      → FinishOf s x y (record { t = record { num = pos x.end; den = pos x.long }; x = x.to; y = v; side = side_met s.x2 s.x1 0 1 })
  finish_x n h r = let k = fx.proper in record {
    way = on_way k.long k.small k.high;
    x_out = omega zarith;
    y_out = omega zarith;
    greatest = λ n d h i j. i;
    point = record { across = rounded_exact fx.to (positive k.long); up = r };
    side = by_x n h;
  }

  pub finish_y : {v : ℤ} → y.end * x.long < x.end * y.long → Rounded (along s.x1 s.x2 (pos y.end) (pos y.long)) (pos y.long) v
      → FinishOf s x y (record { t = record { num = pos y.end; den = pos y.long }; x = v; y = y.to; side = side_met s.y2 s.y1 2 3 })
  finish_y h r = let k = fy.proper in record {
    way = on_way k.long k.small k.high;
    x_out = omega zarith;
    y_out = omega zarith;
    greatest = λ n d h i j. j;
    point = record { across = r; up = rounded_exact fy.to (positive k.long) };
    side = by_y h;
  }

-- ---- fractions in a row: m/l ≤ t ≤ n/d, and the other way round
after : (m n : ℤ) {l d : ℤ} (t : Fraction) → pos 0 <ℤ t.den → pos 0 <ℤ l → pos 0 <ℤ d → (m *ℤ t.den) ≤ℤ (t.num *ℤ l) → (t.num *ℤ d) ≤ℤ (n *ℤ t.den)
    → (m *ℤ d) ≤ℤ (n *ℤ l)
after m n {l} {d} t h hl hd i j =
    ge_by (m ∷ l ∷ n ∷ d ∷ t.num ∷ t.den ∷ []) (po (var 5) h) (x0 ⊗ x3) (x2 ⊗ x1)
    (po x3 hd ⊠ le (x0 ⊗ var 5) (var 4 ⊗ x1) i ⊞ po x1 hl ⊠ le (var 4 ⊗ x3) (x2 ⊗ var 5) j) tt

before : (m n : ℤ) {l d : ℤ} (t : Fraction) → pos 0 <ℤ t.den → pos 0 <ℤ l → pos 0 <ℤ d → (t.num *ℤ l) ≤ℤ (m *ℤ t.den) → (n *ℤ t.den) ≤ℤ (t.num *ℤ d)
    → (n *ℤ l) ≤ℤ (m *ℤ d)
before m n {l} {d} t h hl hd i j =
    ge_by (m ∷ l ∷ n ∷ d ∷ t.num ∷ t.den ∷ []) (po (var 5) h) (x2 ⊗ x1) (x0 ⊗ x3)
    (po x3 hd ⊠ le (var 4 ⊗ x1) (x0 ⊗ var 5) i ⊞ po x1 hl ⊠ le (x2 ⊗ var 5) (var 4 ⊗ x3) j) tt

-- ---- what is kept is from the later start to the earlier end
module _ {w : Window} {s : Stroke} {x y : Way} (f : WayOf w.left w.right s.x1 s.x2 x) (g : WayOf w.bottom w.top s.y1 s.y2 y) where
  pub kept_on : {n d : ℤ} → Keeps w s n d → FromStartToEnd x n d × FromStartToEnd y n d
  kept_on {n} {d} k = (f.stays n d k.time k.x, g.stays n d k.time k.y)

  pub none_kept : Apart 0 x y → (n d : ℤ) → Keeps w s n d → ⊥
  none_kept apart n d k =
      let o = kept_on k in
      let px = f.way.proper in
      let py = g.way.proper in
      ⊎_elim (λ l. never_both px py l n d k.time.den o.0 o.1) (λ l. never_both py px l n d k.time.den o.1 o.0) apart

  module _ {a b : End} (p : StartOf s x y a) (q : FinishOf s x y b) where
    proper : ProperSpan (record { first = a.t; last = b.t })
    proper = record { low = p.way.time.low; high = q.way.time.high; den0 = p.way.time.den; den1 = q.way.time.den }

    pub ends_span : SpanOf 32766 (Keeps w s) (record { first = a.t; last = b.t })
    ends_span =
        let px = positive f.way.proper.long in
        let py = positive g.way.proper.long in
        let u = p.way.time.den in
        let v = q.way.time.den in record {
          proper = proper;
          sized = record { n0 = time_within p.way.time p.way.small; d0 = p.way.small; n1 = time_within q.way.time q.way.small; d1 = q.way.small };
          stays = λ n d k. let o = kept_on k in
              record { from = p.least n d k.time.den o.0.from o.1.from; upto = q.greatest n d k.time.den o.0.upto o.1.upto };
          keeps = λ n d h i. let t = in_time proper h i in record {
            time = t;
            x = f.keeps n d t (record {
              from = after (pos x.start) n a.t u px h p.x_in i.from;
              upto = before (pos x.end) n b.t v px h q.x_out i.upto;
            });
            y = g.keeps n d t (record {
              from = after (pos y.start) n a.t u py h p.y_in i.from;
              upto = before (pos y.end) n b.t v py h q.y_out i.upto;
            });
          };
        }

    pub ends_meet : {k : ℕ} → Overlap k x y → (a.t.num *ℤ b.t.den) ≤ℤ (b.t.num *ℤ a.t.den)
    ends_meet o =
        let hx = mul-le-mul f.way.proper.order (le_refl x.long) in
        let hy = mul-le-mul g.way.proper.order (le_refl y.long) in
        let i = o.x_first in
        let j = o.y_first in
        q.greatest a.t.num a.t.den p.way.time.den
        (p.least (pos x.end) (pos x.long) (positive f.way.proper.long) (omega zarith) (omega zarith))
        (p.least (pos y.end) (pos y.long) (positive g.way.proper.long) (omega zarith) (omega zarith))
