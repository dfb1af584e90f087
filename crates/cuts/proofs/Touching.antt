-- What the ways of the two coordinates say of a stroke. Where one ends as the other starts, at most one fraction is kept; where they overlap by more,
-- the later start and the earlier end are kept and are two, since no way is between its two sides at one point only.
use mathlib.Core.Path.{◌≡◌, refl}
use mathlib.Core.Bool.{Bool, true, false}
use mathlib.Core.List.{[], ◌∷◌}
use mathlib.Core.Logic.{◌⊎◌, ⊎_elim}
use Prim.Native.Nat.{ℕ, zero, suc, ◌+◌, ◌*◌, ◌<◌, ◌≤◌}
use native.Mathlib.Nat.{mul-le-mul, le_refl}
use native.Mathlib.Omega.{arith}
use lib.IntN.{ℤ, pos, negsuc, ◌*ℤ◌}
use lib.Signed.{◌≤ℤ◌, ◌<ℤ◌}
use Rattle.whole.proofs.Certificates.{ge_by, gt, clash, eq, eq_cancel, eqn, ◌⊹◌, po, le, lt, ◌⊞◌, ◌⊠◌}
use Rattle.whole.proofs.Expressions.{var, con, ◌⊕◌, ◌⊖◌, ◌⊗◌, x0, x1, x2, x3}
use Rattle.whole.proofs.Order.{zarith, ≤_total, ≤_antisym}
use Rattle.grid.specs.declared.Stroke.{Stroke}
use Rattle.grid.specs.declared.Window.{Window}
use Rattle.grid.specs.Table.{WindowOnTable}
use Rattle.strokes.specs.Strokes.{Keeps, Clipped}
use Rattle.strokes.specs.Workers.{ProperWay, FromStartToEnd, MetAt, rising, falling, WayOf, Apart, Overlap}
use Rattle.strokes.specs.declared.StrokeAnswer.{StrokeAnswer}
use Rattle.strokes.specs.declared.ways.Way.{Way}
use Rattle.strokes.proofs.Meetings.{positive, on_way, kept_on, none_kept}
use Rattle.cuts.specs.Cuts.{is_given, touches_at}
use Rattle.cuts.proofs.Given.{missed_left_out, kept_given, touch_left_out, length_given}

-- ---- one way ends as the other starts: what is on the one is not after what is on the other
no_later : {x y : Way} → ProperWay x → ProperWay y → y.end * x.long < x.start * y.long + 1 → {n d m e : ℤ} → pos 0 <ℤ d → pos 0 <ℤ e
    → FromStartToEnd y n d → FromStartToEnd x m e → (n *ℤ e) ≤ℤ (m *ℤ d)
no_later {x} {y} f g l {n} {d} {m} {e} h k i j =
    let o : pos (y.end * x.long) ≤ℤ pos (x.start * y.long) = omega zarith in
    let px = positive f.long in
    let py = positive g.long in
    ge_by ((pos x.start) ∷ (pos x.long) ∷ (pos y.end) ∷ (pos y.long) ∷ n ∷ d ∷ m ∷ e ∷ [])
    (po x1 px ⊠ po x3 py) (var 4 ⊗ var 7) (var 6 ⊗ var 5)
    (po x3 py ⊠ po (var 5) h ⊠ le (x0 ⊗ var 7) (var 6 ⊗ x1) j.from ⊞ po (var 7) k ⊠ po (var 5) h ⊠ le (x2 ⊗ x1) (x0 ⊗ x3) o
    ⊞ po (var 7) k ⊠ po x1 px ⊠ le (var 4 ⊗ x3) (x2 ⊗ var 5) i.upto) tt

-- ---- a way that comes in and goes out meets two sides, and these are not one
two_sides : {lo hi a b c d : ℤ} → lo <ℤ hi → MetAt lo hi a b c → MetAt lo hi b a d → c ≡ d → ⊥
two_sides l (rising h) (rising k) e = omega zarith
two_sides l (rising h) (falling k) e = omega zarith
two_sides l (falling h) (rising k) e = omega zarith
two_sides l (falling h) (falling k) e = omega zarith

lasts : {lo hi a b : ℤ} {r : Way} → WayOf lo hi a b r → lo <ℤ hi → 0 < r.end → r.start < r.long → r.start < r.end
lasts {lo} {hi} {a} {b} {r} f l h k = ⊎_elim (λ m. absurd (once (omega zarith))) (λ m. omega zarith) (≤_total (pos r.end) (pos r.start))
  where
    once : r.end ≤ r.start → ⊥
    once m =
        let o = f.way.proper.order in
        let e : r.end ≡ r.start = omega arith in
        two_sides l (f.comes (omega arith)) (f.goes (omega arith))
        (eq_cancel (a ∷ b ∷ (pos r.long) ∷ (pos r.start) ∷ (pos r.end) ∷ r.at ∷ r.to ∷ []) (po x2 (positive f.way.proper.long))
        (var 5) (var 6)
        (eqn (con (negsuc 0)) (x0 ⊗ x2 ⊕ x3 ⊗ (x1 ⊖ x0)) (var 5 ⊗ x2) f.way.at ⊹ eqn (x0 ⊖ x1) (var 4) x3 (λ i. pos (e i))
        ⊹ eqn (con (pos 1)) (x0 ⊗ x2 ⊕ var 4 ⊗ (x1 ⊖ x0)) (var 6 ⊗ x2) f.way.to) tt)

-- ---- the later start and the earlier end are on both ways
module _ {k : ℕ} {x y : Way} (f : ProperWay x) (o : Overlap k x y) where
  start_on_both : y.start * x.long ≤ x.start * y.long
      → FromStartToEnd x (pos x.start) (pos x.long) × FromStartToEnd y (pos x.start) (pos x.long)
  start_on_both h =
      let i = o.x_first in
      let m = mul-le-mul f.order (le_refl x.long) in
      (record { from = omega zarith; upto = omega zarith }, record { from = omega zarith; upto = omega zarith })

  end_on_both : x.end * y.long ≤ y.end * x.long
      → FromStartToEnd x (pos x.end) (pos x.long) × FromStartToEnd y (pos x.end) (pos x.long)
  end_on_both h =
      let i = o.y_first in
      let m = mul-le-mul f.order (le_refl x.long) in
      (record { from = omega zarith; upto = omega zarith }, record { from = omega zarith; upto = omega zarith })

pub turned : {k : ℕ} {x y : Way} → Overlap k x y → Overlap k y x
turned o = record { x_first = o.y_first; y_first = o.x_first }

-- where they have more than a point in common, none of them has only its own start or end
overlap_lasts : {lo hi a b : ℤ} {x y : Way} → WayOf lo hi a b x → lo <ℤ hi → ProperWay y → Overlap 1 x y → x.start < x.end
overlap_lasts {x = x} {y = y} f l g o = lasts f l goes_in stays_short
  where
    goes_in : 0 < x.end
    goes_in =
        ⊎_elim
        (λ h. let k : x.end ≤ 0 = omega zarith in let i = o.y_first in absurd (omega (arith, mul-le-mul k (le_refl y.long))))
        (λ h. omega zarith) (≤_total (pos x.end) (pos 0))

    stays_short : x.start < x.long
    stays_short =
        ⊎_elim
        (λ h. let k : x.long ≤ x.start = omega zarith in let i = o.x_first in absurd (omega (arith, mul-le-mul k g.high)))
        (λ h. omega zarith) (≤_total (pos x.long) (pos x.start))

-- two fractions are kept, the first before the last
record TwoKept (w : Window) (s : Stroke) : Type 0 where
  n : ℤ
  d : ℤ
  m : ℤ
  e : ℤ
  first : Keeps w s n d
  last : Keeps w s m e
  sooner : (n *ℤ e) <ℤ (m *ℤ d)

module _ {w : Window} {s : Stroke} {x y : Way} (on : WindowOnTable w) (f : WayOf w.left w.right s.x1 s.x2 x)
    (g : WayOf w.bottom w.top s.y1 s.y2 y) where
  keeps : {n d : ℕ} → 0 < d → d ≤ 32766 → n ≤ d → FromStartToEnd x (pos n) (pos d) × FromStartToEnd y (pos n) (pos d) → Keeps w s (pos n) (pos d)
  keeps h k l (p, q) = let t = (on_way h k l).time in record { time = t; x = f.keeps _ _ t p; y = g.keeps _ _ t q }

  -- the later start, and the earlier end, by the coordinate to which it belongs
  module _ {k : ℕ} (o : Overlap k x y) where
    start_x : y.start * x.long ≤ x.start * y.long → Keeps w s (pos x.start) (pos x.long)
    start_x h = let p = f.way.proper in
        keeps p.long p.small (let i = p.order in let j = p.high in omega arith) (start_on_both p o h)

    start_y : x.start * y.long ≤ y.start * x.long → Keeps w s (pos y.start) (pos y.long)
    start_y h = let p = g.way.proper in let q = start_on_both p (turned o) h in
        keeps p.long p.small (let i = p.order in let j = p.high in omega arith) (q.1, q.0)

    end_x : x.end * y.long ≤ y.end * x.long → Keeps w s (pos x.end) (pos x.long)
    end_x h = let p = f.way.proper in keeps p.long p.small p.high (end_on_both p o h)

    end_y : y.end * x.long ≤ x.end * y.long → Keeps w s (pos y.end) (pos y.long)
    end_y h = let p = g.way.proper in let q = end_on_both p (turned o) h in keeps p.long p.small p.high (q.1, q.0)

  some_kept : {k : ℕ} → Overlap k x y → {a : StrokeAnswer} → Clipped w s a → a.kept ≡ true
  some_kept o c =
      ⊎_elim (λ h. c.part.keeps _ _ (start_x o (omega zarith))) (λ h. c.part.keeps _ _ (start_y o (omega zarith)))
      (≤_total (pos (y.start * x.long)) (pos (x.start * y.long)))

  two_kept : Overlap 1 x y → TwoKept w s
  two_kept o =
      ⊎_elim
      (λ h.
      let first = start_x o (omega zarith) in
      ⊎_elim
      (λ i. record {
        n = _;
        d = _;
        m = _;
        e = _;
        first = first;
        last = end_x o (omega zarith);
        sooner = longer (overlap_lasts f on.wide g.way.proper o) f.way.proper.long;
      })
      (λ i. record { n = _; d = _; m = _; e = _; first = first; last = end_y o (omega zarith); sooner = let l = o.x_first in omega zarith })
      ends)
      (λ h.
      let first = start_y o (omega zarith) in
      ⊎_elim
      (λ i. record { n = _; d = _; m = _; e = _; first = first; last = end_x o (omega zarith); sooner = let l = o.y_first in omega zarith })
      (λ i. record {
        n = _;
        d = _;
        m = _;
        e = _;
        first = first;
        last = end_y o (omega zarith);
        sooner = longer (overlap_lasts g on.tall f.way.proper (turned o)) g.way.proper.long;
      })
      ends)
      (≤_total (pos (y.start * x.long)) (pos (x.start * y.long)))
    where
      ends : ((pos (x.end * y.long)) ≤ℤ (pos (y.end * x.long))) ⊎ ((pos (y.end * x.long)) <ℤ (pos (x.end * y.long)))
      ends = ≤_total _ _

      longer : {a b c : ℕ} → a < b → 0 < c → (pos a *ℤ pos c) <ℤ (pos b *ℤ pos c)
      longer {a} {b} {c} h k = gt ((pos a) ∷ (pos b) ∷ (pos c) ∷ []) (x0 ⊗ x2) (x1 ⊗ x2) (lt x0 x1 (omega zarith) ⊠ po x2 (positive k)) tt

-- ---- whether the stroke is given
module _ {w : Window} {s : Stroke} {x y : Way} (on : WindowOnTable w) (f : WayOf w.left w.right s.x1 s.x2 x)
    (g : WayOf w.bottom w.top s.y1 s.y2 y) where
  -- of what is kept, nothing is after anything else
  one_kept : Apart 1 x y → {n d m e : ℤ} → Keeps w s n d → Keeps w s m e → n *ℤ e ≡ m *ℤ d
  one_kept apart k l =
      let p = kept_on f g k in
      let q = kept_on f g l in
      let px = f.way.proper in
      let py = g.way.proper in
      let dk = k.time.den in
      let dl = l.time.den in
      ⊎_elim
      (λ h. ≤_antisym (no_later px py h dk dl p.1 q.0) (no_later px py h dl dk q.1 p.0))
      (λ h. ≤_antisym (no_later py px h dk dl p.0 q.1) (no_later py px h dl dk q.0 p.1))
      apart

  pub left_out_by_ways : (k : ℕ) → k ≤ 1 → Apart k x y → (a : StrokeAnswer) → Clipped w s a → is_given (touches_at k) a ≡ false
  left_out_by_ways zero h apart a c = missed_left_out a true (go a.kept refl)
    where
      go : (k : Bool) → a.kept ≡ k → a.kept ≡ false
      go true e = absurd (none_kept f g apart _ _ (c.part.first e).keeps)
      go false e = e
  left_out_by_ways (suc zero) h apart a c = go a.kept refl
    where
      go : (k : Bool) → a.kept ≡ k → is_given false a ≡ false
      go true e = touch_left_out a (one_kept apart (c.part.first e).keeps (c.part.last e).keeps)
      go false e = missed_left_out a false e
  left_out_by_ways (suc (suc k)) h apart a c = absurd (omega arith)

  pub given_by_ways : (k : ℕ) → k ≤ 1 → Overlap k x y → (a : StrokeAnswer) → Clipped w s a → is_given (touches_at k) a ≡ true
  given_by_ways zero h o a c = kept_given a (some_kept on f g o c)
  given_by_ways (suc (suc k)) h o a c = absurd (omega arith)
  given_by_ways (suc zero) h o a c =
      let two = two_kept on f g o in
      let k = some_kept on f g o c in
      let first = c.part.first k in
      let last = c.part.last k in
      length_given a k (λ e.
      clash (a.t0.num ∷ a.t0.den ∷ a.t1.num ∷ a.t1.den ∷ two.n ∷ two.d ∷ two.m ∷ two.e ∷ [])
      (po x1 first.lowest.positive ⊠ po x3 last.lowest.positive ⊠ lt (var 4 ⊗ var 7) (var 6 ⊗ var 5) two.sooner
      ⊞ po (var 7) two.last.time.den ⊠ po x3 last.lowest.positive ⊠ le (x0 ⊗ var 5) (var 4 ⊗ x1) (first.least _ _ two.first)
      ⊞ po (var 5) two.first.time.den ⊠ po x1 first.lowest.positive ⊠ le (var 6 ⊗ x3) (x2 ⊗ var 7) (last.greatest _ _ two.last)
      ⊞ eq (var 5 ⊗ var 7) (x0 ⊗ x3) (x2 ⊗ x1) e) tt)
