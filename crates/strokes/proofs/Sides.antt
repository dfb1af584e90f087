-- The sides that fix the ends of what is kept, by the ways of the two coordinates: a side met on a way is crossed there, and a way that came in
-- before was already between its two sides. And what is kept is what meets the conditions of the four sides.
use mathlib.Core.Path.{◌≡◌, refl, sym}
use mathlib.Core.List.{[], ◌∷◌}
use mathlib.Core.Logic.{⊎_elim}
use Prim.Native.Nat.{ℕ, zero, suc, ◌*◌, ◌<◌, ◌≤◌}
use native.Mathlib.Nat.{mul-le-mul, mul_comm, le_refl}
use native.Mathlib.Omega.{arith}
use lib.IntN.{ℤ, pos, negsuc, neg_ℤ, ◌-ℤ◌, ◌*ℤ◌}
use lib.Signed.{◌≤ℤ◌, ◌<ℤ◌, lt_z}
use Rattle.whole.proofs.Certificates.{gt, clash, eqn, eq_by, po, lt, ◌⊞◌}
use Rattle.whole.proofs.Comparisons.{by-test, lt_yes, lt_no}
use Rattle.whole.proofs.Expressions.{var, con, ◌⊕◌, ◌⊖◌, ◌⊗◌, neg, x0, x1, x2, x3}
use Rattle.whole.proofs.Order.{zarith, ≤_total}
use Rattle.fraction.specs.declared.Fraction.{Fraction}
use Rattle.fraction.specs.Rounding.{along}
use Rattle.grid.specs.declared.Stroke.{Stroke}
use Rattle.grid.specs.declared.Window.{Window}
use Rattle.rings.specs.Lists.{∅, ◌◂◌}
use Rattle.rings.proofs.Lists.{all_head, all_tail}
use Rattle.spans.specs.Sides.{Condition, MeetsAll, Inward, Outward, Fixes, FirstOf, here, later, StartSide, EndSide}
use Rattle.spans.proofs.Sides.{not_inward, not_outward, own_start, own_end}
use Rattle.strokes.specs.declared.ways.Way.{Way}
use Rattle.strokes.specs.Sides.{conditions}
use Rattle.strokes.specs.Strokes.{KeepsCoordinate, Keeps}
use Rattle.strokes.specs.Workers.{MetAt, rising, falling, WayOf, side_met, StartBy, FinishBy, uncut, by_x, by_y}
use Rattle.strokes.proofs.Coordinates.{above_low, below_high, both_sides}

-- ---- what is kept
pub keeps_meets : {w : Window} {s : Stroke} {n d : ℤ} → Keeps w s n d → MeetsAll (conditions w s) n d
keeps_meets k = record { time = k.time; each = above_low k.x ◂ below_high k.x ◂ above_low k.y ◂ below_high k.y ◂ ∅ }

pub meets_keeps : {w : Window} {s : Stroke} {n d : ℤ} → MeetsAll (conditions w s) n d → Keeps w s n d
meets_keeps m =
    let l = m.each in
    let r = all_tail l in
    let b = all_tail r in
    let t = all_tail b in
    record { time = m.time; x = both_sides (all_head l) (all_head r); y = both_sides (all_head b) (all_head t) }

-- ---- one coordinate: its lower side and its upper side, as conditions on the way from a to b
abbrev lower : ℤ → ℤ → ℤ → Condition
lower lo a b = record { p = neg_ℤ (b -ℤ a); q = a -ℤ lo }

abbrev upper : ℤ → ℤ → ℤ → Condition
upper hi a b = record { p = b -ℤ a; q = hi -ℤ a }

-- ---- the side that is met at f is the one that is crossed there
module _ (a b c : ℤ) (f : Fraction) (at : along a b f.num f.den ≡ c *ℤ f.den) where
  at_lower : neg_ℤ (b -ℤ a) *ℤ f.num ≡ (a -ℤ c) *ℤ f.den
  at_lower =
      eq_by (a ∷ b ∷ f.num ∷ f.den ∷ c ∷ []) (neg (x1 ⊖ x0) ⊗ x2) ((x0 ⊖ var 4) ⊗ x3)
      (eqn (con (negsuc 0)) (x0 ⊗ x3 ⊕ x2 ⊗ (x1 ⊖ x0)) (var 4 ⊗ x3) at) tt

  at_upper : (b -ℤ a) *ℤ f.num ≡ (c -ℤ a) *ℤ f.den
  at_upper =
      eq_by (a ∷ b ∷ f.num ∷ f.den ∷ c ∷ []) ((x1 ⊖ x0) ⊗ x2) ((var 4 ⊖ x0) ⊗ x3)
      (eqn (con (pos 1)) (x0 ⊗ x3 ⊕ x2 ⊗ (x1 ⊖ x0)) (var 4 ⊗ x3) at) tt

-- coming in: Q holds of the number of the side, i of the lower or j of the upper
module _ {lo hi : ℤ} (a b : ℤ) (f : Fraction) (Q : ℕ → Type 0) {i j : ℕ} where
  in_met : {c : ℤ} → along a b f.num f.den ≡ c *ℤ f.den → MetAt lo hi a b c → (Fixes Inward f (lower lo a b) → Q i)
      → ((Fixes Inward f (lower lo a b) → ⊥) → Fixes Inward f (upper hi a b) → Q j) → Q (side_met a b i j)
  in_met at (rising h) low high =
      by-test (lt_z b a) Q (λ e. let l : b <ℤ a = lt_yes refl refl e in absurd (omega zarith))
      (λ e. low (record { crosses = gt (a ∷ b ∷ []) (neg (x1 ⊖ x0)) (con (pos 0)) (lt x0 x1 h) tt; on = at_lower a b lo f at }))
  in_met at (falling h) low high =
      by-test (lt_z b a) Q
      (λ e.
      high
      (λ x. clash (a ∷ b ∷ []) (lt x1 x0 h ⊞ lt (neg (x1 ⊖ x0)) (con (pos 0)) x.crosses) tt)
      (record { crosses = gt (a ∷ b ∷ []) (x1 ⊖ x0) (con (pos 0)) (lt x1 x0 h) tt; on = at_upper a b hi f at }))
      (λ e. let l : a ≤ℤ b = lt_no refl refl e in absurd (omega zarith))

  out_met : {c : ℤ} → along a b f.num f.den ≡ c *ℤ f.den → MetAt lo hi b a c → (Fixes Outward f (lower lo a b) → Q i)
      → ((Fixes Outward f (lower lo a b) → ⊥) → Fixes Outward f (upper hi a b) → Q j) → Q (side_met b a i j)
  out_met at (rising h) low high =
      by-test (lt_z a b) Q (λ e. let l : a <ℤ b = lt_yes refl refl e in absurd (omega zarith))
      (λ e. low (record { crosses = gt (a ∷ b ∷ []) (con (pos 0)) (neg (x1 ⊖ x0)) (lt x1 x0 h) tt; on = at_lower a b lo f at }))
  out_met at (falling h) low high =
      by-test (lt_z a b) Q
      (λ e.
      high
      (λ x. clash (a ∷ b ∷ []) (lt x0 x1 h ⊞ po (neg (x1 ⊖ x0)) x.crosses) tt)
      (record { crosses = gt (a ∷ b ∷ []) (con (pos 0)) (x1 ⊖ x0) (lt x0 x1 h) tt; on = at_upper a b hi f at }))
      (λ e. let l : b ≤ℤ a = lt_no refl refl e in absurd (omega zarith))

-- ---- at its start and at its end a way is between its two sides
module _ {lo hi a b : ℤ} {r : Way} (g : WayOf lo hi a b r) where
  between_at : (n : ℕ) → r.start ≤ n → n ≤ r.end → KeepsCoordinate lo hi a b (pos n) (pos r.long)
  between_at n h k =
      let p = g.way.proper in
      let l = p.long in
      let e = p.high in
      let i = mul-le-mul h (le_refl r.long) in
      let j = mul-le-mul k (le_refl r.long) in
      g.keeps (pos n) (pos r.long) (record { den = omega zarith; low = omega zarith; high = omega zarith })
      (record { from = omega zarith; upto = omega zarith })

long : {lo hi a b : ℤ} {r : Way} → WayOf lo hi a b r → pos 0 <ℤ pos r.long
long g = omega (zarith, g.way.proper.long)

unequal : {m n : ℕ} → m < n → pos n ≡ pos m → ⊥
unequal h e = omega zarith

-- of m/k < n/l the greater is not 0, and where it is not above 1 the lesser is below
some_way : (m n k l : ℕ) → m * l < n * k → 0 < n
some_way m zero k l h = absurd (omega arith)
some_way m (suc n) k l h = omega arith

less_way : (m n k l : ℕ) → n ≤ l → m * l < n * k → m < k
less_way m n k l e h =
    ⊎_elim (λ d. let i : k ≤ m = omega zarith in let j = mul-le-mul e i in absurd (omega (arith, mul_comm m l))) (λ d. omega zarith) (≤_total (pos k) (pos m))

-- ---- both coordinates
module _ {w : Window} {s : Stroke} {x y : Way} (f : WayOf w.left w.right s.x1 s.x2 x) (g : WayOf w.bottom w.top s.y1 s.y2 y) where
  pub start_side : {t : Fraction} {k : ℕ} → StartBy s x y t k → StartSide (conditions w s) t k
  start_side (uncut p q) = own_start
  start_side (by_x n h) =
      let t : Fraction = record { num = pos x.start; den = pos x.long } in record {
        remains = λ o. absurd (unequal n o);
        fixed = λ _. in_met s.x1 s.x2 t (FirstOf (Fixes Inward t) (conditions w s)) f.way.at (f.comes n) (λ l. here l) (λ m u. later m (here u));
      }
  start_side (by_y h) =
      let before : Fraction = record { num = pos x.start; den = pos x.long } in
      let t : Fraction = record { num = pos y.start; den = pos y.long } in
      let k = between_at f x.start (le_refl x.start) f.way.proper.order in
      let sooner : pos (x.start * y.long) <ℤ pos (y.start * x.long) = omega zarith in
      let left = not_inward before t (long f) (long g) (above_low k) sooner in
      let right = not_inward before t (long f) (long g) (below_high k) sooner in
      let n : 0 < y.start = some_way x.start y.start x.long y.long h in record {
        remains = λ o. absurd (unequal n o);
        fixed = λ _.
            in_met s.y1 s.y2 t (FirstOf (Fixes Inward t) (conditions w s)) g.way.at (g.comes n) (λ l. later left (later right (here l)))
            (λ m u. later left (later right (later m (here u))));
      }

  pub end_side : {t : Fraction} {k : ℕ} → FinishBy s x y t k → EndSide (conditions w s) t k
  end_side (uncut p q) = own_end
  end_side (by_x n h) =
      let t : Fraction = record { num = pos x.end; den = pos x.long } in record {
        remains = λ o. absurd (unequal n (sym o));
        fixed = λ _. out_met s.x1 s.x2 t (FirstOf (Fixes Outward t) (conditions w s)) f.way.to (f.goes n) (λ l. here l) (λ m u. later m (here u));
      }
  end_side (by_y h) =
      let after : Fraction = record { num = pos x.end; den = pos x.long } in
      let t : Fraction = record { num = pos y.end; den = pos y.long } in
      let k = between_at f x.end f.way.proper.order (le_refl x.end) in
      let sooner : pos (y.end * x.long) <ℤ pos (x.end * y.long) = omega zarith in
      let left = not_outward after t (long f) (long g) (above_low k) sooner in
      let right = not_outward after t (long f) (long g) (below_high k) sooner in
      let n : y.end < y.long = less_way y.end x.end y.long x.long f.way.proper.high h in record {
        remains = λ o. absurd (unequal n (sym o));
        fixed = λ _.
            out_met s.y1 s.y2 t (FirstOf (Fixes Outward t) (conditions w s)) g.way.to (g.goes n) (λ l. later left (later right (here l)))
            (λ m u. later left (later right (later m (here u))));
      }
