-- A stroke whose two ends are not both beyond one side meets each condition at its start or at its end. So where it starts behind the side at which the line
-- comes in it starts inside, and where it ends before the side at which the line goes out it ends inside.
use mathlib.Core.Path.{◌≡◌}
use mathlib.Core.List.{List, [], ◌∷◌}
use mathlib.Core.Logic.{◌⊎◌, inl, inr, ⊎_elim}
use lib.IntN.{ℤ, pos, neg_ℤ, ◌-ℤ◌, ◌*ℤ◌}
use lib.Signed.{◌≤ℤ◌, ◌<ℤ◌}
use Rattle.whole.proofs.Certificates.{ge, clash, po, nn, le, lt, ◌⊞◌, ◌⊠◌}
use Rattle.whole.proofs.Expressions.{Env, con, ◌⊖◌, ◌⊗◌, neg, x0, x1, x2, x3}
use Rattle.whole.proofs.Order.{zarith, ≤_total, ≤_diff}
use Rattle.grid.specs.declared.Stroke.{Stroke}
use Rattle.grid.specs.declared.Window.{Window}
use Rattle.grid.specs.Table.{WindowOnTable}
use Rattle.rings.specs.Lists.{All, ∅, ◌◂◌}
use Rattle.rings.proofs.Lists.{all_zip}
use Rattle.spans.specs.Sides.{Condition}
use Rattle.strokes.specs.Sides.{conditions}
use Rattle.strokes.specs.Workers.{EndsBetween, MayReach, EndsInside, Reaching}
use Rattle.crossed_sides.proofs.Corners.{Enters, Leaves}

abbrev pub Reached : Condition → Type 0
Reached c = (pos 0 ≤ℤ c.q) ⊎ (c.p ≤ℤ c.q)

-- ---- by the two ends of a way from a to b
module _ {lo hi a b : ℤ} (h : MayReach lo hi a b) where
  low : Reached (record { p = neg_ℤ (b -ℤ a); q = a -ℤ lo })
  low = ⊎_elim (λ l. inl (≤_diff l)) (λ l. inr (ge (lo ∷ a ∷ b ∷ []) (neg (x2 ⊖ x1)) (x1 ⊖ x0) (le x0 x2 (h.up l)) tt)) (≤_total lo a)

  high : lo <ℤ hi → Reached (record { p = b -ℤ a; q = hi -ℤ a })
  high wide = ⊎_elim (λ l. inl (≤_diff l)) (λ l. inr (ge (hi ∷ a ∷ b ∷ []) (x2 ⊖ x1) (x0 ⊖ x1) (le x2 x0 (back l)) tt)) (≤_total a hi)
    where
      back : hi <ℤ a → b ≤ℤ hi
      back l = ⊎_elim (λ m. h.down (omega zarith) m l) (λ m. omega zarith) (≤_total lo b)

pub reached : {w : Window} {s : Stroke} → WindowOnTable w → Reaching w s → All Reached (conditions w s)
reached on r = low r.x ◂ high r.x on.wide ◂ low r.y ◂ high r.y on.tall ◂ ∅

-- a stroke of no length that reaches the window lies in it
pub dot_inside : {w : Window} {s : Stroke} → Reaching w s → s.x1 ≡ s.x2 → s.y1 ≡ s.y2 → EndsInside w s
dot_inside r p q = record { x = dot r.x p; y = dot r.y q }
  where
    dot : {lo hi a b : ℤ} → MayReach lo hi a b → a ≡ b → EndsBetween lo hi a b
    dot {lo} {hi} {a} {b} h e =
        let l : lo ≤ℤ a = ⊎_elim (λ m. m) (λ m. let k = h.up m in absurd (omega zarith)) (≤_total lo a) in
        let u : a ≤ℤ hi = ⊎_elim (λ m. m) (λ m. let k = h.down l (omega zarith) m in absurd (omega zarith)) (≤_total a hi) in
        record { a_low = l; a_high = u; b_low = omega zarith; b_high = omega zarith }

-- ---- k's p and q, and those of another condition
module _ (k : Condition) where
  abbrev ρ : Condition → Env
  ρ c = k.p ∷ k.q ∷ c.p ∷ c.q ∷ []

  pub starts_inside : {cs : List Condition} → All Reached cs → Enters cs k → pos 0 ≤ℤ k.q → All (λ (c : Condition). (c.p *ℤ pos 0) ≤ℤ (c.q *ℤ pos 1)) cs
  starts_inside r e h = all_zip
      (λ c m i. ge (ρ c) (x2 ⊗ con (pos 0)) (x3 ⊗ con (pos 1)) (nn x3 (inside c m i)) tt) r e.inside
    where
      inside : (c : Condition) → Reached c → (c.q *ℤ k.p) ≤ℤ (k.q *ℤ c.p) → pos 0 ≤ℤ c.q
      inside c (inl m) i = m
      inside c (inr m) i = ⊎_elim (λ l. l)
          (λ l. absurd (clash (ρ c)
          (lt x3 (con (pos 0)) l ⊠ lt x0 (con (pos 0)) e.inward ⊞ le (x3 ⊗ x0) (x1 ⊗ x2) i ⊞ nn x1 h ⊠ le x2 (con (pos 0)) (omega (zarith, m, l))) tt))
          (≤_total (pos 0) c.q)

  pub ends_inside : {cs : List Condition} → All Reached cs → Leaves cs k → k.p ≤ℤ k.q → All (λ (c : Condition). (c.p *ℤ pos 1) ≤ℤ (c.q *ℤ pos 1)) cs
  ends_inside r e h = all_zip
      (λ c m i. ge (ρ c) (x2 ⊗ con (pos 1)) (x3 ⊗ con (pos 1)) (le x2 x3 (inside c m i)) tt) r e.inside
    where
      inside : (c : Condition) → Reached c → (k.q *ℤ c.p) ≤ℤ (c.q *ℤ k.p) → c.p ≤ℤ c.q
      inside c (inl m) i = ⊎_elim (λ l. l)
          (λ l. absurd (clash (ρ c)
          (lt x3 x2 l ⊠ po x0 e.outward ⊞ le (x1 ⊗ x2) (x3 ⊗ x0) i ⊞ le x0 x1 h ⊠ nn x2 (omega (zarith, m, l))) tt))
          (≤_total c.p c.q)
      inside c (inr m) i = m
