-- At a fraction that meets all conditions, and that a side fixes, the sides that fix it are those that the line crosses there: so the first of them is found
-- by the fractions or by the corners.
use mathlib.Core.Path.{◌≡◌, refl, sym, subst}
use mathlib.Core.List.{List}
use Prim.Native.Nat.{ℕ}
use lib.IntN.{◌*ℤ◌}
use lib.Signed.{◌≤ℤ◌}
use Rattle.fraction.specs.declared.Fraction.{Fraction}
use Rattle.grid.specs.declared.Stroke.{Stroke}
use Rattle.grid.specs.declared.Window.{Window}
use Rattle.grid.specs.Sides.{Side, left, right, bottom, top}
use Rattle.grid.specs.Table.{WindowOnTable}
use Rattle.rings.specs.Lists.{All, none, ◌and◌}
use Rattle.rings.proofs.Lists.{all_head, all_tail}
use Rattle.spans.specs.Sides.{Condition, MeetsAll, Inward, Outward, Fixes, FirstOf, here, later}
use Rattle.spans.proofs.Sides.{first_each}
use Rattle.strokes.specs.Sides.{condition, conditions, four_sides}
use Rattle.crossed_sides.specs.Line.{ComesIn, GoesOut}
use Rattle.crossed_sides.proofs.Corners.{in_enters, out_leaves, enters_in, leaves_out}
use Rattle.cross_product.proofs.Fixing.{in_fixes, out_fixes, fixed_enters, fixed_leaves}

-- one of the conditions, of which P holds
record Picked (P : Condition → Type 0) (cs : List Condition) : Type 1 where
  it : Condition
  holds : P it
  member : (Q : Condition → Type 0) → All Q cs → Q it

pick : {P : Condition → Type 0} {cs : List Condition} {n : ℕ} → FirstOf P cs n → Picked P cs
pick (here {x = c} p) = record { it = c; holds = p; member = λ Q a. all_head a }
pick (later n r) = let k = pick r in record { it = k.it; holds = k.holds; member = λ Q a. k.member Q (all_tail a) }

module _ (w : Window) (s : Stroke) (on : WindowOnTable w) (f : Fraction) (m : MeetsAll (conditions w s) f.num f.den) where
  abbrev cs : List Condition
  cs = conditions w s

  abbrev Side·condition : Side → Condition → Type 0
  Side·condition j c = condition w s j ≡ c

  of : (P : Condition → Type 0) (j : Side) → All P cs → P (condition w s j)
  of P left a = all_head a
  of P right a = all_head (all_tail a)
  of P bottom a = all_head (all_tail (all_tail a))
  of P top a = all_head (all_tail (all_tail (all_tail a)))

  -- ---- k fixes f, as the start
  module _ (k : Condition) (member : (P : Condition → Type 0) → All P cs → P k) where
    comes_fixes : Fixes Inward f k → (j : Side) → ComesIn w s j → Fixes Inward f (condition w s j)
    comes_fixes x j h =
        let i = in_enters w s on j h in
        in_fixes k f m.time.den x.on (fixed_enters f m.time.den m.each k x) i.inward
        (of (λ c. (c.p *ℤ f.num) ≤ℤ (c.q *ℤ f.den)) j m.each)
        (member (λ c. (c.q *ℤ (condition w s j).p) ≤ℤ ((condition w s j).q *ℤ c.p)) i.inside)

    goes_fixes : Fixes Outward f k → (j : Side) → GoesOut w s j → Fixes Outward f (condition w s j)
    goes_fixes x j h =
        let o = out_leaves w s on j h in
        out_fixes k f m.time.den x.on (fixed_leaves f m.time.den m.each k x) o.outward
        (of (λ c. (c.p *ℤ f.num) ≤ℤ (c.q *ℤ f.den)) j m.each)
        (member (λ c. ((condition w s j).q *ℤ c.p) ≤ℤ (c.q *ℤ (condition w s j).p)) o.inside)

  fixes_comes : (j : Side) → Fixes Inward f (condition w s j) → ComesIn w s j
  fixes_comes j x = enters_in w s on j (fixed_enters f m.time.den m.each (condition w s j) x)

  fixes_goes : (j : Side) → Fixes Outward f (condition w s j) → GoesOut w s j
  fixes_goes j x = leaves_out w s on j (fixed_leaves f m.time.den m.each (condition w s j) x)

  -- ---- the first of the four, by the corners and by the fractions
  by_fractions : {Crossed : Side → Type 0} {Fixed : Condition → Type 0} → ((j : Side) → Crossed j → Fixed (condition w s j))
      → ((j : Side) → Fixed (condition w s j) → Crossed j) → {n : ℕ} → FirstOf Crossed four_sides n → FirstOf Fixed cs n
  by_fractions {Crossed} {Fixed} to from = first_each {R = Side·condition} (◌and◌ refl (◌and◌ refl (◌and◌ refl (◌and◌ refl none))))
      (λ j c q h. subst Fixed q (to j h)) (λ j c q x. from j (subst Fixed (sym q) x))

  by_corners : {Crossed : Side → Type 0} {Fixed : Condition → Type 0} → ((j : Side) → Crossed j → Fixed (condition w s j))
      → ((j : Side) → Fixed (condition w s j) → Crossed j) → {n : ℕ} → FirstOf Fixed cs n → FirstOf Crossed four_sides n
  by_corners {Crossed} {Fixed} to from = first_each {R = λ (c : Condition) (j : Side). Side·condition j c} (◌and◌ refl (◌and◌ refl (◌and◌ refl (◌and◌ refl none))))
      (λ c j q x. from j (subst Fixed (sym q) x)) (λ c j q h. subst Fixed q (to j h))

  module _ (k : Condition) (member : (P : Condition → Type 0) → All P cs → P k) {n : ℕ} where
    pub start_fixed : Fixes Inward f k → FirstOf (ComesIn w s) four_sides n → FirstOf (Fixes Inward f) cs n
    start_fixed x = by_fractions (comes_fixes k member x) fixes_comes

    pub end_fixed : Fixes Outward f k → FirstOf (GoesOut w s) four_sides n → FirstOf (Fixes Outward f) cs n
    end_fixed x = by_fractions (goes_fixes k member x) fixes_goes

  pub start_crossed : {n : ℕ} → FirstOf (Fixes Inward f) cs n → FirstOf (ComesIn w s) four_sides n
  start_crossed r = let k = pick r in by_corners (comes_fixes k.it k.member k.holds) fixes_comes r

  pub end_crossed : {n : ℕ} → FirstOf (Fixes Outward f) cs n → FirstOf (GoesOut w s) four_sides n
  end_crossed r = let k = pick r in by_corners (goes_fixes k.it k.member k.holds) fixes_goes r
