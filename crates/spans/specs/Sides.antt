-- Which side of a window fixed an end of what is kept of a stroke. A side is a condition on the fraction t of the stroke's way; the conditions
-- of a window stand in a list, in the order of the sides' numbers, which count from 0.
--   Condition            the p and the q of a side: at t the stroke is inside the side where p·t < q, and on its line where p·t = q
--   MeetsAll cs n d      n/d is a fraction from 0 to 1 that meets every condition p·t ≤ q of cs
--   Inward, Outward p    as t grows the stroke goes towards the inner side of the line of p, or towards its outer side; where p is 0 it goes along the
--                        line, near it or far from it, or has no length
--   Fixes Towards f c    the stroke is on the line of c at f, and crosses it there Inward or Outward, as Towards says
--   FirstOf P cs k       of the members of cs of which P holds, the first has the number k
--   no_side               255, a number that no side has: the end is the stroke's own, or nothing is kept
--   SideNamed own P cs k   k is no_side where `own` holds, else the least number of a side of which P holds
--   StartSide cs f k     k names the side that fixed the start f of what is kept: one that the stroke crosses inward; where f is 0 the stroke's own start
--                        remains
--   EndSide cs f k       k names the side that fixed its end f: one that the stroke crosses outward; where f is 1 the stroke's own end remains
--   OwnEnds n kept t0 t1 i j   an answer that names the sides i and j for t0 and t1 has no_side for i exactly where t0 is 0/1, as it is where nothing is
--                        kept, and for j exactly where t1 is 1/1 or nothing is kept; every other number is one of n sides
use Rattle.std.specs.Prelude.{◌≡◌, Bool, false, List, ◌∷◌, ◌⊎◌, ◌↔◌, ℕ, suc, ◌<◌, ℤ, pos, ◌*ℤ◌, ◌≤ℤ◌, ◌<ℤ◌}
use Rattle.fraction.specs.declared.Fraction.{Fraction}
use Rattle.rings.specs.Lists.{All}
use Rattle.spans.specs.Parts.{Time, zeroth, unit}

pub record Condition : Type 0 where
  pub p : ℤ
  pub q : ℤ

pub record MeetsAll (cs : List Condition) (n d : ℤ) : Type 0 where
  pub time : Time n d
  pub each : All (λ (c : Condition). (c.p *ℤ n) ≤ℤ (c.q *ℤ d)) cs

abbrev pub Inward : ℤ → Type 0
Inward p = p <ℤ pos 0

abbrev pub Outward : ℤ → Type 0
Outward p = pos 0 <ℤ p

pub record Fixes (Towards : ℤ → Type 0) (f : Fraction) (c : Condition) : Type 0 where
  pub crosses : Towards c.p
  pub on : c.p *ℤ f.num ≡ c.q *ℤ f.den

pub data FirstOf {A : Type 0} (P : A → Type 0) : List A → ℕ → Type 0 where
  here : {x : A} {xs : List A} → P x → FirstOf P (x ∷ xs) 0
  later : {x : A} {xs : List A} {k : ℕ} → (P x → ⊥) → FirstOf P xs k → FirstOf P (x ∷ xs) (suc k)

abbrev pub no_side : ℕ
no_side = 255

pub record SideNamed (own : Type 0) (P : Condition → Type 0) (cs : List Condition) (k : ℕ) : Type 0 where
  pub remains : own → k ≡ no_side
  pub fixed : (own → ⊥) → FirstOf P cs k

abbrev pub StartSide : List Condition → Fraction → ℕ → Type 0
StartSide cs f k = SideNamed (f.num ≡ pos 0) (Fixes Inward f) cs k

abbrev pub EndSide : List Condition → Fraction → ℕ → Type 0
EndSide cs f k = SideNamed (f.num ≡ f.den) (Fixes Outward f) cs k

pub record OwnEnds (n : ℕ) (kept : Bool) (t0 t1 : Fraction) (i j : ℕ) : Type 0 where
  pub start : (i ≡ no_side) ↔ (t0 ≡ zeroth)
  pub end : (j ≡ no_side) ↔ ((t1 ≡ unit) ⊎ (kept ≡ false))
  pub start_side : (i ≡ no_side → ⊥) → i < n
  pub end_side : (j ≡ no_side → ⊥) → j < n
