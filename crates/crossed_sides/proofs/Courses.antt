-- A course as two conditions: the side where it comes in and the one where it goes out, whichever of the two is the lower. So what is said of all four
-- sides of a window is said once for each course, and no direction is a case of its own.
use mathlib.Core.Path.{◌≡◌, refl, sym, subst}
use mathlib.Core.List.{[], ◌∷◌}
use mathlib.Core.Logic.{⊎_elim}
use lib.IntN.{ℤ, pos, negsuc, neg_ℤ, ◌-ℤ◌}
use lib.Signed.{◌≤ℤ◌, ◌<ℤ◌}
use Rattle.whole.specs.Within.{Within}
use Rattle.whole.proofs.Certificates.{gt, eqn, eq_by, lt}
use Rattle.whole.proofs.Expressions.{con, ◌⊖◌, neg, x0, x1, x2}
use Rattle.whole.proofs.Order.{zarith, ≤_diff, <_diff, diff-<, <→≤, ≤_total, ≤_antisym}
use Rattle.whole.proofs.Polynomials.{ring}
use Rattle.whole.proofs.Ranges.{within}
use Rattle.grid.specs.Table.{farthest}
use Rattle.spans.specs.Sides.{Condition}
use Rattle.crossed_sides.specs.declared.Course.{Course}
use Rattle.crossed_sides.specs.Workers.{CourseOf, up, down}

abbrev pub in_of : Course → Condition
in_of c = record { p = neg_ℤ c.long; q = neg_ℤ c.near }

abbrev pub out_of : Course → Condition
out_of c = record { p = c.long; q = c.far }

-- the conditions of the side lo and of the side hi on the way from a to b
abbrev low : ℤ → ℤ → ℤ → Condition
low lo a b = record { p = neg_ℤ (b -ℤ a); q = a -ℤ lo }

abbrev high : ℤ → ℤ → ℤ → Condition
high hi a b = record { p = b -ℤ a; q = hi -ℤ a }

pub data Facing (lo hi a b : ℤ) (c : Course) : Type 0 where
  rising : a ≤ℤ b → low lo a b ≡ in_of c → high hi a b ≡ out_of c → Facing lo hi a b c
  falling : b <ℤ a → low lo a b ≡ out_of c → high hi a b ≡ in_of c → Facing lo hi a b c

turned : (a b : ℤ) → a -ℤ b ≡ neg_ℤ (b -ℤ a)
turned a b = ring (a ∷ b ∷ []) (x0 ⊖ x1) (neg (x1 ⊖ x0)) tt

pub facing : {lo hi a b : ℤ} {c : Course} → CourseOf lo hi a b c → Facing lo hi a b c
facing {lo} {hi} {a} {b} (up h) = rising h (λ i. record { p = neg_ℤ (b -ℤ a); q = turned a lo i }) refl
facing {lo} {hi} {a} {b} (down h) =
    falling h (λ i. record { p = sym (turned a b) i; q = a -ℤ lo }) (λ i. record { p = turned b a i; q = turned hi a i })

-- what holds of the two holds of the low side and of the high one
pub both : {lo hi a b : ℤ} {c : Course} (P : Condition → Type 0) → Facing lo hi a b c → P (in_of c) → P (out_of c) → P (low lo a b) × P (high hi a b)
both P (rising h l u) i o = (subst P (sym l) i, subst P (sym u) o)
both P (falling h l u) i o = (subst P (sym l) o, subst P (sym u) i)

-- and the other way
module _ {lo hi a b : ℤ} {c : Course} (P : Condition → Type 0) where
  pub of_in : Facing lo hi a b c → P (low lo a b) → P (high hi a b) → P (in_of c)
  of_in (rising h l u) p q = subst P l p
  of_in (falling h l u) p q = subst P u q

  pub of_out : Facing lo hi a b c → P (low lo a b) → P (high hi a b) → P (out_of c)
  of_out (rising h l u) p q = subst P u q
  of_out (falling h l u) p q = subst P l p

-- ---- how long it is, and where its sides are
pub not_back : {lo hi a b : ℤ} {c : Course} → CourseOf lo hi a b c → pos 0 ≤ℤ c.long
not_back (up h) = ≤_diff h
not_back (down h) = <→≤ (<_diff h)

unequal : {y z : ℤ} → y ≤ℤ z → (y ≡ z → ⊥) → y <ℤ z
unequal {y} {z} l n = ⊎_elim (λ k. absurd (n (≤_antisym l k))) (λ k. k) (≤_total z y)

pub some_way : {lo hi a b : ℤ} {c : Course} → CourseOf lo hi a b c → (a ≡ b → ⊥) → pos 0 <ℤ c.long
some_way (up h) n = <_diff (unequal h n)
some_way (down h) n = <_diff h

pub plumb_long : {lo hi a b : ℤ} {c : Course} → CourseOf lo hi a b c → a ≡ b → c.long ≡ pos 0
plumb_long {lo} {hi} {a} {b} (up h) e = eq_by (a ∷ b ∷ []) (x1 ⊖ x0) (con (pos 0)) (eqn (con (negsuc 0)) x0 x1 e) tt
plumb_long {lo} {hi} {a} {b} (down h) e = absurd (omega zarith)

pub forth : {lo hi a b : ℤ} {c : Course} → CourseOf lo hi a b c → a ≤ℤ b → pos 0 <ℤ c.long → a <ℤ b
forth (up h) l p = diff-< p
forth (down h) l p = absurd (omega zarith)

pub in_order : {lo hi a b : ℤ} {c : Course} → lo <ℤ hi → CourseOf lo hi a b c → c.near <ℤ c.far
in_order {lo} {hi} {a} l (up h) = gt (lo ∷ hi ∷ a ∷ []) (x0 ⊖ x2) (x1 ⊖ x2) (lt x0 x1 l) tt
in_order {lo} {hi} {a} l (down h) = gt (lo ∷ hi ∷ a ∷ []) (x2 ⊖ x1) (x2 ⊖ x0) (lt x0 x1 l) tt

gap : {y z : ℤ} → Within farthest y → Within farthest z → Within 32766 (y -ℤ z)
gap {y} {z} hy hz = within (farthest ∷ farthest ∷ []) (y ∷ z ∷ []) (hy, (hz, tt)) (x0 ⊖ x1) tt

pub small : {lo hi a b : ℤ} {c : Course} → Within farthest lo → Within farthest hi → Within farthest a → Within farthest b → CourseOf lo hi a b c
    → Within 32766 c.long × (Within 32766 c.near × Within 32766 c.far)
small wl wh wa wb (up h) = (gap wb wa, (gap wl wa, gap wh wa))
small wl wh wa wb (down h) = (gap wa wb, (gap wa wh, gap wa wl))

pub sides_on_table : {lo hi a b : ℤ} {c : Course} → Within farthest lo → Within farthest hi → CourseOf lo hi a b c
    → Within farthest c.at × Within farthest c.to
sides_on_table wl wh (up h) = (wl, wh)
sides_on_table wl wh (down h) = (wh, wl)
