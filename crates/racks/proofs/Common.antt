-- What two strips have in common, from left to right or from bottom to top, is from the greater of their beginnings to the lesser of their ends. It
-- is above 0 both ways just where they share area; a vacant place begins where no strip has its end.
use mathlib.Core.Path.{◌≡◌, refl, ◌∙◌}
use mathlib.Core.Logic.{⊎_elim}
use mathlib.Core.Bool.{Bool, true, false, ◌&&◌, ◌||◌}
use Prim.Native.Nat.{◌^◌, ◌<◌}
use lib.Ieee.Bits.{is_true}
use lib.IntN.{ℤ, pos, negsuc, ◌-ℤ◌}
use lib.Signed.{◌≤ℤ◌, ◌<ℤ◌, lt_z, mag}
use mir.Syntax.{w16}
use mir.Val.{SFits, to_z, of_z}
use Rattle.whole.specs.Extremes.{lesser, greater}
use Rattle.whole.specs.Within.{Within}
use Rattle.whole.proofs.Comparisons.{by-test, same_test, lt_yes, lt_no, back, fits_range}
use Rattle.std.specs.Int.{int_min, int_max}
use Rattle.whole.proofs.Extremes.{min_is, max_is, lesser_below, lesser_least, greater_above, greater_least}
use Rattle.whole.proofs.Order.{zarith, sub_is, <_diff, ≤_total}
use Rattle.grid.specs.Table.{farthest, WindowOnTable}
use Rattle.grid.specs.declared.Window.{Window}
use Rattle.racks.specs.Areas.{shares_area}

-- ---- tests of the lesser and the greater of two numbers
module _ {a b c : ℤ} where
  lt_lesser : c <ℤ a → c <ℤ b → c <ℤ lesser a b
  unfolding lesser
  lt_lesser h k = by-test (lt_z b a) (λ (r : ℤ). c <ℤ r) (λ _. k) (λ _. h)

  greater_lt : a <ℤ c → b <ℤ c → greater a b <ℤ c
  unfolding greater
  greater_lt h k = by-test (lt_z a b) (λ (r : ℤ). r <ℤ c) (λ _. k) (λ _. h)

-- one test that is true just where two others are
and_test : {a b c d e f : ℤ} → (a <ℤ b → (c <ℤ d) × (e <ℤ f)) → (c <ℤ d → e <ℤ f → a <ℤ b) → lt_z a b ≡ (lt_z c d && lt_z e f)
and_test {a} {b} {c} {d} {e} {f} h k = go (lt_z c d) refl
  where
    go : (t : Bool) → lt_z c d ≡ t → lt_z a b ≡ (t && lt_z e f)
    go true p = same_test {a = a} {b = b} {c = e} {d = f} (λ l. (h l).1) (k (lt_yes refl refl p))
    go false p =
        let m : d ≤ℤ c = lt_no refl refl p in
        same_test {a = a} {b = b} {c = pos 0} {d = pos 0} (λ l. let q = (h l).0 in absurd (omega zarith)) (λ l. absurd (omega zarith))

lesser_test : (a b : ℤ) → lt_z (pos 0) (lesser a b) ≡ (lt_z (pos 0) a && lt_z (pos 0) b)
lesser_test a b = and_test {a = pos 0} {b = lesser a b} {c = pos 0} {d = a} {e = pos 0} {f = b}
    (λ l. let p = lesser_below {a = a} {b = b} refl in (omega zarith, omega zarith)) lt_lesser

pub greater_test : (x a b : ℤ) → lt_z x (greater a b) ≡ (lt_z x b || lt_z x a)
greater_test x a b = go (lt_z x b) refl
  where
    go : (t : Bool) → lt_z x b ≡ t → lt_z x (greater a b) ≡ (t || lt_z x a)
    go true p =
        let l : x <ℤ b = lt_yes refl refl p in
        let u = greater_above {a = a} {b = b} refl in
        let m : x <ℤ greater a b = omega zarith in
        is_true (lt_z x (greater a b)) m.lt
    go false p =
        let m : b ≤ℤ x = lt_no refl refl p in
        same_test {a = x} {b = greater a b} {c = x} {d = a}
        (λ l. ⊎_elim (λ k. let u = greater_least {a = a} {b = b} refl x k m in absurd (omega zarith)) (λ k. k) (≤_total a x))
        (λ l. let u = greater_above {a = a} {b = b} refl in omega zarith)

-- ---- the part that two spans have in common, from a to b and from x to y
module _ (a b x y : ℤ) where
  common : a <ℤ b → (x <ℤ b → x <ℤ y) → lt_z (pos 0) (lesser b y -ℤ greater a x) ≡ (lt_z a y && lt_z x b)
  common h long =
      let l = lesser_below {a = b} {b = y} refl in
      let g = greater_above {a = a} {b = x} refl in
      and_test {a = pos 0} {b = lesser b y -ℤ greater a x} {c = a} {d = y} {e = x} {f = b}
      (λ p. (omega (zarith, sub_is (lesser b y) (greater a x)), omega (zarith, sub_is (lesser b y) (greater a x))))
      (λ p q. <_diff (lt_lesser (greater_lt h q) (greater_lt p (long q))))

  common_fits : Within farthest a → Within farthest b → Within 16384 x → Within 16384 y → SFits w16 (lesser b y -ℤ greater a x)
  common_fits ha hb hx hy =
      let l = lesser_below {a = b} {b = y} refl in
      let u = lesser_least {a = b} {b = y} refl (negsuc 16383) (omega (zarith, hb.low)) hy.low in
      let g = greater_above {a = a} {b = x} refl in
      let k = greater_least {a = a} {b = x} refl (pos 16384) (omega (zarith, ha.high)) hx.high in
      fits_range
      (omega (zarith, sub_is (lesser b y) (greater a x)))
      (omega (zarith, sub_is (lesser b y) (greater a x), hb.high, ha.low))

  -- as the program has it, from numbers that it read
  pub read_place : mag x < 2 ^ 15 → mag y < 2 ^ 15
      → lesser b (to_z w16 (of_z w16 y)) -ℤ greater a (to_z w16 (of_z w16 x)) ≡ lesser b y -ℤ greater a x
  read_place hx hy = λ i. lesser b (back w16 y hy i) -ℤ greater a (back w16 x hx i)

  pub read_both : mag a < 2 ^ 15 → mag b < 2 ^ 15 → mag x < 2 ^ 15 → mag y < 2 ^ 15
      → lesser (to_z w16 (of_z w16 b)) (to_z w16 (of_z w16 y)) -ℤ greater (to_z w16 (of_z w16 a)) (to_z w16 (of_z w16 x)) ≡ lesser b y -ℤ greater a x
  read_both ha hb hx hy = λ i. lesser (back w16 b hb i) (back w16 y hy i) -ℤ greater (back w16 a ha i) (back w16 x hx i)

-- ---- the lesser and the greater of two numbers, as the program has them
module _ (a b : ℤ) (ha : mag a < 2 ^ 15) (hb : mag b < 2 ^ 15) where
  pub min_read : (r : ℤ) → mag r < 2 ^ 15 → r ≡ int_min (to_z w16 (of_z w16 a)) (to_z w16 (of_z w16 b)) → to_z w16 (of_z w16 r) ≡ lesser a b
  min_read r h e = back w16 r h ∙ e ∙ (λ i. int_min (back w16 a ha i) (back w16 b hb i)) ∙ min_is a b

  pub max_read : (r : ℤ) → mag r < 2 ^ 15 → r ≡ int_max (to_z w16 (of_z w16 a)) (to_z w16 (of_z w16 b)) → to_z w16 (of_z w16 r) ≡ greater a b
  max_read r h e = back w16 r h ∙ e ∙ (λ i. int_max (back w16 a ha i) (back w16 b hb i)) ∙ max_is a b

-- ---- a strip v, and what stands at a place of a rack
abbrev pub across : Window → Window → ℤ
across v s = lesser v.right s.right -ℤ greater v.left s.left

abbrev pub upward : Window → Window → ℤ
upward v s = lesser v.top s.top -ℤ greater v.bottom s.bottom

-- v can be compared with the place: its numbers are small, and where it begins before v ends, it has a width or a height
pub record Comparable (v s : Window) : Type 0 where
  pub left : Within 16384 s.left
  pub bottom : Within 16384 s.bottom
  pub right : Within 16384 s.right
  pub top : Within 16384 s.top
  pub wide : s.left <ℤ v.right → s.left <ℤ s.right
  pub tall : s.bottom <ℤ v.top → s.bottom <ℤ s.top

and_assoc : (a b c : Bool) → (a && (b && c)) ≡ (a && b && c)
and_assoc true b c = refl
and_assoc false b c = refl

module _ {v s : Window} (on : WindowOnTable v) (at : Comparable v s) where
  pub across_fits : SFits w16 (across v s)
  across_fits = common_fits _ _ _ _ on.left on.right at.left at.right

  pub upward_fits : SFits w16 (upward v s)
  upward_fits = common_fits _ _ _ _ on.bottom on.top at.bottom at.top

  pub share_test : lt_z (pos 0) (lesser (across v s) (upward v s)) ≡ shares_area v s
  unfolding shares_area
  share_test =
      lesser_test (across v s) (upward v s) ∙ (λ i. common _ _ _ _ on.wide at.wide i && common _ _ _ _ on.tall at.tall i)
      ∙ and_assoc (lt_z v.left s.right && lt_z s.left v.right) (lt_z v.bottom s.top) (lt_z s.bottom v.top)

-- ---- two strips share area, whichever of them comes first
pub turned : (v w : Window) → shares_area v w ≡ shares_area w v
unfolding shares_area
turned v w = exchanged (lt_z v.left w.right) (lt_z w.left v.right) (lt_z v.bottom w.top) (lt_z w.bottom v.top)
  where
    both : (c d : Bool) → (c && d) ≡ (d && c)
    both true true = refl
    both true false = refl
    both false true = refl
    both false false = refl

    exchanged : (a b c d : Bool) → (a && b && c && d) ≡ (b && a && d && c)
    exchanged true true c d = both c d
    exchanged true false c d = refl
    exchanged false true c d = refl
    exchanged false false c d = refl
