-- The sides where the line comes in and goes out are those that the two products tell: of the two sides in question the point on one lies inside the other,
-- and the corner between them says of which. And where the two corners that lie farthest apart are on one side of the line, all four are.
use mathlib.Core.Path.{◌≡◌, refl, sym, subst}
use mathlib.Core.Bool.{Bool, true, false}
use mathlib.Core.List.{List, [], ◌∷◌}
use mathlib.Core.Logic.{⊎_elim}
use Prim.Native.Nat.{ℕ}
use lib.IntN.{ℤ, pos, negsuc, neg_ℤ, ◌*ℤ◌}
use lib.Signed.{◌≤ℤ◌, ◌<ℤ◌, lt_z}
use Rattle.whole.proofs.Certificates.{ge, gt, clash, eq, po, nn, nat, le, lt, ◌⊞◌, ◌⊠◌}
use Rattle.whole.proofs.Comparisons.{by-test, lt_yes, lt_no}
use Rattle.whole.proofs.Expressions.{Expr, Env, means, var, con, ◌⊖◌, ◌⊗◌, neg, x0}
use Rattle.whole.proofs.Order.{zarith, <→≤, ≤_total}
use Rattle.grid.specs.declared.Stroke.{Stroke}
use Rattle.grid.specs.declared.Window.{Window}
use Rattle.grid.specs.Sides.{Side, left, right, bottom, top}
use Rattle.grid.specs.Table.{WindowOnTable}
use Rattle.rings.specs.Lists.{All, ∅, ◌◂◌}
use Rattle.rings.proofs.Lists.{all_head, all_tail}
use Rattle.spans.specs.Sides.{Condition, FirstOf, here, later}
use Rattle.strokes.specs.Sides.{condition, conditions, four_sides}
use Rattle.strokes.specs.Workers.{side_met}
use Rattle.crossed_sides.specs.declared.Course.{Course}
use Rattle.crossed_sides.specs.Line.{ComesIn, GoesOut, entry_side, exit_side}
use Rattle.crossed_sides.specs.Workers.{CourseOf, HasLength, LevelIf, plumb, less, not_less}
use Rattle.crossed_sides.proofs.Corners.{Enters, Leaves, in_enters, out_leaves, enters_in, leaves_out}
use Rattle.crossed_sides.proofs.Courses.{in_of, out_of, Facing, rising, falling, facing, both, of_in, of_out, not_back, some_way, plumb_long, forth, in_order}

-- ---- two courses: a side of the first, and the order in which the lines of all four are met, by the numbers of the courses
module _ (x y : Course) where
  abbrev ρ : Env
  ρ = x.long ∷ x.near ∷ x.far ∷ y.long ∷ y.near ∷ y.far ∷ []

  abbrev X : Expr
  X = var 0

  abbrev Y : Expr
  Y = var 3

  -- where the one comes in and goes out, and the other, each times both lengths
  abbrev own_in : Expr
  own_in = Y ⊗ var 1

  abbrev own_out : Expr
  own_out = Y ⊗ var 2

  abbrev other_in : Expr
  other_in = X ⊗ var 4

  abbrev other_out : Expr
  other_out = X ⊗ var 5

  module _ (forth : pos 0 <ℤ x.long) (wide : x.near <ℤ x.far) where
    entering : {cs : List Condition} → ((P : Condition → Type 0) → P (in_of x) → P (out_of x) → P (in_of y) → P (out_of y) → All P cs)
        → means ρ other_in ≤ℤ means ρ own_in → means ρ own_in ≤ℤ means ρ other_out → Enters cs (in_of x)
    entering each l m = record {
      inward = gt ρ (neg X) (con (pos 0)) (po X forth) tt;
      inside = each (λ (c : Condition). (c.q *ℤ neg_ℤ x.long) ≤ℤ (neg_ℤ x.near *ℤ c.p))
          (ge ρ (neg (var 1) ⊗ neg X) (neg (var 1) ⊗ neg X) (nat 0) tt)
          (ge ρ (var 2 ⊗ neg X) (neg (var 1) ⊗ X) (po X forth ⊠ lt (var 1) (var 2) wide) tt)
          (ge ρ (neg (var 4) ⊗ neg X) (neg (var 1) ⊗ neg Y) (le other_in own_in l) tt)
          (ge ρ (var 5 ⊗ neg X) (neg (var 1) ⊗ Y) (le own_in other_out m) tt);
    }

    leaving : {cs : List Condition} → ((P : Condition → Type 0) → P (in_of x) → P (out_of x) → P (in_of y) → P (out_of y) → All P cs)
        → means ρ own_out ≤ℤ means ρ other_out → means ρ other_in ≤ℤ means ρ own_out → Leaves cs (out_of x)
    leaving each l m = record {
      outward = forth;
      inside = each (λ (c : Condition). (x.far *ℤ c.p) ≤ℤ (c.q *ℤ x.long))
          (ge ρ (var 2 ⊗ neg X) (neg (var 1) ⊗ X) (po X forth ⊠ lt (var 1) (var 2) wide) tt)
          (ge ρ (var 2 ⊗ X) (var 2 ⊗ X) (nat 0) tt)
          (ge ρ (var 2 ⊗ neg Y) (neg (var 4) ⊗ X) (le other_in own_out m) tt)
          (ge ρ (var 2 ⊗ Y) (var 5 ⊗ X) (le own_out other_out l) tt);
    }

  -- a course whose side is met at another place than one of the other course has a length
  has_way : x.near <ℤ x.far → means ρ own_in <ℤ means ρ own_out → pos 0 <ℤ y.long
  has_way wide l = ⊎_elim
      (λ h. absurd (clash ρ (lt own_in own_out l ⊞ le Y (con (pos 0)) h ⊠ lt (var 1) (var 2) wide) tt))
      (λ h. h) (≤_total y.long (pos 0))

-- the number of the side that a way meets, by its direction
module _ {a b : ℤ} (i j : ℕ) where
  pub met_low : a ≤ℤ b → side_met a b i j ≡ i
  met_low h = by-test (lt_z b a) (λ n. n ≡ i) (λ e. let d : b <ℤ a = lt_yes refl refl e in absurd (omega zarith)) (λ e. refl)

  pub met_high : b <ℤ a → side_met a b i j ≡ j
  met_high h = by-test (lt_z b a) (λ n. n ≡ j) (λ e. refl) (λ e. let d : a ≤ℤ b = lt_no refl refl e in absurd (omega zarith))

-- no course goes back
not_out_in : (c : Course) {cs : List Condition} → pos 0 ≤ℤ c.long → Enters cs (out_of c) → ⊥
not_out_in c h e = let i = e.inward in omega zarith

pub not_in_out : (c : Course) {cs : List Condition} → pos 0 ≤ℤ c.long → Leaves cs (in_of c) → ⊥
not_in_out c h e = clash (c.long ∷ []) (nn x0 h ⊞ po (neg x0) e.outward) tt

module _ (w : Window) (s : Stroke) where
  abbrev cs : List Condition
  cs = conditions w s

  -- ---- the first of the four sides of which P holds, where E says the same of their conditions
  module _ (P : Side → Type 0) (E : Condition → Type 0) (to : (k : Side) → E (condition w s k) → P k) (from : (k : Side) → P k → E (condition w s k)) where
    holds : (k : Side) {c : Condition} → condition w s k ≡ c → E c → P k
    holds k e h = to k (subst E (sym e) h)

    fails : (k : Side) {c : Condition} → condition w s k ≡ c → (E c → ⊥) → P k → ⊥
    fails k e n h = n (subst E e (from k h))

    -- an upright side: that of the condition c, not that of d
    low_upright : {c : Condition} → condition w s left ≡ c → E c → FirstOf P four_sides 0
    low_upright e h = here (holds left e h)

    high_upright : {c d : Condition} → condition w s left ≡ d → condition w s right ≡ c → (E d → ⊥) → E c → FirstOf P four_sides 1
    high_upright l r n h = later (fails left l n) (here (holds right r h))

    -- a level one, where P holds of no upright one
    module _ (l : P left → ⊥) (r : P right → ⊥) where
      low_level : {c : Condition} → condition w s bottom ≡ c → E c → FirstOf P four_sides 2
      low_level e h = later l (later r (here (holds bottom e h)))

      high_level : {c d : Condition} → condition w s bottom ≡ d → condition w s top ≡ c → (E d → ⊥) → E c → FirstOf P four_sides 3
      high_level b t n h = later l (later r (later (fails bottom b n) (here (holds top t h))))

  module _ {x y : Course} (on : WindowOnTable w) (len : HasLength s)
      (cx : CourseOf w.left w.right s.x1 s.x2 x) (cy : CourseOf w.bottom w.top s.y1 s.y2 y)
      (m : (y.long *ℤ x.near) ≤ℤ (x.long *ℤ y.far)) (n : (x.long *ℤ y.near) ≤ℤ (y.long *ℤ x.far)) where
    fx : Facing w.left w.right s.x1 s.x2 x
    fx = facing cx

    fy : Facing w.bottom w.top s.y1 s.y2 y
    fy = facing cy

    each : (P : Condition → Type 0) → P (in_of x) → P (out_of x) → P (in_of y) → P (out_of y) → All P cs
    each P i o j p = let a = both P fx i o in let b = both P fy j p in a.0 ◂ a.1 ◂ b.0 ◂ b.1 ◂ ∅

    -- ---- coming in
    abbrev In : Condition → Type 0
    In c = Enters cs c

    comes_from : (k : Side) → ComesIn w s k → In (condition w s k)
    comes_from = in_enters w s on

    comes_to : (k : Side) → In (condition w s k) → ComesIn w s k
    comes_to = enters_in w s on

    not_out_x : In (out_of x) → ⊥
    not_out_x = not_out_in x (not_back cx)

    not_out_y : In (out_of y) → ⊥
    not_out_y = not_out_in y (not_back cy)

    -- the first of the sides, by its number
    abbrev FirstIn : ℕ → Type 0
    FirstIn = FirstOf (ComesIn w s) four_sides

    upright_entry : In (in_of x) → FirstIn (entry_side s false)
    upright_entry e = go fx
      where
        go : Facing w.left w.right s.x1 s.x2 x → FirstIn (entry_side s false)
        go (rising h l r) = subst FirstIn (sym (met_low 0 1 h)) (low_upright (ComesIn w s) In comes_to comes_from l e)
        go (falling h l r) = subst FirstIn (sym (met_high 0 1 h)) (high_upright (ComesIn w s) In comes_to comes_from l r not_out_x e)

    level_entry : (In (in_of x) → ⊥) → In (in_of y) → FirstIn (entry_side s true)
    level_entry a e = go fy
      where
        upright : (ComesIn w s left → ⊥) × (ComesIn w s right → ⊥)
        upright = let k = both (λ c. In c → ⊥) fx a not_out_x in (λ h. k.0 (comes_from left h), λ h. k.1 (comes_from right h))

        go : Facing w.bottom w.top s.y1 s.y2 y → FirstIn (entry_side s true)
        go (rising h b t) = subst FirstIn (sym (met_low 2 3 h)) (low_level (ComesIn w s) In comes_to comes_from upright.0 upright.1 b e)
        go (falling h b t) =
            subst FirstIn (sym (met_high 2 3 h)) (high_level (ComesIn w s) In comes_to comes_from upright.0 upright.1 b t not_out_y e)

    -- what is true of the point where the line comes in over the upright side, at the level one
    at_level : In (in_of x) → (x.long *ℤ y.near) ≤ℤ (y.long *ℤ x.near)
    at_level e =
        let k = e.inside in
        let h = of_in (λ c. (c.q *ℤ neg_ℤ x.long) ≤ℤ (neg_ℤ x.near *ℤ c.p)) fy (all_head (all_tail (all_tail k))) (all_head (all_tail (all_tail (all_tail k)))) in
        ge (ρ x y) (other_in x y) (own_in x y) (le (neg (var 4) ⊗ neg (var 0)) (neg (var 1) ⊗ neg (var 3)) h) tt

    pub entry : {t : Bool} → LevelIf s (y.long *ℤ x.near) (x.long *ℤ y.near) t → FirstIn (entry_side s t)
    entry (plumb e) =
        let z = plumb_long cx e in
        level_entry (λ a. let i = a.inward in clash (x.long ∷ []) (lt (neg x0) (con (pos 0)) i ⊞ eq (con (negsuc 0)) x0 (con (pos 0)) z) tt)
        (entering y x (some_way cy (len e)) (in_order on.tall cy) (λ P i o j p. each P j p i o)
        (ge (ρ x y) (own_in x y) (other_in x y) (le (own_in x y) (other_out x y) m ⊞ eq (var 4 ⊖ var 5) (var 0) (con (pos 0)) z) tt) n)
    entry (less k l) =
        level_entry (λ a. let h = at_level a in omega zarith)
        (entering y x (has_way x y (in_order on.wide cx) (omega (zarith, l, n))) (in_order on.tall cy) (λ P i o j p. each P j p i o) (<→≤ l) n)
    entry (not_less k l) = upright_entry (entering x y (some_way cx k) (in_order on.wide cx) each l m)

    -- ---- going out
    abbrev Out : Condition → Type 0
    Out c = Leaves cs c

    goes_from : (k : Side) → GoesOut w s k → Out (condition w s k)
    goes_from = out_leaves w s on

    goes_to : (k : Side) → Out (condition w s k) → GoesOut w s k
    goes_to = leaves_out w s on

    not_in_x : Out (in_of x) → ⊥
    not_in_x = not_in_out x (not_back cx)

    not_in_y : Out (in_of y) → ⊥
    not_in_y = not_in_out y (not_back cy)

    abbrev FirstOut : ℕ → Type 0
    FirstOut = FirstOf (GoesOut w s) four_sides

    upright_exit : Out (out_of x) → FirstOut (exit_side s false)
    upright_exit e = go fx
      where
        go : Facing w.left w.right s.x1 s.x2 x → FirstOut (exit_side s false)
        go (rising h l r) = subst FirstOut (sym (met_high 0 1 (forth cx h e.outward))) (high_upright (GoesOut w s) Out goes_to goes_from l r not_in_x e)
        go (falling h l r) = subst FirstOut (sym (met_low 0 1 (<→≤ h))) (low_upright (GoesOut w s) Out goes_to goes_from l e)

    level_exit : (Out (out_of x) → ⊥) → Out (out_of y) → FirstOut (exit_side s true)
    level_exit a e = go fy
      where
        upright : (GoesOut w s left → ⊥) × (GoesOut w s right → ⊥)
        upright = let k = both (λ c. Out c → ⊥) fx not_in_x a in (λ h. k.0 (goes_from left h), λ h. k.1 (goes_from right h))

        go : Facing w.bottom w.top s.y1 s.y2 y → FirstOut (exit_side s true)
        go (rising h b t) =
            subst FirstOut (sym (met_high 2 3 (forth cy h e.outward))) (high_level (GoesOut w s) Out goes_to goes_from upright.0 upright.1 b t not_in_y e)
        go (falling h b t) =
            subst FirstOut (sym (met_low 2 3 (<→≤ h))) (low_level (GoesOut w s) Out goes_to goes_from upright.0 upright.1 b e)

    beyond_level : Out (out_of x) → (y.long *ℤ x.far) ≤ℤ (x.long *ℤ y.far)
    beyond_level e =
        let k = e.inside in
        let h = of_out (λ c. (x.far *ℤ c.p) ≤ℤ (c.q *ℤ x.long)) fy (all_head (all_tail (all_tail k))) (all_head (all_tail (all_tail (all_tail k)))) in
        ge (ρ x y) (own_out x y) (other_out x y) (le (var 2 ⊗ var 3) (var 5 ⊗ var 0) h) tt

    pub exit : {t : Bool} → LevelIf s (x.long *ℤ y.far) (y.long *ℤ x.far) t → FirstOut (exit_side s t)
    exit (plumb e) =
        let z = plumb_long cx e in
        level_exit (λ a. let o = a.outward in omega zarith)
        (leaving y x (some_way cy (len e)) (in_order on.tall cy) (λ P i o j p. each P j p i o)
        (ge (ρ x y) (other_out x y) (own_out x y) (le (other_in x y) (own_out x y) n ⊞ eq (var 4 ⊖ var 5) (var 0) (con (pos 0)) z) tt) m)
    exit (less k l) =
        level_exit (λ a. let h = beyond_level a in omega zarith)
        (leaving y x (has_way x y (in_order on.wide cx) (omega (zarith, m, l))) (in_order on.tall cy) (λ P i o j p. each P j p i o) (<→≤ l) m)
    exit (not_less k l) = upright_exit (leaving x y (some_way cx k) (in_order on.wide cx) each l n)
