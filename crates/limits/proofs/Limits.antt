-- A limit: that of a side is the side's line, and its tests tell where a corner lies.
use mathlib.Core.Path.{◌≡◌, refl, sym, ap, ◌∙◌, subst}
use mathlib.Core.Bool.{Bool, true, false, not, beq}
use mathlib.Core.List.{List, [], ◌∷◌}
use mathlib.Core.Logic.{◌↔◌}
use Prim.Native.Nat.{ℕ, zero, suc, ◌+◌, ◌*◌, ◌/◌, ◌%◌, ◌<◌, ◌≤◌}
use native.Mathlib.Nat.{add-zero}
use native.Mathlib.Omega.{arith}
use borrow.Author.Tests.{eqb-true, eqb-false}
use lib.Dec.{eqb}
use lib.IntN.{ℤ, pos, negsuc, ◌-ℤ◌}
use lib.ListN.{get_or}
use lib.Signed.{lt_z}
use mir.Syntax.{w32}
use mir.Val.{SFits, of_z}
use Rattle.whole.specs.Choice.{Decides}
use Rattle.whole.specs.Within.{Within}
use Rattle.whole.proofs.Expressions.{Expr, Env, means, var, con, ◌⊕◌, ◌⊖◌, ◌⊗◌, neg}
use Rattle.whole.proofs.Polynomials.{ring}
use Rattle.whole.proofs.Naturals.{neg_plus, neg_minus}
use Rattle.whole.proofs.Order.{zarith, sub_is}
use Rattle.whole.proofs.Ranges.{Bounds}
use Rattle.whole.proofs.Machine.{Code, par, mul, machine, value}
use Rattle.whole.proofs.Comparisons.{tt_ff, ff_tt, lt_yes, lt_no, bits_eq}
use Rattle.grid.specs.declared.Window.{Window}
use Rattle.grid.specs.Table.{farthest}
use Rattle.rings.specs.Points.{Point, Line, In, Out, On}
use Rattle.rings.specs.Points as points
use Rattle.rings.specs.Windows.{left_side, right_side, bottom_side, top_side}
use Rattle.rings.proofs.Plane.{nought}
use Rattle.memory.specs.Memory.{point_in, largest_number, Small}
use Rattle.limits.specs.Sides.{side_line}
use Rattle.grid.specs.Sides.{Side, left, right, bottom, top, place_of, side_at, number_of}
use Rattle.limits.specs.Limits.{line_by, limit_line, SmallIn, LiesSo, RunTo, FirstPlace}
use Rattle.limits.specs.declared.Limit.{Limit}
use Rattle.limits.proofs.Sides.{place_side}
use Rattle.limits.proofs.Runs.{run_to_first}

-- ---- the limit of a side
of_side : (w : Window) (k : Side) → line_by (eqb (place_of k % 2) 0) (place_of k / 2) (number_of w k) ≡ side_line w k
of_side w left = refl
of_side w right = refl
of_side w bottom = refl
of_side w top = refl

pub side_limit : (w : Window) (s : ℕ) → s < 4 → line_by (eqb (s % 2) 0) (s / 2) (number_of w (side_at s)) ≡ side_line w (side_at s)
side_limit w s h =
    let k = side_at s in
    subst (λ (n : ℕ). line_by (eqb (n % 2) 0) (n / 2) (number_of w k) ≡ side_line w k) (place_side s h) (of_side w k)

-- ---- the numbers of a corner: X or Y, c, the denominator
abbrev numbers_by : ℕ → ℤ → List ℤ → ℕ → Env
numbers_by a c m i = get_or m (4 * i + a) (pos 0) ∷ c ∷ (point_in m i).W ∷ []

abbrev pub numbers : Limit → List ℤ → ℕ → Env
numbers l m i = numbers_by l.axis l.c m i

abbrev pub sizes : List ℕ
sizes = largest_number ∷ farthest ∷ 32766 ∷ []

abbrev along : Code
along = par w32 0

abbrev pub scaled : Code
scaled = mul w32 (par w32 1) (par w32 2)

along_small : (m : List ℤ) (i k : ℕ) → k < 2 → Small (point_in m i) → Within largest_number (get_or m (4 * i + k) (pos 0))
along_small m i zero h p = rw (add-zero (4 * i)) p.x
along_small m i (suc zero) h p = p.y
along_small m i (suc (suc k)) h p = absurd (omega arith)

den_within : {p : Point} → Small p → Within 32766 p.W
den_within {p} s = record { low = let h = s.positive in omega (zarith, neg_plus (pos 32766), neg_minus (pos 32766)); high = s.den }

pub bounds : (l : Limit) (m : List ℤ) (i : ℕ) → Small (point_in m i) → Bounds sizes (numbers l m i)
bounds l m i p = (along_small m i l.axis l.axis_bound p, (l.on_table, (den_within p, tt)))

-- ---- the value at a corner
abbrev inward : Bool → Expr
inward true = var 0 ⊖ var 1 ⊗ var 2
inward false = var 1 ⊗ var 2 ⊖ var 0

pub value_by : (b : Bool) (a : ℕ) (c : ℤ) (m : List ℤ) (i : ℕ) → a < 2 → means (numbers_by a c m i) (inward b) ≡ points.value (line_by b a c) (point_in m i)
unfolding points.value left_side right_side bottom_side top_side
value_by b a c m i h = go b a h
  where
    ρ : Env
    ρ = (point_in m i).X ∷ c ∷ (point_in m i).W ∷ (point_in m i).Y ∷ []

    go : (b : Bool) (k : ℕ) → k < 2 → means (numbers_by k c m i) (inward b) ≡ points.value (line_by b k c) (point_in m i)
    go true zero h = rw (add-zero (4 * i)) (ring ρ (var 0 ⊖ var 1 ⊗ var 2) (con (pos 1) ⊗ var 0 ⊕ nought ⊗ var 3 ⊕ neg (var 1) ⊗ var 2) tt)
    go false zero h = rw (add-zero (4 * i)) (ring ρ (var 1 ⊗ var 2 ⊖ var 0) (con (negsuc 0) ⊗ var 0 ⊕ nought ⊗ var 3 ⊕ var 1 ⊗ var 2) tt)
    go true (suc zero) h = ring ρ (var 3 ⊖ var 1 ⊗ var 2) (nought ⊗ var 0 ⊕ con (pos 1) ⊗ var 3 ⊕ neg (var 1) ⊗ var 2) tt
    go false (suc zero) h = ring ρ (var 1 ⊗ var 2 ⊖ var 3) (nought ⊗ var 0 ⊕ con (negsuc 0) ⊗ var 3 ⊕ var 1 ⊗ var 2) tt
    go b (suc (suc k)) h = absurd (omega arith)

limit_value : (l : Limit) (m : List ℤ) (i : ℕ) (b : Bool) → l.low ≡ b → means (numbers l m i) (inward b) ≡ points.value (limit_line l) (point_in m i)
limit_value l m i b e =
    subst (λ (d : Bool). means (numbers l m i) (inward b) ≡ points.value (line_by d l.axis l.c) (point_in m i)) (sym e) (value_by b l.axis l.c m i l.axis_bound)

-- ---- the test at a corner, as the loop for that kind of limit has it
abbrev pub test : Bool → Env → Bool
test true ρ = lt_z (machine ρ along) (machine ρ scaled)
test false ρ = lt_z (machine ρ scaled) (machine ρ along)

-- where the value is the difference of the numbers compared
module _ (h : Line) (p : Point) {a b x y : ℤ} (is_x : a ≡ x) (is_y : b ≡ y) (v : x -ℤ y ≡ points.value h p) where
  outside : lt_z a b ≡ true → Out h p
  outside e = let l = lt_yes is_x is_y e in omega (zarith, sub_is x y)

  inside : lt_z a b ≡ false → In h p
  inside e = let l = lt_no is_x is_y e in omega (zarith, sub_is x y)

module _ (l : Limit) (m : List ℤ) (i : ℕ) (p : Small (point_in m i)) where
  abbrev ρ : Env
  ρ = numbers l m i

  is_along : machine ρ along ≡ means ρ (var 0)
  is_along = value sizes ρ (bounds l m i p) along tt

  is_scaled : machine ρ scaled ≡ means ρ (var 1 ⊗ var 2)
  is_scaled = value sizes ρ (bounds l m i p) scaled tt

  tells : (b : Bool) → l.low ≡ b → (test b ρ ≡ true → Out (limit_line l) (point_in m i)) × (test b ρ ≡ false → In (limit_line l) (point_in m i))
  tells true e =
      let v = limit_value l m i true e in (
        outside (limit_line l) (point_in m i) is_along is_scaled v,
        inside (limit_line l) (point_in m i) is_along is_scaled v,
      )
  tells false e =
      let v = limit_value l m i false e in (
        outside (limit_line l) (point_in m i) is_scaled is_along v,
        inside (limit_line l) (point_in m i) is_scaled is_along v,
      )

  as_asked : (b : Bool) → l.low ≡ b → (out : Bool) → not (beq (test b ρ) out) ≡ false → LiesSo out (limit_line l) (point_in m i)
  as_asked b e = let k = tells b e in go (test b ρ) k.0 k.1
    where
      go : (f : Bool) → (f ≡ true → Out (limit_line l) (point_in m i)) → (f ≡ false → In (limit_line l) (point_in m i)) → (out : Bool)
          → not (beq f out) ≡ false → LiesSo out (limit_line l) (point_in m i)
      go true o n true q = o refl
      go true o n false q = absurd (tt_ff q)
      go false o n true q = absurd (tt_ff q)
      go false o n false q = n refl

  else_asked : (b : Bool) → l.low ≡ b → (out : Bool) → not (beq (test b ρ) out) ≡ true → LiesSo (not out) (limit_line l) (point_in m i)
  else_asked b e = let k = tells b e in go (test b ρ) k.0 k.1
    where
      go : (f : Bool) → (f ≡ true → Out (limit_line l) (point_in m i)) → (f ≡ false → In (limit_line l) (point_in m i)) → (out : Bool) → not (beq f out) ≡ true
          → LiesSo (not out) (limit_line l) (point_in m i)
      go true o n true q = absurd (ff_tt q)
      go true o n false q = o refl
      go false o n true q = n refl
      go false o n false q = absurd (ff_tt q)

  -- on the limit the two numbers are equal
  equal : (b : Bool) → l.low ≡ b → (means ρ (var 0) ≡ means ρ (var 1 ⊗ var 2)) ↔ On (limit_line l) (point_in m i)
  equal true e =
      let v = limit_value l m i true e in (
        λ q. sym v ∙ omega (zarith, q, sub_is (means ρ (var 0)) (means ρ (var 1 ⊗ var 2))),
        λ h. omega (zarith, v ∙ h, sub_is (means ρ (var 0)) (means ρ (var 1 ⊗ var 2))),
      )
  equal false e =
      let v = limit_value l m i false e in (
        λ q. sym v ∙ omega (zarith, q, sub_is (means ρ (var 1 ⊗ var 2)) (means ρ (var 0))),
        λ h. omega (zarith, v ∙ h, sub_is (means ρ (var 1 ⊗ var 2)) (means ρ (var 0))),
      )

  pub on_limit : {x y : ℤ} → SFits w32 x → SFits w32 y → x ≡ means ρ (var 0) → y ≡ means ρ (var 1 ⊗ var 2)
      → Decides (eqb (of_z w32 x) (of_z w32 y)) (On (limit_line l) (point_in m i))
  on_limit fx fy ex ey = let k = equal l.low refl in
      record { yes = λ q. k.0 (sym ex ∙ bits_eq w32 fx fy (eqb-true _ _ q) ∙ ey); no = λ q h. eqb-false _ _ q (ap (of_z w32) (ex ∙ k.1 h ∙ sym ey)) }

-- ---- a run by the tests at its corners
pub run_by_tests : (l : Limit) {m : List ℤ} {from to r : ℕ} {tells : ℕ → Bool → Type 0} (b : Bool) (out : Bool) → SmallIn m from to → l.low ≡ b
    → FirstPlace tells from to r
    → ((i : ℕ) (f : Bool) → from ≤ i → i < to → tells i f → not (beq (test b (numbers l m i)) out) ≡ f) → RunTo (limit_line l) m out from to r
run_by_tests l {m} b out small e p told =
    run_to_first p (λ i j k t. as_asked l m i (small i j k) b e out (told i false j k t)) (λ i j k t. else_asked l m i (small i j k) b e out (told i true j k t))
