-- The outline's own corners, as a memory has them, against a limit.
use mathlib.Core.Path.{◌≡◌, refl, sym, ap, ◌∙◌, subst}
use mathlib.Core.Bool.{Bool, true, false, not, beq}
use mathlib.Core.List.{List, [], ◌∷◌}
use mathlib.Core.Logic.{◌↔◌}
use Prim.Native.Nat.{ℕ, zero, suc, ◌+◌, ◌*◌, ◌/◌, ◌^◌, ◌<◌, ◌≤◌}
use native.Mathlib.Nat.{add-zero}
use native.Mathlib.Omega.{arith}
use borrow.Author.Tests.{eqb-true, eqb-false}
use lib.Dec.{eqb}
use lib.IntN.{ℤ, pos, ◌+ℤ◌, ◌-ℤ◌, ◌*ℤ◌}
use lib.ListN.{length, get_or}
use lib.Signed.{◌≤ℤ◌, ◌<ℤ◌, mag, lt_z, le_z}
use mir.Syntax.{w32}
use mir.Val.{SFits, to_z, of_z}
use mir.Facts.{to_z-of_z}
use Rattle.whole.specs.Choice.{Decides}
use Rattle.whole.specs.Within.{Within}
use Rattle.whole.proofs.Expressions.{var, con, ◌⊖◌, ◌⊗◌, x0, x1}
use Rattle.whole.proofs.Polynomials.{ring}
use Rattle.whole.proofs.Naturals.{add_is}
use Rattle.whole.proofs.Order.{zarith, sub_is}
use Rattle.whole.proofs.Ranges.{fits}
use Rattle.whole.proofs.Machine.{par, lit, add, need}
use Rattle.whole.proofs.Comparisons.{bits_eq, tt_ff, ff_tt, le_yes, le_no, lt_yes, lt_no}
use Rattle.grid.specs.Table.{farthest}
use Rattle.rings.specs.Points.{Point, value, In, Out, On}
use Rattle.convex.specs.Corners.{grid_point}
use Rattle.memory.specs.Memory.{point_in}
use Rattle.memory.specs.Tagged.{tag_in, loaded_from, loaded_of}
use Rattle.limits.specs.Limits.{line_by, limit_line, LiesSo, RunTo, FirstPlace}
use Rattle.limits.specs.declared.Limit.{Limit}
use Rattle.limits.proofs.Limits.{value_by}
use Rattle.limits.proofs.Runs.{run_to_first}

-- the first n corners of the outline zs stand in the memory m, each tagged with its own edge
pub record Loaded (zs m : List ℤ) (n : ℕ) : Type 0 where
  pub corner : (k : ℕ) → k < n → point_in m k ≡ grid_point (get_or zs (2 * k) (pos 0)) (get_or zs (2 * k + 1) (pos 0))
  pub tag : (k : ℕ) → k < n → tag_in m k ≡ pos k

-- ---- the memory of all corners, the first tagged j
corner_from : (j : ℕ) (zs : List ℤ) (k : ℕ) → k < length zs / 2 → point_in (loaded_from j zs) k ≡ grid_point (get_or zs (2 * k) (pos 0)) (get_or zs (2 * k + 1) (pos 0))
unfolding loaded_from
corner_from j [] k h = absurd (omega arith)
corner_from j (x ∷ []) k h = absurd (omega arith)
corner_from j (x ∷ y ∷ zs) zero h = refl
corner_from j (x ∷ y ∷ zs) (suc k) h =
    let m = x ∷ y ∷ pos 1 ∷ pos j ∷ loaded_from (suc j) zs in
    let e : 4 * suc k ≡ suc (suc (suc (suc (4 * k)))) = omega arith in
    let f : 4 * suc k + 1 ≡ suc (suc (suc (suc (4 * k + 1)))) = omega arith in
    let g : 4 * suc k + 2 ≡ suc (suc (suc (suc (4 * k + 2)))) = omega arith in
    let p : 2 * suc k ≡ suc (suc (2 * k)) = omega arith in
    let q : 2 * suc k + 1 ≡ suc (suc (2 * k + 1)) = omega arith in
    (λ i. record { X = get_or m (e i) (pos 0); Y = get_or m (f i) (pos 0); W = get_or m (g i) (pos 0) })
    ∙ corner_from (suc j) zs k (omega arith)
    ∙ sym (λ i. grid_point (get_or (x ∷ y ∷ zs) (p i) (pos 0)) (get_or (x ∷ y ∷ zs) (q i) (pos 0)))

tag_from : (j : ℕ) (zs : List ℤ) (k : ℕ) → k < length zs / 2 → tag_in (loaded_from j zs) k ≡ pos (j + k)
unfolding loaded_from
tag_from j [] k h = absurd (omega arith)
tag_from j (x ∷ []) k h = absurd (omega arith)
tag_from j (x ∷ y ∷ zs) zero h = ap pos (omega arith)
tag_from j (x ∷ y ∷ zs) (suc k) h =
    let e : 4 * suc k + 3 ≡ suc (suc (suc (suc (4 * k + 3)))) = omega arith in
    let f : suc j + k ≡ j + suc k = omega arith in
    ap (λ (i : ℕ). get_or (x ∷ y ∷ pos 1 ∷ pos j ∷ loaded_from (suc j) zs) i (pos 0)) e ∙ tag_from (suc j) zs k (omega arith) ∙ ap pos f

pub loaded_of_lem : (zs : List ℤ) → Loaded zs (loaded_of zs) (length zs / 2)
loaded_of_lem zs = record { corner = corner_from 0 zs; tag = λ k h. tag_from 0 zs k h ∙ ap pos (omega arith) }

-- the least whole number that a low limit c leaves inside, or that a high one leaves outside
abbrev pub least_of : Bool → ℤ → ℤ
least_of true c = c
least_of false c = c +ℤ pos 1

-- ---- the corner k against a line: its number on the axis a, and that of the line
module _ (zs : List ℤ) {a k : ℕ} (small : a < 2) (there : k < length zs / 2) where
  abbrev p : Point
  p = point_in (loaded_of zs) k

  abbrev x : ℤ
  x = get_or zs (2 * k + a) (pos 0)

  is_number : get_or (loaded_of zs) (4 * k + a) (pos 0) ≡ x
  is_number = go a small
    where
      go : (b : ℕ) → b < 2 → get_or (loaded_of zs) (4 * k + b) (pos 0) ≡ get_or zs (2 * k + b) (pos 0)
      go zero h = rw (add-zero (4 * k)) (rw (add-zero (2 * k)) (ap (λ (q : Point). q.X) ((loaded_of_lem zs).corner k there)))
      go (suc zero) h = ap (λ (q : Point). q.Y) ((loaded_of_lem zs).corner k there)
      go (suc (suc b)) h = absurd (omega arith)

  is_1 : p.W ≡ pos 1
  is_1 = ap (λ (q : Point). q.W) ((loaded_of_lem zs).corner k there)

  low_value : (c : ℤ) → x -ℤ c ≡ value (line_by true a c) p
  low_value c =
      ring (x ∷ c ∷ []) (x0 ⊖ x1) (x0 ⊖ x1 ⊗ con (pos 1)) tt ∙ sym (λ i. is_number i -ℤ c *ℤ is_1 i) ∙ value_by true a c
      (loaded_of zs) k small

  high_value : (c : ℤ) → c -ℤ x ≡ value (line_by false a c) p
  high_value c =
      ring (x ∷ c ∷ []) (x1 ⊖ x0) (x1 ⊗ con (pos 1) ⊖ x0) tt ∙ sym (λ i. c *ℤ is_1 i -ℤ is_number i) ∙ value_by false a c
      (loaded_of zs) k small

  below_low : (c : ℤ) → x <ℤ c → Out (line_by true a c) p
  below_low c h = omega (zarith, low_value c, sub_is x c)

  above_low : (c : ℤ) → c ≤ℤ x → In (line_by true a c) p
  above_low c h = omega (zarith, low_value c, sub_is x c)

  module _ (c : ℤ) where
    -- a whole number above c is at least c + 1
    high_for_low : (out : Bool) → LiesSo (not out) (line_by true a (c +ℤ pos 1)) p → LiesSo out (line_by false a c) p
    high_for_low true h = omega (zarith, low_value (c +ℤ pos 1), high_value c, sub_is x (c +ℤ pos 1), sub_is c x, add_is c (pos 1))
    high_for_low false h = omega (zarith, low_value (c +ℤ pos 1), high_value c, sub_is x (c +ℤ pos 1), sub_is c x, add_is c (pos 1))

    -- below the least whole number inside a low limit, or beyond a high one
    pub below_least : (low : Bool) → x <ℤ least_of low c → LiesSo low (line_by low a c) p
    below_least true h = below_low c h
    below_least false h = high_for_low false (below_low (c +ℤ pos 1) h)

    pub above_least : (low : Bool) → least_of low c ≤ℤ x → LiesSo (not low) (line_by low a c) p
    above_least true h = above_low c h
    above_least false h = high_for_low true (above_low (c +ℤ pos 1) h)

    equal : (low : Bool) → (x ≡ c) ↔ On (line_by low a c) p
    equal true = (λ e. omega (zarith, low_value c, sub_is x c), λ e. omega (zarith, low_value c, sub_is x c))
    equal false = (λ e. omega (zarith, high_value c, sub_is c x), λ e. omega (zarith, high_value c, sub_is c x))

    pub on_line : (low : Bool) → mag x < 2 ^ 31 → mag c < 2 ^ 31 → Decides (eqb (of_z w32 x) (of_z w32 c)) (On (line_by low a c) p)
    on_line low fx fc = record {
      yes = λ q. (equal low).0 (bits_eq w32 (record { sfits = fx }) (record { sfits = fc }) (eqb-true _ _ q));
      no = λ q h. eqb-false _ _ q (ap (of_z w32) ((equal low).1 h));
    }

-- the number of a limit, and one more, fit
module _ {c : ℤ} (on : Within farthest c) where
  pub number_fits : SFits w32 c
  number_fits = fits w32 (farthest ∷ []) (c ∷ []) (on, tt) (var 0) tt

  pub more_fits : SFits w32 (to_z w32 (of_z w32 c) +ℤ pos 1)
  more_fits = need (farthest ∷ []) (c ∷ []) (on, tt) (add w32 (par w32 0) (lit (pos 1))) tt

-- which of the two it is
pub least_inside : {n c : ℤ} {low : Bool} → Within farthest c → n ≡ to_z w32 (of_z w32 c) → low ≡ true → n ≡ least_of low c
least_inside {c = c} on e q = e ∙ to_z-of_z (number_fits on) ∙ ap (λ (b : Bool). least_of b c) (sym q)

pub least_beyond : {n c : ℤ} {low : Bool} → Within farthest c → n ≡ to_z w32 (of_z w32 (to_z w32 (of_z w32 c) +ℤ pos 1)) → low ≡ false → n ≡ least_of low c
least_beyond {c = c} on e q =
    e ∙ to_z-of_z (more_fits on) ∙ ap (λ (x : ℤ). x +ℤ pos 1) (to_z-of_z (number_fits on)) ∙ ap (λ (b : Bool). least_of b c) (sym q)

-- ---- a run by the tests at its corners
same_side : (low out : Bool) → beq low out ≡ true → low ≡ out
same_side true true e = refl
same_side true false e = absurd (ff_tt e)
same_side false true e = absurd (ff_tt e)
same_side false false e = refl

other_side : (low out : Bool) → beq low out ≡ false → not low ≡ out
other_side true true e = absurd (tt_ff e)
other_side true false e = refl
other_side false true e = refl
other_side false false e = absurd (tt_ff e)

abbrev pub own_number : Limit → List ℤ → ℕ → ℤ
own_number l zs i = get_or zs (2 * i + l.axis) (pos 0)

module _ (l : Limit) (zs : List ℤ) {from to r : ℕ} {tells : ℕ → Bool → Type 0} {n : ℤ} (out : Bool) (h : to ≤ length zs / 2)
    (e : n ≡ least_of l.low l.c) (p : FirstPlace tells from to r) where
  lies : (i : ℕ) → i < to → own_number l zs i <ℤ n → LiesSo l.low (limit_line l) (point_in (loaded_of zs) i)
  lies i b k = below_least zs {k = i} l.axis_bound (omega arith) l.c l.low (subst (λ (n : ℤ). own_number l zs i <ℤ n) e k)

  lies_not : (i : ℕ) → i < to → n ≤ℤ own_number l zs i → LiesSo (not l.low) (limit_line l) (point_in (loaded_of zs) i)
  lies_not i b k = above_least zs {k = i} l.axis_bound (omega arith) l.c l.low (subst (λ (n : ℤ). n ≤ℤ own_number l zs i) e k)

  pub run_below : beq l.low out ≡ true → ((i : ℕ) (f : Bool) → from ≤ i → i < to → tells i f → le_z n (own_number l zs i) ≡ f) → RunTo (limit_line l) (loaded_of zs) out from to r
  run_below s told =
      let d = same_side l.low out s in
      subst (λ (o : Bool). RunTo (limit_line l) (loaded_of zs) o from to r) d
      (run_to_first p (λ i a b t. lies i b (le_no refl refl (told i false a b t))) (λ i a b t. lies_not i b (le_yes refl refl (told i true a b t))))

  pub run_above : beq l.low out ≡ false → ((i : ℕ) (f : Bool) → from ≤ i → i < to → tells i f → lt_z (own_number l zs i) n ≡ f) → RunTo (limit_line l) (loaded_of zs) out from to r
  run_above s told =
      let d = other_side l.low out s in
      subst (λ (o : Bool). RunTo (limit_line l) (loaded_of zs) o from to r) d
      (run_to_first p (λ i a b t. lies_not i b (lt_no refl refl (told i false a b t)))
      (λ i a b t. subst (λ (b : Bool). LiesSo b (limit_line l) (point_in (loaded_of zs) i)) (sym (not_not l.low)) (lies i b (lt_yes refl refl (told i true a b t)))))
    where
      not_not : (b : Bool) → not (not b) ≡ b
      not_not true = refl
      not_not false = refl
