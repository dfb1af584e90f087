-- What a point and a window become, by what became of their numbers one after the other.
use mathlib.Core.Path.{◌≡◌, sym, ap, ◌∙◌}
use Prim.Native.Nat.{ℕ, ◌≤◌}
use native.Mathlib.Omega.{arith}
use lib.IntN.{ℤ}
use lib.Ieee.{Float}
use mir.Syntax.{w32}
use mir.Val.{to_z, of_z}
use Rattle.std.specs.Prelude.{Result, Ok, Err, is_ok, is_err}
use Rattle.whole.proofs.Comparisons.{ff_tt}
use Rattle.grid.specs.Refusals.{refuse}
use Rattle.grid.specs.declared.Refusal.{Refusal}
use Rattle.intake.specs.declared.PointMm.{PointMm}
use Rattle.intake.specs.declared.WindowMm.{WindowMm}
use Rattle.intake.specs.Millimetres.{Taken, no_number, infinite, off_range, placed, TakenAt, grid_point, PointOnGrid, grid_window, WindowOnGrid}
use Rattle.intake.proofs.Outcome.{outcome, taken_is, read_back}
use Rattle.intake.proofs.Answers.{found_point, found_window}

abbrev pub read : ℤ → ℤ
read g = to_z w32 (of_z w32 g)

-- ---- one number at its place
module _ {place : ℕ} {x : Float} where
  -- a grid number, which is read as it is
  pub is_accepted : {g : ℤ} → TakenAt place x (Ok g) → outcome x ≡ Ok (read g)
  is_accepted {g} t = go t.outcome t.taken t.is
    where
      go : (o : Result ℤ ℕ) → Taken x o → Ok g ≡ placed place o → outcome x ≡ Ok (read g)
      go (Ok h) k e =
          let same : h ≡ g = cc in
          sym (taken_is k) ∙ ap Ok (sym (read_back k)) ∙ ap (λ (z : ℤ). Ok (read z)) same
      go (Err n) k e = absurd (ff_tt (ap is_err e))

  pub is_refused : {r : Refusal} → TakenAt place x (Err r) → (outcome x ≡ Err r.number) × (r ≡ refuse r.number place)
  is_refused {r} t = go t.outcome t.taken t.is
    where
      go : (o : Result ℤ ℕ) → Taken x o → Err r ≡ placed place o → (outcome x ≡ Err r.number) × (r ≡ refuse r.number place)
      go (Ok h) k e = absurd (ff_tt (ap is_ok e))
      go (Err n) k e =
          let same : refuse n place ≡ r = cc in
          let number : n ≡ r.number = ap (λ (q : Refusal). q.number) same in
          (sym (taken_is k) ∙ ap Err number, sym same ∙ ap (λ (m : ℕ). refuse m place) number)

-- a refusal has a number, and no other place
no_zero : {x : Float} {n : ℕ} → Taken x (Err n) → n ≡ 0 → ⊥
no_zero no_number e = absurd (omega (arith, e))
no_zero (infinite s) e = absurd (omega (arith, e))
no_zero (off_range n h) e = absurd (omega (arith, e))

-- ---- a point
pub point_refused : {p : PointMm} {r : Refusal} → PointOnGrid p (Err r) → (r.number ≡ 0 → ⊥) × (r.place ≤ 1)
unfolding grid_point
point_refused {r = r} t = go t.x t.y t.x_taken t.y_taken t.is
  where
    go : {a b : Float} (x y : Result ℤ ℕ) → Taken a x → Taken b y → Err r ≡ grid_point x y → (r.number ≡ 0 → ⊥) × (r.place ≤ 1)
    go (Ok x) (Ok y) f g e = absurd (ff_tt (ap is_ok e))
    go (Ok x) (Err n) f g e =
        let same : r ≡ refuse n 1 = cc in
        (λ z. no_zero g (sym (ap (λ (q : Refusal). q.number) same) ∙ z), omega (arith, ap (λ (q : Refusal). q.place) same))
    go (Err n) y f g e =
        let same : r ≡ refuse n 0 = cc in
        (λ z. no_zero f (sym (ap (λ (q : Refusal). q.number) same) ∙ z), omega (arith, ap (λ (q : Refusal). q.place) same))

pub window_refused : {w : WindowMm} {r : Refusal} → WindowOnGrid w (Err r) → r.number ≡ 0 → ⊥
unfolding grid_window
window_refused {r = r} t = go t.left t.bottom t.right t.top t.left_taken t.bottom_taken t.right_taken t.top_taken t.is
  where
    go : {a b c d : Float} (left bottom right top : Result ℤ ℕ) → Taken a left → Taken b bottom → Taken c right → Taken d top
        → Err r ≡ grid_window left bottom right top → r.number ≡ 0 → ⊥
    go (Ok left) (Ok bottom) (Ok right) (Ok top) f g h i e z = absurd (ff_tt (ap is_ok e))
    go (Ok left) (Ok bottom) (Ok right) (Err n) f g h i e z =
        let same : r ≡ refuse n 3 = cc in no_zero i (sym (ap (λ (q : Refusal). q.number) same) ∙ z)
    go (Ok left) (Ok bottom) (Err n) top f g h i e z =
        let same : r ≡ refuse n 2 = cc in no_zero h (sym (ap (λ (q : Refusal). q.number) same) ∙ z)
    go (Ok left) (Err n) right top f g h i e z =
        let same : r ≡ refuse n 1 = cc in no_zero g (sym (ap (λ (q : Refusal). q.number) same) ∙ z)
    go (Err n) bottom right top f g h i e z =
        let same : r ≡ refuse n 0 = cc in no_zero f (sym (ap (λ (q : Refusal). q.number) same) ∙ z)

module _ {p : PointMm} where
  pub x_refused : {r : Refusal} → TakenAt 0 p.x (Err r) → PointOnGrid p (Err r)
  unfolding grid_point
  x_refused t = let x = is_refused t in found_point p (ap Err x.1 ∙ sym (simp x.0))

  module _ {x : ℤ} (s : TakenAt 0 p.x (Ok x)) where
    pub y_refused : {r : Refusal} → TakenAt 1 p.y (Err r) → PointOnGrid p (Err r)
    unfolding grid_point
    y_refused t = let y = is_refused t in found_point p (ap Err y.1 ∙ sym (simp (is_accepted s, y.0)))

    pub point_taken : {y : ℤ} → TakenAt 1 p.y (Ok y) → PointOnGrid p (Ok (record { x = read x; y = read y }))
    unfolding grid_point
    point_taken t = found_point p (sym (simp (is_accepted s, is_accepted t)))

-- ---- a window
module _ {w : WindowMm} where
  pub left_refused : {r : Refusal} → TakenAt 0 w.left (Err r) → WindowOnGrid w (Err r)
  unfolding grid_window
  left_refused t = let l = is_refused t in found_window w (ap Err l.1 ∙ sym (simp l.0))

  module _ {left : ℤ} (l : TakenAt 0 w.left (Ok left)) where
    pub bottom_refused : {r : Refusal} → TakenAt 1 w.bottom (Err r) → WindowOnGrid w (Err r)
    unfolding grid_window
    bottom_refused t = let b = is_refused t in found_window w (ap Err b.1 ∙ sym (simp (is_accepted l, b.0)))

    module _ {bottom : ℤ} (b : TakenAt 1 w.bottom (Ok bottom)) where
      pub right_refused : {r : Refusal} → TakenAt 2 w.right (Err r) → WindowOnGrid w (Err r)
      unfolding grid_window
      right_refused t = let r = is_refused t in found_window w (ap Err r.1 ∙ sym (simp (is_accepted l, is_accepted b, r.0)))

      module _ {right : ℤ} (r : TakenAt 2 w.right (Ok right)) where
        pub top_refused : {q : Refusal} → TakenAt 3 w.top (Err q) → WindowOnGrid w (Err q)
        unfolding grid_window
        top_refused s = let t = is_refused s in found_window w (ap Err t.1 ∙ sym (simp (is_accepted l, is_accepted b, is_accepted r, t.0)))

        pub window_taken : {top : ℤ} → TakenAt 3 w.top (Ok top)
            → WindowOnGrid w (Ok (record { left = read left; bottom = read bottom; right = read right; top = read top }))
        unfolding grid_window
        window_taken t = found_window w (sym (simp (is_accepted l, is_accepted b, is_accepted r, is_accepted t)))
