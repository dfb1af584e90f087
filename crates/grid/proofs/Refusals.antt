-- The first refusal that applies, and what is known of a window, a stroke or a list of strokes in which nothing is refused.
use mathlib.Core.Path.{◌≡◌, refl, sym}
use mathlib.Core.Bool.{Bool, true, false, ◌&&◌}
use mathlib.Core.List.{List, [], ◌∷◌}
use mathlib.Core.Logic.{◌⊎◌, inl, inr, ⊎_elim}
use Prim.Native.Nat.{ℕ, zero, suc, ◌%◌, ◌<◌, ◌≤◌}
use native.Mathlib.Nat.{suc-ne-zero}
use native.Mathlib.Omega.{arith}
use borrow.Author.Tests.{eq-eqb, ne_eqb, eqb-true, eqb-false, leb-true, ltb-false}
use lib.Dec.{eqb, leb, ltb}
use lib.Ieee.Bits.{is_true}
use lib.IntN.{ℤ, pos}
use lib.ListN.{length, get_or}
use lib.Signed.{◌<ℤ◌, lt_z, lt_z_yes}
use Rattle.whole.specs.Within.{Within}
use Rattle.whole.proofs.Comparisons.{true-T}
use Rattle.whole.specs.Choice.{when◌then◌else◌}
use Rattle.grid.specs.Table.{farthest, first_off, sides, ends, WindowOnTable, StrokeOnTable, StrokesOnTable, NumbersOnTable}
use Rattle.grid.specs.Refusals.{window_off, no_window, wrong_length, number_off, refuse, none, first}
use Rattle.grid.specs.Refusals.{off_table, no_area, bad_strokes, window_refusal, stroke_refusal, strokes_refusal}
use Rattle.grid.specs.declared.Window.{Window}
use Rattle.grid.specs.declared.Stroke.{Stroke}
use Rattle.grid.specs.declared.Refusal.{Refusal}
use Rattle.grid.proofs.Ranges.{off_later, off_none, within_on, before_off}

-- ---- a call is done or refused
pub done_or_refused : (r : Refusal) {A : Type 0} → (r.number ≡ 0 → A) → ((r.number ≡ 0 → ⊥) → A) → A
done_or_refused r f g = ⊎_elim f g (test r.number)
  where
    test : (n : ℕ) → (n ≡ 0) ⊎ (n ≡ 0 → ⊥)
    test zero = inl refl
    test (suc n) = inr (suc-ne-zero n)

-- ---- the first that applies
pub stops : (r : Refusal) (rs : List Refusal) → (r.number ≡ 0 → ⊥) → first (r ∷ rs) ≡ r
unfolding first
stops r rs h = simp (ne_eqb _ _ h)

pub goes_on : (r : Refusal) (rs : List Refusal) → r.number ≡ 0 → first (r ∷ rs) ≡ first rs
unfolding first
goes_on r rs h = simp (eq-eqb _ _ h)

-- none of them applies
pub all_done : (r : Refusal) (rs : List Refusal) → (first (r ∷ rs)).number ≡ 0 → (r.number ≡ 0) × ((first rs).number ≡ 0)
unfolding first
all_done r rs h = go (eqb r.number 0) refl h
  where
    go : (b : Bool) → eqb r.number 0 ≡ b → (when b then first rs else r).number ≡ 0 → (r.number ≡ 0) × ((first rs).number ≡ 0)
    go true e h = (eqb-true r.number 0 e, h)
    go false e h = absurd (eqb-false r.number 0 e h)

-- ---- what is known where nothing is refused
pub nothing_off : (n : ℕ) (zs : List ℤ) → (n ≡ 0 → ⊥) → (off_table n zs).number ≡ 0 → NumbersOnTable zs
unfolding off_table
nothing_off n zs h e = go (ltb (first_off zs) (length zs)) refl e
  where
    go : (b : Bool) → ltb (first_off zs) (length zs) ≡ b → (when b then refuse n (first_off zs) else none).number ≡ 0 → NumbersOnTable zs
    go true t e k l = absurd (h e)
    go false t e k l = before_off zs k (omega (arith, ltb-false (first_off zs) (length zs) t)) l

-- both tests of area hold
has_area : (w : Window) → (no_area w).number ≡ 0 → (w.left <ℤ w.right) × (w.bottom <ℤ w.top)
unfolding no_area
has_area w e = go (lt_z w.left w.right) (lt_z w.bottom w.top) refl refl e
  where
    go : (a b : Bool) → lt_z w.left w.right ≡ a → lt_z w.bottom w.top ≡ b
        → (when a && b then none else refuse no_window 0).number ≡ 0 → (w.left <ℤ w.right) × (w.bottom <ℤ w.top)
    go true true p q e = (lt_z_yes (true-T p), lt_z_yes (true-T q))
    go true false p q e = absurd (omega arith)
    go false b p q e = absurd (omega arith)

pub window_on_table : (w : Window) → (window_refusal w).number ≡ 0 → WindowOnTable w
unfolding window_refusal
window_on_table w e =
    let p = all_done (off_table window_off (sides w)) (no_area w ∷ []) e in
    let on = nothing_off window_off (sides w) (omega arith) p.0 in
    let area = has_area w (all_done (no_area w) [] p.1).0 in
    record { left = on 0 (omega arith); bottom = on 1 (omega arith); right = on 2 (omega arith); top = on 3 (omega arith); wide = area.0; tall = area.1 }

-- ---- and the other way: what is on the table is not refused
none_off : {a b c d : ℤ} → Within farthest a → Within farthest b → Within farthest c → Within farthest d → first_off (a ∷ b ∷ c ∷ d ∷ []) ≡ 4
none_off a b c d =
    sym (off_later _ _ (within_on _ a) (off_later _ _ (within_on _ b) (off_later _ _ (within_on _ c) (off_later _ _ (within_on _ d) off_none))))

pub window_fine : (w : Window) → WindowOnTable w → none ≡ window_refusal w
unfolding window_refusal first off_table no_area
window_fine w h =
    let off : first_off (sides w) ≡ 4 = none_off h.left h.bottom h.right h.top in
    simp (off, is_true (lt_z w.left w.right) h.wide.lt, is_true (lt_z w.bottom w.top) h.tall.lt)

-- all numbers of a bad window are on the table: its area is bad
pub bad_area : (w : Window) → 4 ≤ first_off (sides w) → (WindowOnTable w → ⊥) → no_area w ≡ refuse no_window 0
unfolding no_area
bad_area w on bad = go (lt_z w.left w.right) (lt_z w.bottom w.top) refl refl
  where
    at : (k : ℕ) → k < 4 → Within farthest (get_or (sides w) k (pos 0))
    at k h = before_off (sides w) k (omega arith) h

    go : (a b : Bool) → lt_z w.left w.right ≡ a → lt_z w.bottom w.top ≡ b → (when a && b then none else refuse no_window 0) ≡ refuse no_window 0
    go true true p q = absurd (bad (record {
      left = at 0 (omega arith);
      bottom = at 1 (omega arith);
      right = at 2 (omega arith);
      top = at 3 (omega arith);
      wide = lt_z_yes (true-T p);
      tall = lt_z_yes (true-T q);
    }))
    go true false p q = refl
    go false b p q = refl

pub stroke_on_table : (s : Stroke) → (stroke_refusal s).number ≡ 0 → StrokeOnTable s
unfolding stroke_refusal
stroke_on_table s e =
    let on = nothing_off number_off (ends s) (omega arith) e in
    record { x1 = on 0 (omega arith); y1 = on 1 (omega arith); x2 = on 2 (omega arith); y2 = on 3 (omega arith) }

pub stroke_fine : (s : Stroke) → StrokeOnTable s → none ≡ stroke_refusal s
unfolding stroke_refusal off_table
stroke_fine s h =
    let off : first_off (ends s) ≡ 4 = none_off h.x1 h.y1 h.x2 h.y2 in
    simp off

pub strokes_on_table : (zs : List ℤ) → (strokes_refusal zs).number ≡ 0 → StrokesOnTable zs
unfolding strokes_refusal bad_strokes
strokes_on_table zs e = go (eqb (length zs % 4) 0) refl (leb (length zs) 16384) refl p.0
  where
    p : (((bad_strokes zs).number ≡ 0)) × ((first (off_table number_off zs ∷ [])).number ≡ 0)
    p = all_done (bad_strokes zs) (off_table number_off zs ∷ []) e

    go : (a : Bool) → eqb (length zs % 4) 0 ≡ a → (b : Bool) → leb (length zs) 16384 ≡ b → (when a && b then none else refuse wrong_length 0).number ≡ 0 → StrokesOnTable zs
    go true t true u q = record {
      by_four = eqb-true (length zs % 4) 0 t;
      few = leb-true (length zs) 16384 u;
      on = nothing_off number_off zs (omega arith) (all_done (off_table number_off zs) [] p.1).0;
    }
    go true t false u q = absurd (omega arith)
    go false t b u q = absurd (omega arith)
