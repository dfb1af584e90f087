-- What is known of a window, an order and an outline in which nothing is refused; and the last refusal, where none before it applies.
use mathlib.Core.Path.{◌≡◌, refl, ap, ◌∙◌}
use mathlib.Core.Bool.{Bool, true, false}
use mathlib.Core.List.{List, [], ◌∷◌}
use Prim.Native.Nat.{ℕ, suc, ◌≤◌}
use native.Mathlib.Omega.{arith}
use borrow.Author.Tests.{leb-true, le-leb, le-ltb}
use lib.Dec.{leb}
use lib.IntN.{ℤ}
use lib.ListN.{length}
use Rattle.std.specs.Bool.{⊤}
use Rattle.std.specs.Prelude.{Result, Ok, Err, is_err}
use Rattle.whole.proofs.Comparisons.{ff_tt, tt_ff}
use Rattle.grid.specs.Refusals.{wrong_length, number_off, not_convex, refuse, first, off_table, tested, window_refusal}
use Rattle.grid.specs.Table.{first_off, WindowOnTable, NumbersOnTable}
use Rattle.grid.specs.declared.Refusal.{Refusal}
use Rattle.grid.specs.declared.Window.{Window}
use Rattle.grid.proofs.Ranges.{off_later, off_none, within_on}
use Rattle.grid.proofs.Refusals.{goes_on, all_done, window_on_table, nothing_off}
use Rattle.grid.proofs.Tested.{was_fine, was_refused}
use Rattle.rings.specs.Rings.{Ring}
use Rattle.convex.specs.Corners.{corners_of, strictly_convex, most_corners, right_count, count_refusal, convex_refusal, CornersOnTable}
use Rattle.convex.proofs.Refusals.{passed, count_passed, convex_passed, counted_on_table}
use Rattle.convex.proofs.Convexity.{ring_same}
use Rattle.outlines.specs.Outlines.{bad_order, outline_refusal}

-- ---- no number is off the table
pub first_on : (zs : List ℤ) → NumbersOnTable zs → length zs ≤ first_off zs
first_on [] f = omega (arith, off_none)
first_on (z ∷ zs) f =
    let e = off_later z zs (within_on z (f 0 (omega arith))) refl in
    let h = first_on zs (λ k l. f (suc k) (omega arith)) in
    omega arith

-- ---- a window that is tested
pub tests_fine : (r : Result ⊤ Refusal) (w : Window) → r ≡ tested (window_refusal w) → is_err r ≡ false → (window_refusal w).number ≡ 0
tests_fine (Ok u) w e f = was_fine (window_refusal w) e
tests_fine (Err q) w e f = absurd (tt_ff f)

pub tests_bad : (r : Result ⊤ Refusal) (w : Window) → r ≡ tested (window_refusal w) → is_err r ≡ true → (window_refusal w).number ≡ 0 → ⊥
tests_bad (Ok u) w e f = absurd (ff_tt f)
tests_bad (Err q) w e f = (was_refused (window_refusal w) e).1

-- ---- nothing is refused
pub record Taken (w : Window) (o : ℕ) (zs : List ℤ) : Type 0 where
  pub window : WindowOnTable w
  pub order : o ≤ 23
  pub count : right_count most_corners (length zs) ≡ true
  pub corners : CornersOnTable zs
  pub ring : Ring (corners_of zs)

pub nothing_refused : (w : Window) (o : ℕ) (zs : List ℤ) → (outline_refusal w o zs).number ≡ 0 → Taken w o zs
unfolding outline_refusal bad_order
nothing_refused w o zs e =
    let a = all_done (window_refusal w) _ e in
    let b = all_done (bad_order o) _ a.1 in
    let c = all_done (count_refusal most_corners wrong_length zs) _ b.1 in
    let d = all_done (off_table number_off zs) _ c.1 in
    let f = all_done (convex_refusal not_convex zs) [] d.1 in
    let n = count_passed most_corners wrong_length zs (omega arith) c.0 in
    let k = counted_on_table most_corners zs (omega arith) n (nothing_off number_off zs (omega arith) d.0) in record {
      window = window_on_table w a.0;
      order = leb-true o 23 (passed (leb o 23) (omega arith) b.0);
      count = n;
      corners = k;
      ring = (ring_same zs k.three).0 (convex_passed not_convex zs (omega arith) f.0);
    }

-- ---- the test of convexity comes last
module _ (w : Window) (o : ℕ) (zs : List ℤ) (hw : (window_refusal w).number ≡ 0) (ho : o ≤ 23) (hc : right_count most_corners (length zs) ≡ true)
    (on : length zs ≤ first_off zs) where
  last : outline_refusal w o zs ≡ first (convex_refusal not_convex zs ∷ [])
  unfolding outline_refusal first bad_order count_refusal off_table
  last =
      goes_on (window_refusal w) (bad_order o ∷ count_refusal most_corners wrong_length zs ∷ off_table number_off zs ∷ convex_refusal not_convex zs ∷ []) hw
      ∙ simp (le-leb _ _ ho, hc, le-ltb _ _ on)

  pub convex_taken : strictly_convex (corners_of zs) ≡ true → (outline_refusal w o zs).number ≡ 0
  unfolding first convex_refusal
  convex_taken e = ap (λ (r : Refusal). r.number) last ∙ simp e

  pub not_convex_lem : ((outline_refusal w o zs).number ≡ 0 → ⊥) → outline_refusal w o zs ≡ refuse not_convex 0
  unfolding first convex_refusal
  not_convex_lem n = go (strictly_convex (corners_of zs)) refl
    where
      go : (b : Bool) → strictly_convex (corners_of zs) ≡ b → outline_refusal w o zs ≡ refuse not_convex 0
      go true e = absurd (n (convex_taken e))
      go false e = last ∙ simp e
