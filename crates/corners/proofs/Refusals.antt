-- What is known of corners and a stroke in which nothing is refused.
use mathlib.Core.Path.{◌≡◌, refl}
use mathlib.Core.Bool.{Bool, true, false}
use mathlib.Core.List.{List, [], ◌∷◌}
use native.Mathlib.Omega.{arith}
use lib.Dec.{ltb}
use lib.IntN.{ℤ}
use Rattle.whole.specs.Choice.{when◌then◌else◌}
use Rattle.grid.specs.Refusals.{window_off, no_window, number_off, refuse, none, first, off_table, stroke_refusal}
use Rattle.grid.specs.Table.{first_off, ends, StrokeOnTable}
use Rattle.grid.specs.declared.Stroke.{Stroke}
use Rattle.grid.proofs.Refusals.{all_done, nothing_off, stroke_on_table}
use Rattle.convex.specs.Corners.{count_refusal, convex_refusal, CornersOnTable}
use Rattle.convex.proofs.Refusals.{count_passed, counted_on_table}
use Rattle.corners.specs.Corners.{most_window_corners, cyrus_beck_refusal}

pub nothing_refused : (zs : List ℤ) (s : Stroke) → (cyrus_beck_refusal zs s).number ≡ 0 → CornersOnTable zs × StrokeOnTable s
unfolding cyrus_beck_refusal
nothing_refused zs s e =
    let p = all_done (count_refusal most_window_corners no_window zs) _ e in
    let q = all_done (off_table window_off zs) _ p.1 in
    let r = all_done (convex_refusal no_window zs) _ q.1 in (
      counted_on_table most_window_corners zs (omega arith) (count_passed most_window_corners no_window zs (omega arith) p.0)
          (nothing_off window_off zs (omega arith) q.0),
      stroke_on_table s (all_done (stroke_refusal s) [] r.1).0,
    )

-- the last of a list is given as it is
pub only_stroke : (s : Stroke) → first (stroke_refusal s ∷ []) ≡ stroke_refusal s
unfolding first stroke_refusal off_table
only_stroke s = go (ltb (first_off (ends s)) 4)
  where
    go : (b : Bool) → first ((when b then refuse number_off (first_off (ends s)) else none) ∷ []) ≡ (when b then refuse number_off (first_off (ends s)) else none)
    go true = refl
    go false = refl
