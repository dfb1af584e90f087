-- The tests run in the order of the refusals, and each passes on to the next; the test of convexity is left.
use Rattle.std.proofs.Common.{◌≡◌, List, [], ◌∷◌, ℕ, ℤ, sym, ◌∙◌, arith}
use borrow.Author.Tests.{le-leb, lt-leb, lt-ltb}
use Rattle.grid.specs.Refusals.{wrong_length, number_off, not_convex, first, off_table, window_refusal}
use Rattle.grid.specs.declared.Refusal.{Refusal}
use Rattle.grid.specs.declared.Window.{Window}
use Rattle.grid.proofs.Refusals.{stops, goes_on}
use Rattle.grid.proofs.Tested.{was_fine, was_refused}
use Rattle.convex.specs.Corners.{most_corners, count_refusal, convex_refusal}
use Rattle.outlines.specs.Outlines.{bad_order, outline_refusal}
use Rattle.outlines.proofs.Refusals.{not_convex_lem}
use Rattle.outlines.proofs.refusal.Goals as goal

-- the window is not refused: then the others decide
past_window : (w : Window) (o : ℕ) (zs : List ℤ) {r : Refusal} → (window_refusal w).number ≡ 0
    → r ≡ first (bad_order o ∷ count_refusal most_corners wrong_length zs ∷ off_table number_off zs ∷ convex_refusal not_convex zs ∷ [])
    → r ≡ outline_refusal w o zs
unfolding outline_refusal
past_window w o zs z h = h ∙ sym (goes_on _ _ z)

pub returns-in-Err : goal.returns-in-Err
unfolding outline_refusal
returns-in-Err c = let r = was_refused (window_refusal c.args.w) c.in-Err.ensures in record { applies = c.requires; first = r.0 ∙ sym (stops _ _ r.1) }

pub returns-then-order-gt23 : goal.returns-then-order-gt23
unfolding first bad_order
returns-then-order-gt23 c = record {
  applies = c.requires;
  first =
      past_window c.args.w c.args.order c.args.outline.now (was_fine _ c.in_default.ensures) (simp (lt-leb _ _ c.if-order-gt23.true));
}

pub returns-then-not-right_count : goal.returns-then-not-right_count
unfolding first bad_order count_refusal
returns-then-not-right_count c = record {
  applies = c.requires;
  first =
      past_window c.args.w c.args.order c.args.outline.now (was_fine _ c.in_default.ensures)
      (simp (le-leb _ _ c.if-order-gt23.false, sym c.right_count.ensures ∙ c.if-not-right_count.true));
}

pub returns-then-off-outline : goal.returns-then-off-outline
unfolding first bad_order count_refusal off_table
returns-then-off-outline c = record {
  applies = c.requires;
  first =
      past_window c.args.w c.args.order c.args.outline.now (was_fine _ c.in_default.ensures)
      (simp
      (le-leb _ _ c.if-order-gt23.false, sym c.right_count.ensures ∙ c.if-not-right_count.false, ← c.first_off-off.ensures, lt-ltb _ _ c.if-off-outline.true));
}

pub returns : goal.returns
returns c = record {
  applies = c.requires;
  first =
      sym (not_convex_lem _ _ _ (was_fine _ c.in_default.ensures) (omega arith) (sym c.right_count.ensures ∙ c.if-not-right_count.false)
      (omega (arith, c.first_off-off.ensures)) c.requires);
}
