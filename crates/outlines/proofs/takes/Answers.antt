-- What one test finds is refused, and where none does nothing is.
use Rattle.std.proofs.Common.{sym, ◌∙◌, arith}
use borrow.Author.Tests.{leb-true, leb-false}
use Rattle.whole.proofs.Comparisons.{ff_tt}
use Rattle.grid.proofs.Refusals.{all_done}
use Rattle.convex.specs.Corners.{most_corners}
use Rattle.convex.proofs.Convexity.{ring_same}
use Rattle.convex.proofs.Refusals.{right_even, counted_on_table}
use Rattle.reach.proofs.Reaching.{numbers_on}
use Rattle.outlines.specs.Outlines.{outline_refusal}
use Rattle.outlines.proofs.Refusals.{first_on, nothing_refused, convex_taken, tests_fine, tests_bad}
use Rattle.outlines.proofs.takes.Goals as goal

pub returns-then-not-on_table : goal.returns-then-not-on_table
returns-then-not-on_table c = record {
  yes = λ e. absurd (ff_tt e);
  no = λ _ e. c.on_table.ensures.no c.if-not-on_table.true (c.requires.reach_on_table (nothing_refused _ _ _ e).corners.on);
}

-- the reach is on the table, so all numbers are
pub strictly_convex-requires : goal.strictly_convex-requires
strictly_convex-requires c =
    let r = c.requires in
    counted_on_table most_corners _ (omega arith) r.outline_value
    (numbers_on (right_even most_corners _ r.outline_value) r.reaches (c.on_table.ensures.yes c.if-not-on_table.false))

pub returns-then-not-strictly_convex : goal.returns-then-not-strictly_convex
returns-then-not-strictly_convex c = record {
  yes = λ e. absurd (ff_tt e);
  no = λ _ e.
      let k = nothing_refused _ _ _ e in
      absurd (ff_tt (sym c.if-not-strictly_convex.true ∙ c.strictly_convex.ensures ∙ (ring_same _ k.corners.three).1 k.ring));
}

pub returns-then-is_err : goal.returns-then-is_err
unfolding outline_refusal
returns-then-is_err c = record {
  yes = λ e. absurd (ff_tt e);
  no = λ _ e. tests_bad _ c.args.w c.test_window.ensures (sym c.is_err.ensures.value ∙ c.if-is_err.true) (all_done _ _ e).0;
}

pub returns : goal.returns
returns c =
    let r = c.requires in
    record {
      yes = λ e.
          convex_taken _ _ _ (tests_fine _ c.args.w c.test_window.ensures (sym c.is_err.ensures.value ∙ c.if-is_err.false)) (leb-true _ _ e) r.outline_value
          (first_on _ (numbers_on (right_even most_corners _ r.outline_value) r.reaches (c.on_table.ensures.yes c.if-not-on_table.false)))
          (sym c.strictly_convex.ensures ∙ c.if-not-strictly_convex.false);
      no = λ e h. absurd (omega (arith, (nothing_refused c.args.w c.args.order c.args.outline.now h).order, leb-false c.args.order 23 e));
    }
