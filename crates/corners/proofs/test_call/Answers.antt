-- Each return is the definition at the tests that led there.
use borrow.Author.Tests.{lt-ltb, le-ltb}
use Rattle.std.proofs.Common.{◌≤◌, ℕ, length, sym, subst, arith}
use Rattle.grid.specs.Refusals.{first, tested, off_table}
use Rattle.grid.specs.Table.{first_off}
use Rattle.grid.proofs.Ranges.{before_off}
use Rattle.convex.specs.Corners.{count_refusal, convex_refusal}
use Rattle.convex.proofs.Refusals.{counted_on_table}
use Rattle.corners.specs.Corners.{most_window_corners, cyrus_beck_refusal}
use Rattle.corners.proofs.Refusals.{only_stroke}
use Rattle.corners.proofs.test_call.Goals as goal

pub returns-then-not-right_count : goal.returns-then-not-right_count
unfolding tested cyrus_beck_refusal first count_refusal
returns-then-not-right_count c = let a = c.if-not-right_count.ensures in simp (sym c.if-not-right_count.ensures)

pub returns-then-off-c : goal.returns-then-off-c
unfolding tested cyrus_beck_refusal first count_refusal off_table
returns-then-off-c c = simp (sym c.if-not-right_count.ensures, ← c.first_off-off.ensures, lt-ltb _ _ c.if-off-c.true)

pub strictly_convex-requires : goal.strictly_convex-requires
strictly_convex-requires c =
    let zs = c.args.c.now in
    let on : length zs ≤ first_off zs = subst (λ (k : ℕ). length zs ≤ k) c.first_off-off.ensures c.if-off-c.false in
    counted_on_table most_window_corners zs (omega arith) (sym c.if-not-right_count.ensures) (λ k h. before_off zs k (omega (arith, on)) h)

pub returns-then-not-strictly_convex : goal.returns-then-not-strictly_convex
unfolding tested cyrus_beck_refusal first count_refusal off_table convex_refusal
returns-then-not-strictly_convex c =
    let zs = c.args.c.now in
    let on : length zs ≤ first_off zs = subst (λ (k : ℕ). length zs ≤ k) c.first_off-off.ensures c.if-off-c.false in
    simp (sym c.if-not-right_count.ensures, le-ltb _ _ on, sym c.if-not-strictly_convex.ensures)

pub returns : goal.returns
unfolding cyrus_beck_refusal first count_refusal off_table convex_refusal
returns c =
    let zs = c.args.c.now in
    let on : length zs ≤ first_off zs = subst (λ (k : ℕ). length zs ≤ k) c.first_off-off.ensures c.if-off-c.false in
    simp (c.test_stroke.ensures, sym c.if-not-right_count.ensures, le-ltb _ _ on, sym c.if-not-strictly_convex.ensures, only_stroke c.args.s)
