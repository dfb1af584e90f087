-- Each return is the definition at the tests that led there.
use Prim.Native.Nat.{◌≤◌}
use native.Mathlib.Omega.{arith}
use borrow.Author.Tests.{lt-ltb, le-ltb, le-leb, lt-leb, eq-eqb, ne_eqb}
use lib.ListN.{length}
use Rattle.grid.specs.Table.{first_off}
use Rattle.grid.specs.Refusals.{first, off_table, bad_strokes, strokes_refusal, tested}
use Rattle.grid.proofs.test_strokes.Goals as goal
use Rattle.grid.proofs.test_strokes.Goals.{then-s-ne0-via-then-s-ne0, then-s-ne0-via-else-s-ne0+then-s-gt16384}

pub returns-then-s-ne0 : goal.returns-then-s-ne0
unfolding strokes_refusal first bad_strokes tested
returns-then-s-ne0 c = elim c.then-s-ne0.branch [
  | then-s-ne0-via-then-s-ne0 w ↦ simp (ne_eqb _ _ w.if-s-ne0.true)
  | then-s-ne0-via-else-s-ne0+then-s-gt16384 w ↦ simp (eq-eqb _ _ w.if-s-ne0.false, lt-leb _ _ w.if-s-gt16384.true)
]

pub returns-then-long_list_on : goal.returns-then-long_list_on
unfolding strokes_refusal first bad_strokes off_table tested
returns-then-long_list_on c =
    let s = c.args.s.now in
    let fine : length s ≤ first_off s = omega (arith, c.long_list_on.ensures c.if-long_list_on.true) in
    simp (eq-eqb _ _ c.if-s-ne0.false, le-leb _ _ c.if-s-gt16384.false, le-ltb _ _ fine)

pub returns-then-off-s : goal.returns-then-off-s
unfolding strokes_refusal first bad_strokes off_table tested
returns-then-off-s c =
    simp (eq-eqb _ _ c.if-s-ne0.false, le-leb _ _ c.if-s-gt16384.false, ← c.first_off-off.ensures, lt-ltb _ _ c.if-off-s.true)

pub returns : goal.returns
unfolding strokes_refusal first bad_strokes off_table tested
returns c = simp (eq-eqb _ _ c.if-s-ne0.false, le-leb _ _ c.if-s-gt16384.false, ← c.first_off-off.ensures, le-ltb _ _ c.if-off-s.false)
