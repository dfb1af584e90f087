-- The renter and his slot tell the slot of the table, and the other four are the strip.
use Rattle.std.proofs.Common.{◌≡◌, pos, get_or, subst, arith, rules}
use mir.Syntax.{w32, w64}
use mir.Val.{to_z, of_z}
use Rattle.grid.specs.Refusals.{window_refusal}
use Rattle.grid.specs.declared.Window.{Window}
use Rattle.row_reading.proofs.Finding.{no_strip, a_row, test_fine, test_refused}
use Rattle.row_reading.proofs.row_of.Goals as goal

pub returns-in_err-ok : goal.returns-in_err-ok
returns-in_err-ok c =
    let bad = test_refused _ c.test_window.ensures c.ok.ensures.value c.in_err-ok.was in
    rw c.from_residual.ensures
    (no_strip _ (subst (λ (w : Window). (window_refusal w).number ≡ 0 → ⊥) c.strip_at-w.ensures bad))

pub returns : goal.returns
returns c =
    let first : to_z w64 (of_z w64 (to_z w32 (of_z w32 (get_or c.args.numbers.now 0 (pos 0))))) ≡ get_or c.args.numbers.now 0 (pos 0) = search rules in
    let second : to_z w64 (of_z w64 (to_z w32 (of_z w32 (get_or c.args.numbers.now 1 (pos 0))))) ≡ get_or c.args.numbers.now 1 (pos 0) = search rules in
    let renter = simp first at c.size.ensures in
    let slot = simp second at c.size-2.ensures in
    a_row _ _ _ (omega arith) c.strip_at-w.ensures (omega arith) (test_fine _ c.test_window.ensures c.ok.ensures.value c.in_ok-ok.was)
