-- The memory lent is as long as `run` asks.
use Rattle.std.proofs.Common.{sym, ℕ}
use native.Mathlib.Nat.{le_of_eq}
use lib.ListN.{length-replicate}
use Rattle.picture.proofs.main.Goals as goal

pub slice_bounds-run-end-4 : goal.slice_bounds-run-end-4
slice_bounds-run-end-4 c = sym (length-replicate {A = ℕ} 820000 0)

pub run-requires-clause-in_bounds : goal.run-requires-clause-in_bounds
run-requires-clause-in_bounds c = le_of_eq (sym (length-replicate {A = ℕ} 820000 0))
