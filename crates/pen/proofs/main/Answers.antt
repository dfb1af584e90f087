-- The memory lent is as long as `run` asks.
use Rattle.std.proofs.Common.{sym, ℕ}
use lib.ListN.{length-replicate}
use Rattle.pen.proofs.main.Goals as goal

pub slice_bounds-run-end : goal.slice_bounds-run-end
slice_bounds-run-end c = sym (length-replicate {A = ℕ} 524290 0)

pub run-requires-clause-most_text_value : goal.run-requires-clause-most_text_value
run-requires-clause-most_text_value c = sym (length-replicate {A = ℕ} 524290 0)
