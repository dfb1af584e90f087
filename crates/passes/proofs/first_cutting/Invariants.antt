-- No side before the k-th cuts.
use Rattle.std.proofs.Common.{◌≡◌, ℕ, ◌<◌, false, get_or}
use Rattle.grid.specs.Sides.{place_of}
use Rattle.passes.specs.Orders.{side_in}
use Rattle.passes.proofs.first_cutting.Given as goal

abbrev pub invariant-loop-k : goal.invariant-loop-k
invariant-loop-k l = (j : ℕ) → j < l.k → get_or l.cuts (place_of (side_in l.order j)) false ≡ false
