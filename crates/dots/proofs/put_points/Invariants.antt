-- After k rows the text is that of the first k, and each took at most 49 bytes.
use Rattle.std.proofs.Common.{◌+◌, ◌*◌, ◌≤◌}
use Rattle.text.specs.Pages.{Put}
use Rattle.dots.specs.Dots.{point_paths}
use Rattle.dots.proofs.put_points.Given as goal

abbrev pub invariant-loop-k : goal.invariant-loop-k
invariant-loop-k l = (l.end ≤ l.at + 49 * l.k) × Put l.initial.page l.page l.at l.end (point_paths l.least l.strokes l.rows l.k)
