-- After k strokes the text is that of the first k, and each took at most 49 bytes.
use Rattle.std.proofs.Common.{◌+◌, ◌*◌, ◌≤◌}
use Rattle.text.specs.Pages.{Put}
use Rattle.paths.specs.Paths.{stroke_paths}
use Rattle.paths.proofs.put_strokes.Given as goal

abbrev pub invariant-loop-k : goal.invariant-loop-k
invariant-loop-k l = (l.end ≤ l.at + 49 * l.k) × Put l.initial.page l.page l.at l.end (stroke_paths l.step l.xs l.k)
