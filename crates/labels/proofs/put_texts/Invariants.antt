-- After k strokes the text is that of the first k, and each took at most 132 bytes.
use Rattle.std.proofs.Common.{◌+◌, ◌*◌, ◌≤◌}
use Rattle.text.specs.Pages.{Put}
use Rattle.labels.specs.Labels.{label_texts}
use Rattle.labels.proofs.put_texts.Given as goal

abbrev pub invariant-loop-k : goal.invariant-loop-k
invariant-loop-k l = (l.end ≤ l.at + 132 * l.k) × Put l.initial.page l.page l.at l.end (label_texts l.v l.strokes l.k)
