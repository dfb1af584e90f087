-- The fields before this one are put, each in at most 22 bytes.
use Rattle.std.proofs.Common.{◌+◌, ◌*◌, ◌≤◌}
use Rattle.text.specs.Pages.{Put}
use Rattle.output.specs.Written.{fields_text}
use Rattle.output.proofs.put_fields.Given as goal

abbrev pub invariant-loop-i : goal.invariant-loop-i
invariant-loop-i l = record { put : Put l.initial.page l.page l.at l.end (fields_text l.i l.fields); short : l.end ≤ l.at + 22 * l.i }
