-- The bytes are those that stand in the output and those of the text that is left.
use Rattle.std.proofs.Common.{◌≡◌, ◌*◌, take, drop}
use Rattle.words.specs.Words.{pairs}
use Rattle.words.proofs.Lists.{after}
use Rattle.words.proofs.read_pairs.Given as goal

abbrev pub invariant-loop-i : goal.invariant-loop-i
invariant-loop-i l = pairs l.text ≡ after (take l.i l.out) (pairs (drop (2 * l.i) l.text))
