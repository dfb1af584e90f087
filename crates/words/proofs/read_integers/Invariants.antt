-- The numbers are those that stand in the output and those of the text that is left.
use Rattle.std.proofs.Common.{◌≡◌, ◌≤◌, ◌-◌, length, take, drop}
use Rattle.words.specs.Words.{arguments, integers}
use Rattle.words.proofs.Lists.{after}
use Rattle.words.proofs.read_integers.Given as goal

abbrev pub invariant-loop-at : goal.invariant-loop-at
invariant-loop-at l = record {
  text_in_range : l.at ≤ length l.text;
  out_in_range : l.n ≤ length l.out;
  numbers : integers (arguments l.text) ≡ after (take l.n l.out) (integers (arguments (drop l.at l.text)));
}

abbrev pub decreases-loop-at : goal.decreases-loop-at
decreases-loop-at l = length l.text - l.at
