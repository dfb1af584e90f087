-- The word is what its digits from here on make of the number so far.
use Rattle.std.proofs.Common.{◌≡◌, ◌≤◌, drop}
use Rattle.words.specs.Digits.{value_from, word_value}
use Rattle.words.proofs.read_natural.Given as goal

abbrev pub invariant-loop-b : goal.invariant-loop-b
invariant-loop-b l = record { in_range : l.n ≤ l.most; value : word_value l.base l.word ≡ value_from l.base l.n (drop l.b-index l.word) }
