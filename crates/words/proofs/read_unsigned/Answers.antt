-- Below 0 only -0 is such a number.
use mathlib.Core.Path.{sym, ◌∙◌}
use Rattle.words.proofs.Numerals.{minus_long, unsigned_below, unsigned_above}
use Rattle.words.proofs.read_unsigned.Goals as goal

pub slice_bounds-read_natural-count : goal.slice_bounds-read_natural-count
slice_bounds-read_natural-count c = minus_long _ (sym c.has_minus.ensures ∙ c.if-has_minus.true)

pub slice_bounds-read_natural-start : goal.slice_bounds-read_natural-start
slice_bounds-read_natural-start c = minus_long _ (sym c.has_minus.ensures ∙ c.if-has_minus.true)

pub returns-then-has_minus : goal.returns-then-has_minus
returns-then-has_minus c = unsigned_below c.args.word.now _ _ c.has_minus.ensures _ c.if-has_minus.true c.read_natural.ensures

pub returns : goal.returns
returns c = unsigned_above c.args.word.now _ _ c.has_minus.ensures _ c.if-has_minus.false c.read_natural-2.ensures
