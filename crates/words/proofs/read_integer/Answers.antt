-- With a minus the digits are a number up to 2 ^ 31, without one a number below it.
use mathlib.Core.Path.{sym, ap, ◌∙◌}
use native.Mathlib.Omega.{arith}
use mir.Syntax.{w32}
use mir.Facts.{to_z-of_z, to_z_pos}
use Rattle.std.specs.Prelude.{Some}
use Rattle.words.proofs.Numerals.{minus_long, minus, plus, integer_below, integer_above, read_small}
use Rattle.words.proofs.read_integer.Goals as goal

pub slice_bounds-read_natural-count : goal.slice_bounds-read_natural-count
slice_bounds-read_natural-count c = minus_long _ (sym c.has_minus.ensures ∙ c.if-has_minus.true)

pub slice_bounds-read_natural-start : goal.slice_bounds-read_natural-start
slice_bounds-read_natural-start c = minus_long _ (sym c.has_minus.ensures ∙ c.if-has_minus.true)

pub returns-in_err-read_natural : goal.returns-in_err-read_natural
returns-in_err-read_natural c =
    c.from_residual.ensures ∙ sym (integer_below c.args.word.now _ _ c.has_minus.ensures c.if-has_minus.true c.read_natural.ensures ∙ ap minus c.in_err-read_natural.was)

pub opposite-requires : goal.opposite-requires
opposite-requires c = read_small _ _ _ _ c.in_ok-read_natural.was c.read_natural.ensures

pub returns-then-has_minus : goal.returns-then-has_minus
returns-then-has_minus c = rw (to_z-of_z {w = w32} (record { sfits = c.opposite.type_inv }))
    (ap Some c.opposite.ensures ∙ sym (integer_below c.args.word.now _ _ c.has_minus.ensures c.if-has_minus.true c.read_natural.ensures ∙ ap minus c.in_ok-read_natural.was))

pub returns-in_err-read_natural-2 : goal.returns-in_err-read_natural-2
returns-in_err-read_natural-2 c =
    c.from_residual-in_err-read_natural-2.ensures
    ∙ sym (integer_above c.args.word.now _ _ c.has_minus.ensures c.if-has_minus.false c.read_natural-2.ensures ∙ ap plus c.in_err-read_natural-2.was)

pub overflow_cast-result : goal.overflow_cast-result
overflow_cast-result c = record { sfits = omega (arith, read_small _ _ _ _ c.in_ok-read_natural-2.was c.read_natural-2.ensures) }

pub returns : goal.returns
returns c =
    ap Some (to_z_pos w32 (omega (arith, read_small _ _ _ _ c.in_ok-read_natural-2.was c.read_natural-2.ensures)))
    ∙ sym (integer_above c.args.word.now _ _ c.has_minus.ensures c.if-has_minus.false c.read_natural-2.ensures ∙ ap plus c.in_ok-read_natural-2.was)
