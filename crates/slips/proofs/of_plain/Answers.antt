-- Each way out is a case of the definition.
use Rattle.std.proofs.Common.{◌≢◌, sym, ap, ◌∙◌, length, arith}
use Rattle.decimal.specs.Decimals.{is_digit}
use Rattle.text.proofs.Ends.{ends_so, ends_otherwise}
use Rattle.slips.proofs.Tests.{first_some, first_none, comma, no_bytes, point_last, point_first, plus, a_digit, no_digit}
use Rattle.slips.proofs.of_plain.Goals as goal

pub returns-then-has : goal.returns-then-has
returns-then-has c = comma _ (sym c.has.ensures ∙ c.if-has.true)

pub returns-then-ends_with : goal.returns-then-ends_with
returns-then-ends_with c = point_last _ (sym c.has.ensures ∙ c.if-has.false) (ends_so c.args.word.now 46 c.ends_with.ensures.value c.if-ends_with.true)

pub returns-in_err-first : goal.returns-in_err-first
returns-in_err-first c = c.from_residual.ensures ∙ no_bytes _ (sym (ap length (first_none c.args.word.now c.in_err-first.ensures.value)))

pub returns-in-46 : goal.returns-in-46
returns-in-46 c =
    let w = c.args.word.now in
    let a = sym c.has.ensures ∙ c.if-has.false in
    let b = ends_otherwise w 46 c.ends_with.ensures.value (omega arith) c.if-ends_with.false in
    let f = first_some w c.in_ok-first.ensures.value in
    point_first w a b (omega (arith, f))

pub returns-in-43 : goal.returns-in-43
returns-in-43 c =
    let w = c.args.word.now in
    let a = sym c.has.ensures ∙ c.if-has.false in
    let b = ends_otherwise w 46 c.ends_with.ensures.value (omega arith) c.if-ends_with.false in
    let f = first_some w c.in_ok-first.ensures.value in
    let point : c.in_ok-first.field-0.now ≢ 46 = omega arith in
    plus w a b (λ e. point (f ∙ e)) (omega (arith, f))

pub returns-in_default : goal.returns-in_default
returns-in_default c =
    let w = c.args.word.now in
    let a = sym c.has.ensures ∙ c.if-has.false in
    let b = ends_otherwise w 46 c.ends_with.ensures.value (omega arith) c.if-ends_with.false in
    let f = first_some w c.in_ok-first.ensures.value in
    let point : c.in_ok-first.field-0.now ≢ 46 = omega arith in
    let plus_sign : c.in_ok-first.field-0.now ≢ 43 = omega arith in
    c.of_digits.ensures
    ∙ a_digit w a b (λ e. point (f ∙ e)) (λ e. plus_sign (f ∙ e)) (sym (c.is_digit.ensures ∙ ap is_digit f) ∙ c.if-is_digit.true)

pub returns-in_default-2 : goal.returns-in_default-2
returns-in_default-2 c =
    let w = c.args.word.now in
    let a = sym c.has.ensures ∙ c.if-has.false in
    let b = ends_otherwise w 46 c.ends_with.ensures.value (omega arith) c.if-ends_with.false in
    let f = first_some w c.in_ok-first.ensures.value in
    let point : c.in_ok-first.field-0.now ≢ 46 = omega arith in
    let plus_sign : c.in_ok-first.field-0.now ≢ 43 = omega arith in
    no_digit w a b (λ e. point (f ∙ e)) (λ e. plus_sign (f ∙ e)) (sym (c.is_digit.ensures ∙ ap is_digit f) ∙ c.if-is_digit.false)
