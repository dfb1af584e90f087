-- Every way out is one of the conditions of a number with a point.
use Rattle.std.proofs.Common.{◌∙◌, ap, arith, length, refl}
use Rattle.text.specs.Runs.{run}
use Rattle.decimal.specs.Decimals.{is_digit}
use Rattle.decimal.specs.Workers.{nothing}
use Rattle.decimal.proofs.Shapes.{few_digits, follows, front, front_small, number_small, with_point, behind_is, shape}
use Rattle.decimal.proofs.Shapes.{reads as reads-number}
use Rattle.decimal.proofs.read_pointed.Goals as goal
use Rattle.decimal.proofs.read_pointed.Goals.{then-places-eq0-via-then-places-eq0, then-places-eq0-via-else-places-eq0+then-digits_in-places}
use Rattle.decimal.proofs.read_pointed.Goals.{then-places-eq0-via-else-places-eq0+else-digits_in-places+then-front-places-gt-MOST_DIGITS}

pub returns-then-text-front-ne46 : goal.returns-then-text-front-ne46
returns-then-text-front-ne46 c = nothing (λ n k p. c.if-text-front-ne46.true (follows p c.requires.front_value c.requires.front_nonzero.1).point)

pub returns-then-places-eq0 : goal.returns-then-places-eq0
returns-then-places-eq0 c =
    let all = behind_is c.args.text.now c.args.front in
    nothing
    (λ n k p. let f = follows p c.requires.front_value c.requires.front_nonzero.1 in
    elim c.then-places-eq0.branch [
      | then-places-eq0-via-then-places-eq0 w ↦ omega (arith, f.some, ap length f.rest, ap length all, w.if-places-eq0.true)
      | then-places-eq0-via-else-places-eq0+then-digits_in-places w ↦
          omega (arith, f.digits, w.digits_in.ensures ∙ ap (run is_digit) all, ap length all, w.if-digits_in-places.true)
      | then-places-eq0-via-else-places-eq0+else-digits_in-places+then-front-places-gt-MOST_DIGITS w ↦
          omega (arith, ap length f.rest, few_digits p c.requires.front_value, ap length all, w.if-front-places-gt-MOST_DIGITS.true)
    ])

pub appended-whole-requires-clause-all_digits : goal.appended-whole-requires-clause-all_digits
appended-whole-requires-clause-all_digits c =
    let p = shape _ (behind_is c.args.text.now c.args.front) c.requires.front_value c.requires.front_nonzero c.if-text-front-ne46.false c.if-places-eq0.false c.digits_in.ensures c.if-digits_in-places.false c.if-front-places-gt-MOST_DIGITS.false in
    front p

pub appended-whole-requires-clause-digits_bound : goal.appended-whole-requires-clause-digits_bound
appended-whole-requires-clause-digits_bound c =
    let p = shape _ (behind_is c.args.text.now c.args.front) c.requires.front_value c.requires.front_nonzero c.if-text-front-ne46.false c.if-places-eq0.false c.digits_in.ensures c.if-digits_in-places.false c.if-front-places-gt-MOST_DIGITS.false in
    omega (arith, front_small p)

pub appended-requires-clause-all_digits : goal.appended-requires-clause-all_digits
appended-requires-clause-all_digits c =
    let p = shape _ (behind_is c.args.text.now c.args.front) c.requires.front_value c.requires.front_nonzero c.if-text-front-ne46.false c.if-places-eq0.false c.digits_in.ensures c.if-digits_in-places.false c.if-front-places-gt-MOST_DIGITS.false in
    rw (behind_is c.args.text.now c.args.front) p.behind

pub appended-requires-clause-digits_bound : goal.appended-requires-clause-digits_bound
appended-requires-clause-digits_bound c =
    let p = shape _ (behind_is c.args.text.now c.args.front) c.requires.front_value c.requires.front_nonzero c.if-text-front-ne46.false c.if-places-eq0.false c.digits_in.ensures c.if-digits_in-places.false c.if-front-places-gt-MOST_DIGITS.false in
    rw (behind_is c.args.text.now c.args.front, c.appended-whole.ensures) (omega (arith, number_small p))

pub plain_bits-requires-clause-n_bound : goal.plain_bits-requires-clause-n_bound
plain_bits-requires-clause-n_bound c =
    let p = shape _ (behind_is c.args.text.now c.args.front) c.requires.front_value c.requires.front_nonzero c.if-text-front-ne46.false c.if-places-eq0.false c.digits_in.ensures c.if-digits_in-places.false c.if-front-places-gt-MOST_DIGITS.false in
    rw (c.appended.ensures, c.appended-whole.ensures, behind_is c.args.text.now c.args.front) (number_small p)

pub returns : goal.returns
returns c =
    let p = shape _ (behind_is c.args.text.now c.args.front) c.requires.front_value c.requires.front_nonzero c.if-text-front-ne46.false c.if-places-eq0.false c.digits_in.ensures c.if-digits_in-places.false c.if-front-places-gt-MOST_DIGITS.false in
    let all = behind_is c.args.text.now c.args.front in
    reads-number (with_point p) (c.appended.ensures ∙ rw (all, c.appended-whole.ensures) refl) (ap length all) c.plain_bits.ensures
