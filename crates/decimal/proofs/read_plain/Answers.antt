-- The first digits end the text, or a point must follow them.
use Rattle.std.proofs.Common.{◌≡◌, ◌<◌, ◌≤◌, ◌^◌, ℕ, List, length, refl, arith, le_antisymm}
use Rattle.text.specs.Runs.{run}
use Rattle.text.proofs.Runs.{run_le}
use Rattle.decimal.specs.Decimals.{is_digit, AllDigits, with_digits}
use Rattle.decimal.specs.Workers.{nothing}
use Rattle.decimal.proofs.Shapes.{digits_of_all, small, some_digits, few_digits, whole_number}
use Rattle.decimal.proofs.Shapes.{reads as reads-number}
use Rattle.decimal.proofs.read_plain.Goals as goal

pub returns-then-front-eq0 : goal.returns-then-front-eq0
returns-then-front-eq0 c = nothing (λ n k p. omega (arith, some_digits p c.digits_in-front.ensures))

pub returns-then-front-gt-MOST_DIGITS : goal.returns-then-front-gt-MOST_DIGITS
returns-then-front-gt-MOST_DIGITS c = nothing (λ n k p. omega (arith, few_digits p c.digits_in-front.ensures))

-- the text is digits alone
all : {t : List ℕ} {f : ℕ} → f ≡ run is_digit t → length t ≤ f → AllDigits t
all {t} e h = digits_of_all t (le_antisymm (run_le is_digit t) (omega arith))

pub appended-requires-clause-all_digits : goal.appended-requires-clause-all_digits
appended-requires-clause-all_digits c = all c.digits_in-front.ensures c.if-front-text.false

few : (t : List ℕ) {f : ℕ} → f ≡ run is_digit t → length t ≤ f → f ≤ 9 → with_digits 0 t < 10 ^ 9
few t e h l = small (all e h) (omega arith)

pub appended-requires-clause-digits_bound : goal.appended-requires-clause-digits_bound
appended-requires-clause-digits_bound c = omega (arith, few _ c.digits_in-front.ensures c.if-front-text.false c.if-front-gt-MOST_DIGITS.false)

pub plain_bits-requires-clause-n_bound : goal.plain_bits-requires-clause-n_bound
plain_bits-requires-clause-n_bound c =
    omega (arith, c.appended.ensures, few _ c.digits_in-front.ensures c.if-front-text.false c.if-front-gt-MOST_DIGITS.false)

pub returns : goal.returns
returns c =
    let a = all c.digits_in-front.ensures c.if-front-text.false in
    reads-number (whole_number _ (omega (arith, run_le is_digit c.args.text.now, c.digits_in-front.ensures)) (omega arith) a) c.appended.ensures refl c.plain_bits.ensures
