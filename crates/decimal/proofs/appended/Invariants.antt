-- The digits read so far, followed by those left, spell the same number.
use Rattle.std.proofs.Common.{◌≡◌, drop}
use Rattle.decimal.specs.Decimals.{AllDigits, with_digits}
use Rattle.decimal.proofs.appended.Given as goal

abbrev pub invariant-loop-digit : goal.invariant-loop-digit
invariant-loop-digit l =
    (with_digits l.number (drop l.digit-index l.digits) ≡ with_digits l.n l.digits) × AllDigits (drop l.digit-index l.digits)
