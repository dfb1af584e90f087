-- A digit more is one digit less to come, and no sum on the way is more than the whole number.
use Rattle.std.proofs.Common.{◌≡◌, ◌+◌, ◌-◌, ◌*◌, ◌<◌, ◌^◌, ℕ, List, length, get_or, drop, sym, ap, subst, ◌∙◌, arith}
use lib.ListN.{drop_of_length-le}
use Rattle.decimal.specs.Decimals.{AllDigits, with_digits}
use Rattle.decimal.proofs.Texts.{digit_range, next_digit, next_rest, next_number, next_below, with_digits-nil}
use Rattle.decimal.proofs.appended.Goals as goal

-- of a loop that has read i of the digits: the sum with the next one
sum : (n number i : ℕ) (ds : List ℕ) → i < length ds → AllDigits (drop i ds) → with_digits number (drop i ds) ≡ with_digits n ds
    → with_digits n ds < 2 ^ 32 → number * 10 + (get_or ds i 0 - 48) < 2 ^ 32
sum n number i ds h a e l = next_below ds i h a number (subst (λ (x : ℕ). x < 2 ^ 32) (sym e) l)

pub overflow_mul-number : goal.overflow_mul-number
overflow_mul-number c =
    omega (
      arith,
      sum c.args.n c.loop-digit.number c.loop-digit.digit-index c.args.digits.now (omega arith) c.loop-digit.invariant.1 c.loop-digit.invariant.0
          c.requires.digits_bound,
    )

pub overflow_sub-digit : goal.overflow_sub-digit
overflow_sub-digit c = (digit_range _ (next_digit c.args.digits.now c.loop-digit.digit-index (omega arith) c.loop-digit.invariant.1)).0

pub overflow_add-number : goal.overflow_add-number
overflow_add-number c =
    omega (
      arith,
      c.from.ensures,
      sum c.args.n c.loop-digit.number c.loop-digit.digit-index c.args.digits.now (omega arith) c.loop-digit.invariant.1 c.loop-digit.invariant.0 c.requires.digits_bound,
    )

pub loop-digit-preserved : goal.loop-digit-preserved
loop-digit-preserved c =
    let ds = c.args.digits.now in
    let i = c.loop-digit.digit-index in
    let a = c.loop-digit.invariant.1 in
    (rw c.from.ensures (sym (next_number ds i c.loop-digit-test.true a c.loop-digit.number) ∙ c.loop-digit.invariant.0), next_rest ds i c.loop-digit-test.true a)

pub returns : goal.returns
returns c = sym (sym c.loop-digit.invariant.0 ∙ ap (with_digits c.loop-digit.number) (drop_of_length-le _ c.loop-digit-test.false) ∙ with_digits-nil _)
