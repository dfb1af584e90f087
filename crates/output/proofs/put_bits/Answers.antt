-- A number below 2 ^ 32 has at most eight hexadecimal digits, and is filled up to eight.
use mathlib.Core.Path.{◌≡◌, ap, ◌∙◌, subst}
use Prim.Native.Nat.{◌≤◌}
use native.Mathlib.Omega.{arith}
use lib.Dec.{lit<, lit≤}
use Rattle.io.specs.Digits as Io
use Rattle.text.specs.Pages.{Put}
use Rattle.text.proofs.Numbers.{enough}
use Rattle.output.specs.Written.{bits_text}
use Rattle.output.proofs.put_bits.Goals as goal

pub put-requires : goal.put-requires
put-requires c =
    let most : c.hex-count.result ≤ 8 = enough 16 8 8 (lit< tt) (lit≤ tt) c.ranges.bits.fits c.hex-count.ensures.len in
    omega (arith, c.hex-count.ensures.in_bounds)

pub returns-clause-put : goal.returns-clause-put
unfolding bits_text
returns-clause-put c =
    let most : c.hex-count.result ≤ 8 = enough 16 8 8 (lit< tt) (lit≤ tt) c.ranges.bits.fits c.hex-count.ensures.len in
    let eight : c.hex-count.result ≡ 8 = omega (arith, c.hex-count.ensures.len.0) in
    subst (Put _ _ _ _) (c.hex-count.ensures.digits ∙ ap (λ k. Io.last_digits 16 k c.args.bits) eight) c.put.ensures

pub returns-clause-upper_bound : goal.returns-clause-upper_bound
returns-clause-upper_bound c =
    let most : c.hex-count.result ≤ 8 = enough 16 8 8 (lit< tt) (lit≤ tt) c.ranges.bits.fits c.hex-count.ensures.len in
    omega (arith, c.hex-count.ensures.in_bounds, c.put.ensures.ends)
