-- Zero has the pattern 0, and any other number is left to `nearest_bits`.
use mathlib.Core.Path.{sym, ap, ap₂, ◌∙◌}
use mathlib.Core.Bool.{false}
use native.Mathlib.Nat.{one-le-pow, pow-le-pow_right}
use native.Mathlib.Omega.{arith}
use lib.Dec.{lit<}
use lib.Ieee.{binary32, round, to_bits}
use Rattle.decimal.specs.Decimals.{bits_of}
use Rattle.decimal.proofs.Patterns.{zero_bits}
use Rattle.decimal.proofs.plain_bits.Goals as goal

pub returns-then-n-eq0 : goal.returns-then-n-eq0
unfolding bits_of
returns-then-n-eq0 c = (sym (ap (λ n. bits_of false n c.args.places) c.if-n-eq0.true ∙ zero_bits false _ (one-le-pow c.args.places 10 (lit< tt))), lit< tt)

pub nearest_bits-requires-clause-d_nonzero : goal.nearest_bits-requires-clause-d_nonzero
nearest_bits-requires-clause-d_nonzero c = let k = c.args.places in
    omega (arith, c.pow.ensures, one-le-pow k 10 (lit< tt), pow-le-pow_right {n = 10} (lit< tt) {i = k} {j = 9} c.requires.places_bound)

pub returns : goal.returns
unfolding bits_of
returns c = (
  c.nearest_bits.ensures.0 ∙ ap₂ (λ n d. to_bits binary32 (round binary32 false n d)) c.from.ensures c.pow.ensures,
  c.nearest_bits.ensures.1,
)
