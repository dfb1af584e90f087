-- `strokes::plain::outside` meets its contract: what `beyond` says of the numbers as they are read. Assumes nothing.
use lib.IntN.{ℤ}
use Rattle.strokes.specs.declared.plain.Plainly.TheVariants.{Outside}
use Rattle.strokes.specs.Workers.{MayReach, LiesAlong}
use Rattle.strokes.proofs.Reading.{four_plain}
use Rattle.strokes.proofs.plain.outside.Goals as goal

-- what `beyond` says of a way when it answers true
abbrev Beyond : ℤ → ℤ → ℤ → ℤ → Type 0
Beyond lo hi a b = LiesAlong lo hi a b Outside

pub returns-then-beyond-clause-fact : goal.returns-then-beyond-clause-fact
returns-then-beyond-clause-fact c e n d k =
    let w = c.struct_told-1.given in
    let s = c.struct_told-3-1.given in
    four_plain Beyond w.1.0.1 w.1.1.1.0.1 s.1.0.1 s.1.1.1.0.1 (c.beyond.ensures.fact c.if-beyond.true) n d k.time k.y

pub returns-else-beyond-clause-fact : goal.returns-else-beyond-clause-fact
returns-else-beyond-clause-fact c e n d k =
    let w = c.struct_told-1.given in
    let s = c.struct_told-3-1.given in
    four_plain Beyond w.0.1 w.1.1.0.1 s.0.1 s.1.1.0.1 (c.beyond-else-beyond.ensures.fact e) n d k.time k.x

pub returns-else-beyond-clause-reaching : goal.returns-else-beyond-clause-reaching
returns-else-beyond-clause-reaching c e =
    let w = c.struct_told-1.given in
    let s = c.struct_told-3-1.given in
    record {
      x = four_plain MayReach w.0.1 w.1.1.0.1 s.0.1 s.1.1.0.1 (c.beyond-else-beyond.ensures.may_reach e);
      y = four_plain MayReach w.1.0.1 w.1.1.1.0.1 s.1.0.1 s.1.1.1.0.1 (c.beyond.ensures.may_reach c.if-beyond.false);
    }
