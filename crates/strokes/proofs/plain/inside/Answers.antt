-- `strokes::plain::inside` meets its contract: what `between` says of the numbers as they are read. Assumes nothing.
use Rattle.strokes.specs.Workers.{EndsBetween}
use Rattle.strokes.proofs.Reading.{four_plain}
use Rattle.strokes.proofs.plain.inside.Goals as goal

pub returns-then-between-clause-ends_inside : goal.returns-then-between-clause-ends_inside
returns-then-between-clause-ends_inside c e =
    let w = c.struct_told-1.given in
    let s = c.struct_told-3-1.given in
    record {
      x = four_plain EndsBetween w.0.1 w.1.1.0.1 s.0.1 s.1.1.0.1 (c.between.ensures.ends_between c.if-between.true);
      y = four_plain EndsBetween w.1.0.1 w.1.1.1.0.1 s.1.0.1 s.1.1.1.0.1 (c.between-then-between.ensures.ends_between e);
    }

pub returns-then-between-clause-fact : goal.returns-then-between-clause-fact
returns-then-between-clause-fact c e k =
    let w = c.struct_told-1.given in
    let s = c.struct_told-3-1.given in
    four_plain (λ lo hi a b. EndsBetween lo hi a b → ⊥) w.1.0.1 w.1.1.1.0.1 s.1.0.1 s.1.1.1.0.1 (c.between-then-between.ensures.fact e) k.y
