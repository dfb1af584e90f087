-- Each return is one case, by the test that led there.
use Rattle.std.proofs.Common.{◌≡◌, List, sym, subst, rules}
use lib.IntN.{ℤ}
use Rattle.limits.specs.Sides.{window_of}
use Rattle.limits.specs.Limits.{limit_line}
use Rattle.memory.specs.Memory.{point_of}
use Rattle.memory.specs.Tagged.{tag_in, put_at}
use Rattle.crossings.specs.Meetings.{Meeting}
use Rattle.later_pass.specs.Later.{Entered, on_line, crosses}
use Rattle.later_pass.proofs.enter.Goals as goal

pub returns-then-there : goal.returns-then-there
returns-then-there c = on_line c.if-there.true

pub returns : goal.returns
returns c =
    let a = c.args in
    let w = window_of a.numbers.now in
    let m = a.m.now in
    let p = point_of c.crossing.result in
    let wrote : c.put.new.m ≡ put_at m a.o p (tag_in m a.o) = search rules in
    let met : Meeting w a.outline.now (limit_line a.l) (tag_in m a.o) p = search rules in
    subst (λ (n : List ℤ). Entered w a.outline.now (limit_line a.l) a.there m a.o n a.o) (sym wrote) (crosses c.if-there.false met)
