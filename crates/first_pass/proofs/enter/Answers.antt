-- Each return is one case, by the test that led there.
use Rattle.std.proofs.Common.{◌≡◌, ◌+◌, List, sym, subst, rules}
use lib.IntN.{ℤ, pos}
use mir.Facts.{to_z_pos}
use Rattle.limits.specs.Limits.{limit_line}
use Rattle.memory.specs.Memory.{point_of}
use Rattle.memory.specs.Tagged.{put_at}
use Rattle.first_pass.specs.First.{EnteredOwn, on_line, crosses}
use Rattle.first_pass.proofs.enter.Goals as goal

pub returns-then-there : goal.returns-then-there
returns-then-there c = on_line c.if-there.true

pub returns : goal.returns
returns c =
    let a = c.args in
    let m = a.m.now in
    let wrote : c.put.new.m ≡ put_at m a.at (point_of c.edge_crossing.result) (pos a.k) = search (rules, to_z_pos) in
    subst (λ (n : List ℤ). EnteredOwn a.outline.now (limit_line a.l) a.there a.k m a.at n (a.at + 1)) (sym wrote)
    (crosses c.if-there.false c.edge_crossing.ensures)
