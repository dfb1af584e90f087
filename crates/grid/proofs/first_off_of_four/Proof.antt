-- `grid::first_off_of_four` meets its contract: the numbers are tested in order, and those before the first that is off are on the table. Assumes nothing.
use mathlib.Core.Path.{◌≡◌, sym, ap, ◌∙◌}
use mathlib.Core.Bool.{Bool, true, false, not}
use lib.IntN.{ℤ}
use mir.Syntax.{w32}
use mir.Val.{SFits, to_z, of_z}
use mir.Facts.{to_z-of_z}
use borrow.Author.Rules.{rules}
use borrow.Author.Tests.{not-true, not-false}
use Rattle.grid.specs.Table.{on_table}
use Rattle.grid.proofs.Ranges.{off_here, off_later, off_none}
use Rattle.grid.proofs.first_off_of_four.Statement.{statement}
use Rattle.grid.proofs.first_off_of_four.Tie as tie

-- a test of a parameter
off : {r : Bool} {z : ℤ} → SFits w32 z → r ≡ on_table (to_z w32 (of_z w32 z)) → not r ≡ true → on_table z ≡ false
off f e t = sym (e ∙ ap on_table (to_z-of_z f)) ∙ not-true _ t

on : {r : Bool} {z : ℤ} → SFits w32 z → r ≡ on_table (to_z w32 (of_z w32 z)) → not r ≡ false → on_table z ≡ true
on f e t = sym (e ∙ ap on_table (to_z-of_z f)) ∙ not-false _ t

a_on : (c : tie.Else-not-on_table) → on_table c.before.before.args.a ≡ true
a_on c = on c.before.before.ranges.a c.before.on_table.ensures c.if-not-on_table.false-raw

b_on : (c : tie.Else-not-on_table-2) → on_table c.before.before.before.before.args.b ≡ true
b_on c = on c.before.before.before.before.ranges.b c.before.on_table-2.ensures c.if-not-on_table-2.false-raw

c_on : (c : tie.Else-not-on_table-3) → on_table c.before.before.before.before.before.before.args.c ≡ true
c_on c = on c.before.before.before.before.before.before.ranges.c c.before.on_table-3.ensures c.if-not-on_table-3.false-raw

d_on : (c : tie.Else-not-on_table-4) → on_table c.before.before.before.before.before.before.before.before.args.d ≡ true
d_on c = on c.before.before.before.before.before.before.before.before.ranges.d c.before.on_table-4.ensures c.if-not-on_table-4.false-raw

on-table-requires : tie.Need-on_table-requires
on-table-requires c κs = search rules

returns : tie.Need-returns-then-not-on_table
returns c = off_here _ _ (off c.before.before.ranges.a c.before.on_table.ensures c.if-not-on_table.true-raw)

on-table-requires-2 : tie.Need-on_table-requires-2
on-table-requires-2 c κs = search rules

returns-2 : tie.Need-returns-then-not-on_table-2
returns-2 c =
    let e1 = c.before.before in
    off_later _ _ (a_on e1) (off_here _ _ (off e1.before.before.ranges.b c.before.on_table-2.ensures c.if-not-on_table-2.true-raw))

on-table-requires-3 : tie.Need-on_table-requires-3
on-table-requires-3 c κs = search rules

returns-3 : tie.Need-returns-then-not-on_table-3
returns-3 c =
    let e2 = c.before.before in
    let e1 = e2.before.before in
    off_later _ _ (a_on e1) (off_later _ _ (b_on e2) (off_here _ _ (off e1.before.before.ranges.c c.before.on_table-3.ensures c.if-not-on_table-3.true-raw)))

on-table-requires-4 : tie.Need-on_table-requires-4
on-table-requires-4 c κs = search rules

returns-4 : tie.Need-returns-then-not-on_table-4
returns-4 c =
    let e3 = c.before.before in
    let e2 = e3.before.before in
    let e1 = e2.before.before in
    let d = off_here _ _ (off e1.before.before.ranges.d c.before.on_table-4.ensures c.if-not-on_table-4.true-raw) in
    off_later _ _ (a_on e1) (off_later _ _ (b_on e2) (off_later _ _ (c_on e3) d))

returns-5 : tie.Need-returns
returns-5 c =
    let e3 = c.before.before in
    let e2 = e3.before.before in
    let e1 = e2.before.before in
    off_later _ _ (a_on e1) (off_later _ _ (b_on e2) (off_later _ _ (c_on e3) (off_later _ _ (d_on c) off_none)))

pub first_off_of_four_spec : {M : Type 1} → statement M
first_off_of_four_spec =
    tie.close
    (tie.spec
    on-table-requires
    returns
    on-table-requires-2
    returns-2
    on-table-requires-3
    returns-3
    on-table-requires-4
    returns-4
    returns-5)
