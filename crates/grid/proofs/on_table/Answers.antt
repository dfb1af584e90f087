-- The two tests are the definition's.
use mir.Facts.{to_z-of_z}
use Rattle.grid.specs.Table.{on_table}
use Rattle.grid.proofs.on_table.Goals as goal

pub returns-then-x-geminus16383 : goal.returns-then-x-geminus16383
unfolding on_table
returns-then-x-geminus16383 c = let f = c.ranges.x in simp (to_z-of_z f, simp (to_z-of_z f) at c.if-x-geminus16383.true)

pub returns-else-x-geminus16383 : goal.returns-else-x-geminus16383
unfolding on_table
returns-else-x-geminus16383 c = let f = c.ranges.x in simp (to_z-of_z f, simp (to_z-of_z f) at c.if-x-geminus16383.false)
