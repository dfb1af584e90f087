-- Four stores, one after the other, of numbers that fit.
use Rattle.racks.proofs.Holding.{short_fits, put_holds}
use Rattle.racks.proofs.put.Goals as goal

pub overflow_cast-left : goal.overflow_cast-left
overflow_cast-left c = short_fits c.requires.window_on_table.left

pub overflow_cast-bottom : goal.overflow_cast-bottom
overflow_cast-bottom c = short_fits c.requires.window_on_table.bottom

pub overflow_cast-right : goal.overflow_cast-right
overflow_cast-right c = short_fits c.requires.window_on_table.right

pub overflow_cast-top : goal.overflow_cast-top
overflow_cast-top c = short_fits c.requires.window_on_table.top

pub returns : goal.returns
returns c ws e hold = put_holds c.requires.n_bound c.requires.window_on_table e hold
