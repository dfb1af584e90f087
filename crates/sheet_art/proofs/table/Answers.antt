-- Its four numbers are those of the definition.
use Rattle.std.proofs.Common.{refl}
use Rattle.sheet_art.specs.SheetArt.{table}
use Rattle.sheet_art.proofs.table.Goals as goal

pub returns : goal.returns
unfolding table
returns c = refl
