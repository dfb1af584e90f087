-- Four numbers are read.
use Rattle.std.proofs.Common.{◌∙◌, sym, subst, SFits, arith}
use mir.Syntax.{w16}
use Rattle.whole.proofs.Comparisons.{back}
use Rattle.racks.proofs.Common.{read_both}
use Rattle.racks.proofs.overlap_at.Goals as goal

pub overlap-requires : goal.overlap-requires
overlap-requires c =
    subst (SFits w16) (sym (read_both _ _ _ _ (omega arith) (omega arith) (omega arith) (omega arith))) c.requires.sfits

pub returns : goal.returns
returns c =
    back w16 c.overlap.result c.overlap.type_inv ∙ c.overlap.ensures
    ∙ read_both _ _ _ _ (omega arith) (omega arith) (omega arith) (omega arith)
