-- `gerlyantu::gerlyantu_list_strips` meets its contract: the renter as it is read is the renter. Assumes nothing.
use mathlib.Core.Path.{subst}
use borrow.Author.Rules.{rules}
use lib.IntN.{ℤ}
use mir.Facts.{to_z-of_z}
use Rattle.own_strips.specs.OwnStrips.{ListStrips}
use Rattle.gerlyantu.proofs.gerlyantu_list_strips.Statement.{statement}
use Rattle.gerlyantu.proofs.gerlyantu_list_strips.Tie as tie

list-strips-requires : tie.Need-list_strips-requires
list-strips-requires c κs = search rules

same_length : tie.Need-shape_of-out
same_length c = search rules

returns : tie.Need-returns
returns c =
    let s = c.before.before.before in
    let listed = c.before.list_strips in
    let promised : ℤ → Type 0 = λ renter. ListStrips renter s.args.book.now listed.result s.args.out.now listed.new.out in
    subst promised (to_z-of_z s.ranges.renter) listed.ensures

pub gerlyantu_list_strips_spec : {M : Type 1} → statement M
gerlyantu_list_strips_spec = tie.close (tie.spec list-strips-requires same_length returns)
