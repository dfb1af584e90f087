-- The listing of a renter's strips has five numbers for each.
use Rattle.std.proofs.Common.{pos, arith}
use Rattle.strip_book.specs.Renters.{half}
use Rattle.own_strips.proofs.Listed.{listed_length}
use Rattle.renter_art.specs.RenterArt.{strip_count}
use Rattle.renter_art.proofs.count_strips.Goals as goal

pub returns : goal.returns
unfolding strip_count
returns c = omega (arith, c.count_listed.ensures, listed_length 0 (half (pos c.args.renter) c.args.book.now))
