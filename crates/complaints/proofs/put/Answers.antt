-- Five pieces, one after the other.
use Rattle.std.proofs.Common.{Option, ap, subst}
use Rattle.text.specs.Pages.{Put}
use Rattle.text.proofs.Puts.{put_then}
use Rattle.slips.specs.declared.Slip.{Slip}
use Rattle.complaints.specs.Complaints.{remark, complaint}
use Rattle.complaints.proofs.put.Goals as goal

pub returns : goal.returns
unfolding complaint
returns c =
    let fault = c.args.fault in
    let words = subst (Put _ _ _ _) (ap (λ (s : Option Slip). remark s fault) c.shown-slip.ensures) c.put_said-d.ensures.put in
    put_then (put_then (put_then (put_then c.put-a.ensures c.put_natural-b.ensures.put) c.put-c.ensures) words) c.put.ensures
