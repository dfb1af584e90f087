-- A refusal has its line alone, and any other drawing is cut.
use Rattle.cutting.proofs.Theorems.{cut_of_lem}
use Rattle.reports.proofs.Reported.{refused_report, cut_report}
use Rattle.listing.proofs.list.Goals as goal

pub returns-in-Err-clause-listing : goal.returns-in-Err-clause-listing
returns-in-Err-clause-listing c = (refused_report c.in-Err.ensures c.put_refusal.ensures.put).0

pub returns-in-Ok-clause-listing : goal.returns-in-Ok-clause-listing
returns-in-Ok-clause-listing c = (cut_report (cut_of_lem c.in-Ok.ensures) c.put_listing.ensures).0
