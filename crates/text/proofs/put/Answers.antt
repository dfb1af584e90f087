-- The word was copied into its part of the page.
use Rattle.std.proofs.Common.{arith}
use Rattle.text.proofs.Puts.{put_copied}
use Rattle.text.proofs.put.Goals as goal

pub returns : goal.returns
returns c = put_copied c.args.page.now c.args.word.now c.args.at _ c.copy_from_slice.ensures.after (omega arith) (omega arith)
