-- The strip, the rows and the count, one after another.
use Rattle.text.proofs.Puts.{put_then}
use Rattle.lines.specs.Lines.{listed}
use borrow.Author.Rules.{rules}
use Rattle.lines.proofs.put_listing.Statement.{statement}
use Rattle.lines.proofs.put_listing.Tie as tie

put-strip-requires : tie.Need-put_strip-first-requires
put-strip-requires c κs = search rules

put-rows-requires : tie.Need-put_rows-last-requires
put-rows-requires c κs = search rules

put-kept-requires : tie.Need-put_kept-requires
put-kept-requires c κs = search rules

same_length : tie.Need-shape_of-page
same_length c = search rules

returns : tie.Need-returns
unfolding listed
returns c =
    let at₃ = c.before.before in
    let at₂ = at₃.before.before.before.before in
    let at₁ = at₂.before.before.before.before in
    put_then (put_then at₁.put_strip-first.ensures.0 at₂.put_rows-last.ensures.0) at₃.put_kept.ensures.0

pub put_listing_spec : {M : Type 1} → statement M
put_listing_spec =
    tie.close
    (tie.spec
    put-strip-requires
    put-rows-requires
    put-kept-requires
    same_length
    returns)
