-- The span's ends in lowest terms, or nothing where it is empty.
use Rattle.std.proofs.Common.{sym, subst}
use Rattle.convex.specs.Corners.{corners_of}
use Rattle.corners.specs.Corners.{CornerClipped}
use Rattle.corners.proofs.Answers.{clip_missed, first_time, last_time, clip_kept}
use Rattle.corners.proofs.clipped.Goals as goal

pub returns-then-is_empty : goal.returns-then-is_empty
returns-then-is_empty c =
    let cs = corners_of c.args.c.now in
    subst (CornerClipped cs c.args.s) (sym c.missed.ensures) (clip_missed cs c.args.s c.kept_span-left.ensures (sym c.if-is_empty.ensures))

pub lowest_part-requires-clause-time : goal.lowest_part-requires-clause-time
lowest_part-requires-clause-time c = first_time (corners_of c.args.c.now) c.args.s c.kept_span-left.ensures (sym c.if-is_empty.ensures)

pub lowest_part-requires-2-clause-time : goal.lowest_part-requires-2-clause-time
lowest_part-requires-2-clause-time c = last_time (corners_of c.args.c.now) c.args.s c.kept_span-left.ensures (sym c.if-is_empty.ensures)

pub returns : goal.returns
returns c =
    clip_kept (corners_of c.args.c.now) c.args.s c.kept_span-left.ensures (sym c.if-is_empty.ensures) c.lowest_part.ensures c.lowest_part-2.ensures
