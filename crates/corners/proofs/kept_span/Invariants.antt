-- The span is what the edges from the first k corners leave.
use Rattle.convex.specs.Corners.{corners_of}
use Rattle.spans.specs.Spans.{largest, KeptBy}
use Rattle.corners.specs.Edges.{first_conditions}
use Rattle.corners.proofs.kept_span.Given as goal

abbrev pub invariant-loop-k : goal.invariant-loop-k
invariant-loop-k l = KeptBy largest (first_conditions (corners_of l.c) l.s l.k) l.kept
