-- A turn cuts the span by the edge from the corner k to the next, which after the last is the first.
use Rattle.std.proofs.Common.{◌≡◌, ◌<◌, ◌+◌, ◌*◌, ℕ, suc, [], length, sym, ap, subst, ◌∙◌, arith}
use Rattle.convex.specs.Corners.{corners_of, next}
use Rattle.convex.specs.Ways.{corner_at}
use Rattle.convex.proofs.Places.{count}
use Rattle.spans.specs.Spans.{largest, KeptBy}
use Rattle.spans.proofs.SidedCuts.{kept_by_none}
use Rattle.corners.specs.Edges.{first_conditions}
use Rattle.corners.proofs.Edges.{ahead, ahead_below, edges_more}
use Rattle.corners.proofs.kept_span.Goals as goal

pub loop-k-init : goal.loop-k-init
loop-k-init c = subst (KeptBy largest []) (sym c.whole-kept.ensures) (kept_by_none (omega arith))

pub overflow_mul-next_of : goal.overflow_mul-next_of
overflow_mul-next_of c =
    let zs = c.args.c.now in
    let k = c.loop-k.k in
    let below : k < length (corners_of zs) = omega (arith, count zs) in
    let led : c.next_of.result ≡ ahead zs k = c.next_of.ensures ∙ ap (λ (n : ℕ). next n k) (sym (count zs)) in
    omega (arith, led, ahead_below c.requires.corners_on_table k below, count zs, c.requires.corners_on_table.few)

pub corner_at-b-requires : goal.corner_at-b-requires
corner_at-b-requires c =
    let zs = c.args.c.now in
    let k = c.loop-k.k in
    let below : k < length (corners_of zs) = omega (arith, count zs) in
    let led : c.next_of.result ≡ ahead zs k = c.next_of.ensures ∙ ap (λ (n : ℕ). next n k) (sym (count zs)) in
    omega (arith, led, ahead_below c.requires.corners_on_table k below, count zs)

pub loop-k-preserved : goal.loop-k-preserved
loop-k-preserved c =
    let zs = c.args.c.now in
    let k = c.loop-k.k in
    let below : k < length (corners_of zs) = omega (arith, count zs) in
    let led : c.next_of.result ≡ ahead zs k = c.next_of.ensures ∙ ap (λ (n : ℕ). next n k) (sym (count zs)) in
    let next_corner = c.corner_at-b.ensures ∙ ap (λ (j : ℕ). corner_at zs (2 * j)) led in
    let after : suc k ≡ k + 1 = omega arith in
    subst (λ (n : ℕ). KeptBy largest (first_conditions (corners_of zs) c.args.s n) c.cut_by_edge-kept.result) after
    (edges_more c.requires.corners_on_table k below c.requires.stroke_on_table c.loop-k.invariant c.corner_at-a.ensures next_corner
    c.cut_by_edge-kept.ensures)

pub returns : goal.returns
returns c =
    let zs = c.args.c.now in
    let all : c.loop-k.k ≡ length (corners_of zs) = omega (arith, count zs) in
    subst (λ (n : ℕ). KeptBy largest (first_conditions (corners_of zs) c.args.s n) c.loop-k.kept) all c.loop-k.invariant
