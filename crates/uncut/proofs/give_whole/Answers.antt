-- Without room nothing is written. With room, the corners from the lowest to the end are, and behind them those before it.
use Rattle.std.proofs.Common.{◌≡◌, ◌-◌, ◌*◌, ◌≤◌, length, take, drop, length-drop, sym, arith}
use lib.Seq.{take_all, length-take-le}
use Rattle.convex.specs.Corners.{corners_of}
use Rattle.lowest.proofs.Lowest.{turned_at, lowest_starts}
use Rattle.writing.proofs.Writing.{wrote_same, wrote_rest, gave_short, gave_wrote}
use Rattle.uncut.proofs.OwnCorners.{four_a_corner, four_before, four_behind, own_started}
use Rattle.uncut.proofs.give_whole.Goals as goal

pub slice_bounds-write_corners-end-then-need-out : goal.slice_bounds-write_corners-end-then-need-out
slice_bounds-write_corners-end-then-need-out c = sym (length-take-le _ _ (omega arith))

pub returns-then-need-out : goal.returns-then-need-out
returns-then-need-out c =
    let zs = c.args.outline.now in
    let k = c.lowest_corner-start.result in
    let b : 2 * k ≤ length zs = omega arith in
    let even = c.requires.outline_len in
    let e : take (length zs - 2 * k) (drop (2 * k) zs) ≡ drop (2 * k) zs = take_all (length zs - 2 * k) (drop (2 * k) zs) (omega (arith, length-drop (2 * k) zs)) in
    gave_wrote (four_a_corner zs even) (turned_at (corners_of zs) k) (lowest_starts c.requires.ring c.lowest_corner-start.ensures.lowest)
    (wrote_same (own_started zs k)
    (wrote_rest (2 * (length zs - 2 * k)) (four_behind zs k even) (omega (arith, four_before zs k b, c.if-need-out.true))
    (rw e at c.write_corners.ensures) c.write_corners-then-need-out.ensures))

pub returns-else-need-out : goal.returns-else-need-out
returns-else-need-out c = gave_short (four_a_corner c.args.outline.now c.requires.outline_len) c.requires.ring c.if-need-out.false
