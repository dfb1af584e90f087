-- `strokes::ways::passage` meets its contract: each case of where the two ends lie has its law. Assumes nothing.
use mathlib.Core.Path.{sym, subst₂}
use lib.IntN.{ℤ}
use lib.Signed.{◌≤ℤ◌, ◌<ℤ◌}
use mir.Syntax.{w32}
use mir.Facts.{to_z-of_z}
use Rattle.whole.proofs.Comparisons.{lt_taken, lt_left}
use Rattle.whole.proofs.Order.{zarith}
use Rattle.strokes.specs.Workers.{Ranged, WayOf}
use Rattle.strokes.proofs.Places.{up_across, up_into, up_out, down_across, down_into, down_out, all_on_lem}
use Rattle.strokes.proofs.Reading.{ranged_read, risen_plain, fallen_plain}
use Rattle.strokes.proofs.ways.passage.Statement.{statement}
use Rattle.strokes.proofs.ways.passage.Tie as tie

-- up through both sides
up_across_ranged : (c : tie.Then-hi-b) → let g = c.before.before.args in Ranged g.a g.lo g.hi g.b
up_across_ranged c =
    let g = c.before.before.args in
    let f = c.before.before.ranges in
    let p = c.before.before.requires in
    let t0 : g.a <ℤ g.lo = lt_taken w32 f.a f.lo c.before.if-a-lo.true in
    let t1 : g.hi <ℤ g.b = lt_taken w32 f.hi f.b c.if-hi-b.true in
    let area = p.1.1.1.1.0 in
    let reach = p.1.1.1.1.1.up t0 in
    record { a_on = p.1.1.0; b_on = p.0; c_on = p.1.0; d_on = p.1.1.1.0; first = omega zarith; middle = omega zarith; last = omega zarith; some = omega zarith }

rising-requires : tie.Need-rising-requires
rising-requires c κs = ranged_read (up_across_ranged c)

returns : tie.Need-returns-then-hi-b
returns c = let g = up_across_ranged c.before in up_across g (risen_plain g c.rising.ensures)

-- up, and in
up_into_ranged : (c : tie.Else-hi-b) → let g = c.before.before.args in Ranged g.a g.lo g.b g.b
up_into_ranged c =
    let g = c.before.before.args in
    let f = c.before.before.ranges in
    let p = c.before.before.requires in
    let t0 : g.a <ℤ g.lo = lt_taken w32 f.a f.lo c.before.if-a-lo.true in
    let t1 : g.b ≤ℤ g.hi = lt_left w32 f.hi f.b c.if-hi-b.false in
    let area = p.1.1.1.1.0 in
    let reach = p.1.1.1.1.1.up t0 in
    record {
      a_on = p.1.1.0;
      b_on = p.0;
      c_on = p.1.1.1.0;
      d_on = p.1.1.1.0;
      first = omega zarith;
      middle = omega zarith;
      last = omega zarith;
      some = omega zarith;
    }

rising-requires-2 : tie.Need-rising-requires-then-a-lo
rising-requires-2 c κs = ranged_read (up_into_ranged c)

returns-2 : tie.Need-returns-then-a-lo
returns-2 c = let g = up_into_ranged c.before in let f = c.before.before.before.ranges in
    up_into g (lt_left w32 f.hi f.b c.before.if-hi-b.false) (risen_plain g c.rising-then-a-lo.ensures)

-- down through both sides
down_across_ranged : (c : tie.Then-b-lo) → let g = c.before.before.before.args in Ranged g.b g.lo g.hi g.a
down_across_ranged c =
    let g = c.before.before.before.args in
    let f = c.before.before.before.ranges in
    let p = c.before.before.before.requires in
    let t0 : g.lo ≤ℤ g.a = lt_left w32 f.a f.lo c.before.before.if-a-lo.false in
    let t1 : g.hi <ℤ g.a = lt_taken w32 f.hi f.a c.before.if-hi-a.true in
    let t2 : g.b <ℤ g.lo = lt_taken w32 f.b f.lo c.if-b-lo.true in
    let area = p.1.1.1.1.0 in
    record { a_on = p.1.1.1.0; b_on = p.0; c_on = p.1.0; d_on = p.1.1.0; first = omega zarith; middle = omega zarith; last = omega zarith; some = omega zarith }

falling-requires : tie.Need-falling-requires
falling-requires c κs = ranged_read (down_across_ranged c)

returns-3 : tie.Need-returns-then-b-lo
returns-3 c = let g = down_across_ranged c.before in down_across g (fallen_plain g c.falling.ensures)

-- down, and in
down_into_ranged : (c : tie.Else-b-lo) → let g = c.before.before.before.args in Ranged g.b g.b g.hi g.a
down_into_ranged c =
    let g = c.before.before.before.args in
    let f = c.before.before.before.ranges in
    let p = c.before.before.before.requires in
    let t0 : g.lo ≤ℤ g.a = lt_left w32 f.a f.lo c.before.before.if-a-lo.false in
    let t1 : g.hi <ℤ g.a = lt_taken w32 f.hi f.a c.before.if-hi-a.true in
    let t2 : g.lo ≤ℤ g.b = lt_left w32 f.b f.lo c.if-b-lo.false in
    let area = p.1.1.1.1.0 in
    let reach = p.1.1.1.1.1.down t0 t2 t1 in
    record {
      a_on = p.1.1.1.0;
      b_on = p.1.1.1.0;
      c_on = p.1.0;
      d_on = p.1.1.0;
      first = omega zarith;
      middle = omega zarith;
      last = omega zarith;
      some = omega zarith;
    }

falling-requires-2 : tie.Need-falling-requires-then-hi-a
falling-requires-2 c κs = ranged_read (down_into_ranged c)

returns-4 : tie.Need-returns-then-hi-a
returns-4 c = let g = down_into_ranged c.before in let f = c.before.before.before.before.ranges in
    down_into g (lt_left w32 f.b f.lo c.before.if-b-lo.false) (fallen_plain g c.falling-then-hi-a.ensures)

-- down, and out
down_out_ranged : (c : tie.Then-b-lo-2) → let g = c.before.before.before.args in Ranged g.b g.lo g.a g.a
down_out_ranged c =
    let g = c.before.before.before.args in
    let f = c.before.before.before.ranges in
    let p = c.before.before.before.requires in
    let t0 : g.lo ≤ℤ g.a = lt_left w32 f.a f.lo c.before.before.if-a-lo.false in
    let t1 : g.a ≤ℤ g.hi = lt_left w32 f.hi f.a c.before.if-hi-a.false in
    let t2 : g.b <ℤ g.lo = lt_taken w32 f.b f.lo c.if-b-lo-2.true in
    let area = p.1.1.1.1.0 in
    record {
      a_on = p.1.1.1.0;
      b_on = p.0;
      c_on = p.1.1.0;
      d_on = p.1.1.0;
      first = omega zarith;
      middle = omega zarith;
      last = omega zarith;
      some = omega zarith;
    }

falling-requires-3 : tie.Need-falling-requires-then-b-lo-2
falling-requires-3 c κs = ranged_read (down_out_ranged c)

returns-5 : tie.Need-returns-then-b-lo-2
returns-5 c = let g = down_out_ranged c.before in let f = c.before.before.before.before.ranges in
    down_out g (lt_left w32 f.hi f.a c.before.before.if-hi-a.false) (fallen_plain g c.falling-then-b-lo-2.ensures)

-- up, and out
up_out_ranged : (c : tie.Then-hi-b-2) → let g = c.before.before.before.before.args in Ranged g.a g.a g.hi g.b
up_out_ranged c =
    let g = c.before.before.before.before.args in
    let f = c.before.before.before.before.ranges in
    let p = c.before.before.before.before.requires in
    let t0 : g.lo ≤ℤ g.a = lt_left w32 f.a f.lo c.before.before.before.if-a-lo.false in
    let t1 : g.a ≤ℤ g.hi = lt_left w32 f.hi f.a c.before.before.if-hi-a.false in
    let t2 : g.lo ≤ℤ g.b = lt_left w32 f.b f.lo c.before.if-b-lo-2.false in
    let t3 : g.hi <ℤ g.b = lt_taken w32 f.hi f.b c.if-hi-b-2.true in
    let area = p.1.1.1.1.0 in
    record {
      a_on = p.1.1.0;
      b_on = p.1.1.0;
      c_on = p.1.0;
      d_on = p.1.1.1.0;
      first = omega zarith;
      middle = omega zarith;
      last = omega zarith;
      some = omega zarith;
    }

rising-requires-3 : tie.Need-rising-requires-then-hi-b-2
rising-requires-3 c κs = ranged_read (up_out_ranged c)

returns-6 : tie.Need-returns-then-hi-b-2
returns-6 c = let g = up_out_ranged c.before in let f = c.before.before.before.before.before.ranges in
    up_out g (lt_left w32 f.a f.lo c.before.before.before.before.if-a-lo.false) (risen_plain g c.rising-then-hi-b-2.ensures)

-- all of it between the sides
returns-7 : tie.Need-returns
returns-7 c =
    let g = c.before.before.before.before.args in
    let f = c.before.before.before.before.ranges in
    subst₂ (λ (x y : ℤ). WayOf g.lo g.hi g.a g.b (record { long = 1; start = 0; end = 1; at = x; to = y })) (sym (to_z-of_z f.a)) (sym (to_z-of_z f.b))
    (all_on_lem (record {
      a_low = lt_left w32 f.a f.lo c.before.before.before.if-a-lo.false;
      a_high = lt_left w32 f.hi f.a c.before.before.if-hi-a.false;
      b_low = lt_left w32 f.b f.lo c.before.if-b-lo-2.false;
      b_high = lt_left w32 f.hi f.b c.if-hi-b-2.false;
    }))

pub passage_spec : {M : Type 1} → statement M
passage_spec = tie.close (tie.spec rising-requires returns rising-requires-2 returns-2 falling-requires returns-3 falling-requires-2 returns-4 falling-requires-3
    returns-5 rising-requires-3 returns-6 returns-7)
