-- An outline inside is given whole, one beyond a side not at all, and any other goes through the passes.
use Rattle.std.proofs.Common.{◌≡◌, ◌/◌, length, sym, subst, rules}
use mathlib.Core.Path.{transport}
use lib.ListN.{replicate}
use Rattle.grid.specs.declared.Window.{Window}
use Rattle.grid.proofs.Calls.{answer_given}
use Rattle.passes.specs.Passes.{Cutting, no_corners}
use Rattle.crossings.proofs.Outlines.{outline_ring}
use Rattle.outlines.specs.Workers.{GaveCounted}
use Rattle.outlines.proofs.Clear.{cutting, cutting_is}
use Rattle.outlines.proofs.Giving.{give_ring, give_nothing}
use Rattle.outlines.proofs.PlainCases.{whole_left, nothing_left}
use Rattle.reach.proofs.Reaching.{reading, is_reading}
use Rattle.outlines.proofs.clipped.Goals as goal

pub give_whole-requires-clause-ring : goal.give_whole-requires-clause-ring
give_whole-requires-clause-ring c = outline_ring c.requires.outline_on_table

pub returns-then-inside : goal.returns-then-inside
returns-then-inside c =
    let r = c.requires in
    record {
      counts = replicate 4 (length c.args.outline.now / 2);
      given = answer_given c.given.ensures
          (give_ring r.order_bound r.outline_on_table
          (whole_left c.args.w r.reaches r.order_bound (outline_ring r.outline_on_table) (c.inside.ensures c.if-inside.true))
          c.give_whole.ensures);
    }

pub returns-then-apart : goal.returns-then-apart
returns-then-apart c =
    let r = c.requires in
    record {
      counts = no_corners;
      given = answer_given c.given-then-apart.ensures
          (give_nothing r.order_bound r.outline_on_table
          (nothing_left c.args.w r.reaches r.order_bound (outline_ring r.outline_on_table) (c.apart.ensures c.if-apart.true)));
    }

-- a window is read as it is
pub cut_by_passes-counts-requires-clause-cutting : goal.cut_by_passes-counts-requires-clause-cutting
cut_by_passes-counts-requires-clause-cutting c =
    let w = c.args.w in
    let b = c.args.reach in
    let window : w ≡ reading w = is_reading w (search rules) (search rules) (search rules) (search rules) in
    let reach : b ≡ reading b = is_reading b (search rules) (search rules) (search rules) (search rules) in
    transport (λ i. Cutting (window i) c.args.outline.now (cutting (window i) (reach i))) (cutting_is w b c.requires.reaches)

pub returns : goal.returns
returns c =
    let w = c.args.w in
    let done = c.cut_by_passes-counts in
    let window : w ≡ reading w = is_reading w (search rules) (search rules) (search rules) (search rules) in
    record {
      counts = done.result.passes;
      given = answer_given c.given-2.ensures
          (subst (λ (w : Window). GaveCounted w c.args.order c.args.outline.now done.result c.args.out.now done.new.out) (sym window) done.ensures);
    }
