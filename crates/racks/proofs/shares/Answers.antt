-- What is found at one place more; vacant places change nothing.
use Rattle.std.proofs.Common.{◌≡◌, ℕ, ℤ, List, ◌<◌, ◌||◌, pos, sym, ◌∙◌, ap, subst, arith, refl, SFits, to_z}
use lib.Signed.{lt_z}
use mir.Syntax.{w16}
use Rattle.std.specs.Int.{int_max}
use Rattle.whole.specs.Extremes.{lesser}
use Rattle.whole.proofs.Comparisons.{back}
use Rattle.whole.proofs.Extremes.{max_is}
use Rattle.grid.specs.Table.{WindowOnTable}
use Rattle.grid.specs.declared.Window.{Window}
use Rattle.racks.specs.Areas.{shares_area}
use Rattle.racks.specs.Members.{any}
use Rattle.racks.specs.Racks.{strip_at, strips_on, Carries}
use Rattle.racks.proofs.Common.{Comparable, across, upward, across_fits, upward_fits, read_place, share_test, greater_test, min_read}
use Rattle.racks.proofs.Holding.{reading, is_reading, place, one_more, none_more}
use Rattle.racks.proofs.shares.Goals as goal

-- ---- the strip w, as it was read, and what stands at the place j
module _ (w : Window) (on : WindowOnTable w) {rack : List ℤ} {ws : List Window} (hold : Carries rack ws) (j : ℕ) (l : j < 72) where
  own : WindowOnTable (reading w)
  own = subst WindowOnTable (sym (is_reading on)) on

  at : Comparable (reading w) (strip_at rack j)
  at = place own hold j l

  wide : SFits w16 (across (reading w) (strip_at rack j))
  wide = across_fits own at

  tall : SFits w16 (upward (reading w) (strip_at rack j))
  tall = upward_fits own at

  found : lt_z (pos 0) (lesser (across (reading w) (strip_at rack j)) (upward (reading w) (strip_at rack j))) ≡ shares_area w (strip_at rack j)
  found = share_test own at ∙ ap (λ (v : Window). shares_area v (strip_at rack j)) (is_reading on)

pub loop-j-init : goal.loop-j-init
unfolding any strips_on
loop-j-init c = refl

pub overlap-width-requires : goal.overlap-width-requires
overlap-width-requires c =
    subst (SFits w16) (sym (read_place _ _ _ _ (omega arith) (omega arith)))
    (wide c.args.w c.requires.window_on_table c.requires.n_value.2 c.loop-j.j (omega (arith, c.requires.n_value.2.few, c.requires.n_value.1)))

pub overlap-height-requires : goal.overlap-height-requires
overlap-height-requires c =
    subst (SFits w16) (sym (read_place _ _ _ _ (omega arith) (omega arith)))
    (tall c.args.w c.requires.window_on_table c.requires.n_value.2 c.loop-j.j (omega (arith, c.requires.n_value.2.few, c.requires.n_value.1)))

pub loop-j-preserved : goal.loop-j-preserved
loop-j-preserved c =
    let width = c.overlap-width.ensures ∙ read_place _ _ _ _ (omega arith) (omega arith) in
    let height = c.overlap-height.ensures ∙ read_place _ _ _ _ (omega arith) (omega arith) in
    let least = min_read _ _ c.overlap-width.type_inv c.overlap-height.type_inv c.min.result c.min.type_inv c.min.ensures.value in
    let m = to_z w16 c.loop-j.most-bits in
    let value =
    back w16 c.max-most.result c.max-most.type_inv ∙ c.max-most.ensures.value
    ∙ ap (int_max m) (least ∙ (λ i. lesser (width i) (height i))) ∙ max_is m _ in
    let here = found c.args.w c.requires.window_on_table c.requires.n_value.2 c.loop-j.j (omega (arith, c.requires.n_value.2.few, c.requires.n_value.1)) in
    ap (lt_z (pos 0)) value
    ∙ greater_test (pos 0) m _
    ∙ (λ i. here i || c.loop-j.invariant i)
    ∙ sym (one_more (shares_area c.args.w) c.args.rack.now c.loop-j.j)

pub returns : goal.returns
returns c ws e hold = c.loop-j.invariant ∙ none_more hold c.requires.window_on_table c.loop-j.j (omega arith) (omega (arith, hold.few))
