-- The width and the height are those of the two places, whether strips or vacant.
use Rattle.std.proofs.Common.{◌≡◌, ℕ, ℤ, List, ◌+◌, pos, ◌-ℤ◌, ap, sym, ◌∙◌, subst, get_or, SFits}
use native.Mathlib.Nat.{zero-add}
use lib.Signed.{lt_z}
use mir.Syntax.{w16}
use Rattle.whole.specs.Extremes.{lesser, greater}
use Rattle.racks.specs.Pairs.{overlap_at}
use Rattle.racks.specs.Racks.{strip_at}
use Rattle.racks.proofs.Common.{across, min_read}
use Rattle.racks.proofs.Pairs.{measured}
use Rattle.racks.proofs.in_common.Goals as goal

-- in the row 0 a place is its own index
first_row : (rack : List ℤ) (p q : ℕ) → overlap_at rack 0 p q ≡ across (strip_at rack p) (strip_at rack q)
first_row rack p q =
    λ i.
    lesser (get_or rack (144 + p) (pos 0)) (get_or rack (144 + q) (pos 0))
    -ℤ greater (get_or rack (zero-add p i) (pos 0)) (get_or rack (zero-add q i) (pos 0))

pub overlap_at-width-requires-clause-sfits : goal.overlap_at-width-requires-clause-sfits
overlap_at-width-requires-clause-sfits c =
    let m = measured c.requires.carries.1 c.requires.p_lt_q c.requires.q_bound in
    subst (SFits w16) (sym (first_row c.args.rack.now c.args.p c.args.q)) m.wide

pub overlap_at-height-requires-clause-sfits : goal.overlap_at-height-requires-clause-sfits
overlap_at-height-requires-clause-sfits c = (measured c.requires.carries.1 c.requires.p_lt_q c.requires.q_bound).tall

pub returns : goal.returns
returns c =
    let width = c.overlap_at-width.ensures ∙ first_row c.args.rack.now c.args.p c.args.q in
    let least = min_read _ _ c.overlap_at-width.type_inv c.overlap_at-height.type_inv c.min.result c.min.type_inv c.min.ensures.value in
    ap (lt_z (pos 0)) (least ∙ (λ i. lesser (width i) (c.overlap_at-height.ensures i)))
    ∙ (measured c.requires.carries.1 c.requires.p_lt_q c.requires.q_bound).test
