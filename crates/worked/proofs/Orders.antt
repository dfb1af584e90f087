-- The counts of the hexagon's passes are computed for all 24 orders. Of each the order can be told, since no two are the same.
use mathlib.Core.Path.{◌≡◌, refl, sym, ap, ◌∙◌}
use mathlib.Core.Bool.{Bool, true}
use mathlib.Core.List.{List, [], ◌∷◌}
use Prim.Native.Nat.{ℕ, suc, ◌+◌, ◌*◌, ◌≤◌}
use native.Mathlib.Omega.{arith}
use borrow.Author.Tests.{eqb-true}
use lib.Dec.{eqb}
use Rattle.whole.specs.Choice.{when◌then◌else◌}
use Rattle.convex.specs.Corners.{corners_of, every, next, joins, is_left, strictly_convex}
use Rattle.convex.specs.Corners.{right_count, count_refusal, convex_refusal}
use Rattle.convex.proofs.Places.{every_at}
use Rattle.fraction.specs.Fraction.{less_than}
use Rattle.fraction.proofs.Computed.{euclid, lowest_of}
use Rattle.grid.specs.Calls.{answered_by}
use Rattle.grid.specs.Refusals.{first, off_table, no_area, window_refusal, room_refusal}
use Rattle.grid.specs.Table.{on_table, first_off}
use Rattle.outlines.specs.Outlines.{bad_order, outline_refusal}
use Rattle.outlines.specs.declared.OutlineAnswer.{OutlineAnswer}
use Rattle.outlines.proofs.Computed.{kept_of, added_of, pass_of, cut_of, cuts_of, is_before, least_of, start_of}
use Rattle.outlines.proofs.Computed.{ring_of, outline_of, counts_of, passed_of, passes_of, answer_of, computed}
use Rattle.writing.proofs.Numbers.{numbers_of}
use Rattle.passes.specs.Orders.{sides_in, lines_in}
use Rattle.rings.specs.Points.{value, through}
use Rattle.rings.specs.Windows.{left_side, right_side, bottom_side, top_side}
use Rattle.rings.proofs.Passes.{meet}
use Rattle.worked.specs.Examples.{ten}
use Rattle.worked.specs.Orders.{hexagon, OrderSeen}

-- four counts as the digits of one number
digits : ℕ → List ℕ → ℕ
digits n [] = n
digits n (c ∷ cs) = digits (10 * n + c) cs

-- those of the 24 orders
seen : List ℕ
seen =
    6534 ∷ 6564 ∷ 6434 ∷ 6454 ∷ 6764 ∷ 6754 ∷ 5534 ∷ 5564 ∷ 5334 ∷ 5344 ∷ 5664 ∷ 5644
    ∷ 4434 ∷ 4454 ∷ 4334 ∷ 4344 ∷ 4554 ∷ 4544 ∷ 7764 ∷ 7754 ∷ 7664 ∷ 7644 ∷ 7554 ∷ 7544 ∷ []

place : ℕ → List ℕ → ℕ
place n [] = 0
place n (x ∷ xs) = when eqb n x then 0 else suc (place n xs)

-- the order that an answer tells
told : OutlineAnswer → ℕ
told a = place (digits 0 a.passes) seen

tells_its_own : ℕ → Bool
tells_its_own o = eqb (told (answer_of ten o hexagon 32)) o

every_told : every 24 tells_its_own ≡ true
unfolding tells_its_own told place seen digits hexagon
    answer_of answered_by room_refusal outline_of passes_of passed_of counts_of ring_of cuts_of cut_of pass_of
    kept_of added_of meet is_before least_of start_of numbers_of less_than euclid lowest_of
    outline_refusal first window_refusal no_area bad_order count_refusal right_count off_table first_off on_table
    convex_refusal strictly_convex every next joins is_left corners_of
    value through sides_in lines_in left_side right_side bottom_side top_side
every_told = refl

tells : (o : ℕ) → o ≤ 23 → told (answer_of ten o hexagon 32) ≡ o
unfolding tells_its_own
tells o h = eqb-true (told (answer_of ten o hexagon 32)) o (every_at 24 tells_its_own every_told o (omega arith))

pub order_seen : OrderSeen
order_seen o o' a after after' h h' p q = sym (tells o h) ∙ ap told (sym (computed p).0 ∙ (computed q).0) ∙ tells o' h'
