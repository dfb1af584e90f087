-- Two pairs of sides in order are a window on the table; else a side's number, or the area, is bad.
use mathlib.Core.Path.{◌≡◌, sym, subst, ap, ◌∙◌}
use Prim.Native.Nat.{◌<◌, ◌^◌}
use lib.IntN.{ℤ}
use lib.Signed.{mag}
use Rattle.std.specs.declared.result.Result.TheVariants.{Err}
use mir.Syntax.{w32}
use mir.Val.{to_z, of_z}
use Rattle.whole.specs.Within.{Within}
use Rattle.whole.proofs.Comparisons.{ff_tt, plain, bits}
use Rattle.grid.specs.Table.{farthest, WindowOnTable}
use Rattle.grid.specs.Refusals.{window_refusal, tested}
use Rattle.grid.specs.declared.Refusal.{Refusal}
use Rattle.grid.proofs.Ranges.{order_read, order_put}
use Rattle.grid.proofs.Refusals.{window_fine, window_on_table}
use Rattle.grid.proofs.Tested.{says_fine, says_refused}
use Rattle.grid.proofs.test_window.Goals as goal
use Rattle.grid.proofs.test_window.Goals.{else-in_order-via-then-in_order+else-in_order-2, else-in_order-via-else-in_order}

-- a number as it is read is on the table where the number is, and the other way
read : {z : ℤ} → mag z < 2 ^ 31 → Within farthest (to_z w32 (of_z w32 z)) → Within farthest z
read f = plain {w = w32} (Within farthest) (record { sfits = f })

put : {z : ℤ} → mag z < 2 ^ 31 → Within farthest z → Within farthest (to_z w32 (of_z w32 z))
put f = bits {w = w32} (Within farthest) (record { sfits = f })

pub returns-then-in_order-2 : goal.returns-then-in_order-2
returns-then-in_order-2 c =
    let a = c.in_order.ensures.yes c.if-in_order.true in
    let b = c.in_order-then-in_order.ensures.yes c.if-in_order-2.true in
    let g = c.struct_told-1.given in
    says_fine _ (ap (λ (r : Refusal). r.number) (sym (window_fine _ (record {
      left = read g.0.1 a.0;
      bottom = read g.1.0.1 b.0;
      right = read g.1.1.0.1 a.1;
      top = read g.1.1.1.0.1 b.1;
      wide = order_read g.0.1 g.1.1.0.1 a.2;
      tall = order_read g.1.0.1 g.1.1.1.0.1 b.2;
    }))))

pub returns : goal.returns
returns c =
    let g = c.struct_told-1.given in
    let bad : WindowOnTable c.args.w → ⊥ = λ h. elim c.else-in_order.branch [
      | else-in_order-via-then-in_order+else-in_order-2 w ↦
          let yes = w.in_order-then-in_order.ensures.no (put g.1.0.1 h.bottom) (put g.1.1.1.0.1 h.top) (order_put g.1.0.1 g.1.1.1.0.1 h.tall) in
          ff_tt (sym w.if-in_order-2.false ∙ yes)
      | else-in_order-via-else-in_order w ↦
          let yes = c.in_order.ensures.no (put g.0.1 h.left) (put g.1.1.0.1 h.right) (order_put g.0.1 g.1.1.0.1 h.wide) in
          ff_tt (sym w.if-in_order.false ∙ yes)
    ] in
    subst (λ (r : Refusal). Err r ≡ tested (window_refusal c.args.w)) (sym c.bad_window.ensures) (says_refused _ (λ z. bad (window_on_table _ z)))
