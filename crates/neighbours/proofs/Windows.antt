-- Two neighbours: the right one is made from the left one and its own right side, and the window that they are together is on the table and has area.
use mathlib.Core.Path.{◌≡◌, sym, ap, subst}
use lib.IntN.{ℤ}
use lib.Signed.{◌<ℤ◌}
use Rattle.whole.proofs.Order.{zarith}
use Rattle.grid.specs.declared.Refusal.{Refusal}
use Rattle.grid.specs.declared.Window.{Window}
use Rattle.grid.specs.Table.{WindowOnTable}
use Rattle.grid.proofs.Refusals.{window_on_table, window_fine}
use Rattle.neighbours.specs.Laws.{Neighbours, joined, JoinedNotRefused}

-- the window on the right of w that is as high and ends at r
abbrev pub beside : Window → ℤ → Window
beside w r = record { left = w.right; bottom = w.bottom; right = r; top = w.top }

module _ {w v : Window} (n : Neighbours w v) where
  pub right_is : v ≡ beside w v.right
  right_is = λ i. record { left = sym n.border i; bottom = sym n.bottom i; right = v.right; top = sym n.top i }

  w_on : WindowOnTable w
  w_on = window_on_table w n.left

  v_on : WindowOnTable v
  v_on = window_on_table v n.right

  pub wide_left : w.left <ℤ w.right
  wide_left = w_on.wide

  pub wide_right : w.right <ℤ v.right
  wide_right = subst (λ (m : ℤ). m <ℤ v.right) (sym n.border) v_on.wide

  on_table_lem : WindowOnTable (joined w v)
  on_table_lem = record {
    left = w_on.left;
    bottom = w_on.bottom;
    right = v_on.right;
    top = w_on.top;
    wide = omega (zarith, wide_left, wide_right);
    tall = w_on.tall;
  }

pub joined_not_refused : JoinedNotRefused
joined_not_refused w v n = ap (λ (r : Refusal). r.number) (sym (window_fine (joined w v) (on_table_lem n)))
