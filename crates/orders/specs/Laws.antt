-- What the promise of `read` comes to, for a reader who asks whether it leaves anything open.
--   OneOrder   a line orders one thing: two results that fit it are equal
use Rattle.std.specs.Prelude.{◌≡◌, List, ℕ, Result}
use Rattle.orders.specs.Orders.{Orders}
use Rattle.orders.specs.declared.Fault.{Fault}
use Rattle.orders.specs.declared.Order.{Order}

abbrev pub OneOrder : Type 0
OneOrder = (l : List ℕ) (o p : Result Order Fault) → Orders l o → Orders l p → o ≡ p
