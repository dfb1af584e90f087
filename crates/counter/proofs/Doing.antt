-- What is done for an order that is known, and what came of it.
use mathlib.Core.Path.{◌≡◌, sym, subst}
use mathlib.Core.List.{List}
use Prim.Native.Nat.{ℕ}
use lib.IntN.{ℤ}
use Rattle.std.specs.Prelude.{Ok}
use Rattle.orders.specs.declared.Order.{Order}
use Rattle.counter.specs.Serving.{Does}
use Rattle.counter.specs.declared.Service.{Service}

pub known : {o o' : Order} {before after : List ℤ} {page : List ℕ} {r r' : Service} → o ≡ o' → r ≡ r' → Does (Ok o') before after page r'
    → Does (Ok o) before after page r
known {o} {o'} {before} {after} {page} {r} {r'} eo er d =
    subst (λ (x : Order). Does (Ok x) before after page r) (sym eo) (subst (Does (Ok o') before after page) (sym er) d)
