-- Two results of a listing are equal: what is refused is told by renter and table, and so is the one list that is given.
use mathlib.Core.Path.{sym, ◌∙◌}
use Rattle.grid.proofs.Calls.{call_unique}
use Rattle.own_strips.specs.OwnStrips.{listing_refusal}
use Rattle.own_strips.specs.Laws.{OneListing}

pub one_listing : OneListing
one_listing renter zs a b before after after' = call_unique (listing_refusal renter zs) (λ xs ys p q. p ∙ sym q)
