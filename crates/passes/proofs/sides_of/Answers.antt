-- The table has the sides of the 24 orders, one order after the other.
use Rattle.std.proofs.Common.{◌≡◌, ℕ, zero, suc, ◌+◌, ◌<◌, List, [], ◌∷◌, get_or, ap, ◌∙◌, arith, length, subst, ◌≤◌}
use lib.ListN.{length-map}
use Rattle.grid.specs.Sides.{place_of}
use Rattle.passes.specs.Orders.{sides_in, places_of}
use Rattle.passes.proofs.Orders.{places_below}
use Rattle.passes.proofs.sides_of.Goals as goal

-- n orders from o on
table : ℕ → ℕ → List (List ℕ)
table zero o = []
table (suc n) o = places_of (sides_in o) ∷ table n (suc o)

entry : (n o k : ℕ) → k < n → get_or (table n o) k [] ≡ places_of (sides_in (o + k))
unfolding table
entry zero o k h = absurd (omega arith)
entry (suc n) o zero h = ap (λ (k : ℕ). places_of (sides_in k)) (omega arith)
entry (suc n) o (suc k) h = entry n (suc o) k (omega arith) ∙ ap (λ (k : ℕ). places_of (sides_in k)) (omega arith)

at_order : (o : ℕ) → o ≤ 23 → get_or (table 24 0) o [] ≡ places_of (sides_in o)
at_order o h = entry 24 0 o (omega arith) ∙ ap (λ (k : ℕ). places_of (sides_in k)) (omega arith)

pub returns-clause-value : goal.returns-clause-value
unfolding table sides_in
returns-clause-value c = at_order c.args.order c.requires

pub returns-clause-by_index : goal.returns-clause-by_index
unfolding table sides_in
returns-clause-by_index c = λ k h. let e = at_order c.args.order c.requires in rw e (places_below (sides_in c.args.order) k (subst (λ (n : ℕ). k < n) (length-map (sides_in c.args.order) place_of) (subst (λ (xs : List ℕ). k < length xs) e h)))
