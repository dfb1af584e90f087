-- A law of the listing, proved in proofs/Unique.antt.
--   OneListing   for one renter, table and output two results are equal: the answer, and the output after it
use Rattle.std.specs.Prelude.{◌≡◌, List, ℤ}
use Rattle.grid.specs.declared.Answer.{Answer}
use Rattle.own_strips.specs.OwnStrips.{ListStrips}

abbrev pub OneListing : Type 0
OneListing = (renter : ℤ) (zs : List ℤ) (a b : Answer) (before after after' : List ℤ)
    → ListStrips renter zs a before after → ListStrips renter zs b before after' → (a ≡ b) × (after ≡ after')
