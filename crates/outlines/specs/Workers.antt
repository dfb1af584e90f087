-- What the workers behind the outline call promise each other.
--   GaveCounted w o zs c before after   what `cut_in` promises: as many numbers as c counts are written where they have room, and they and
--                                       the counts of the passes are right
--   CallTaken w o zs reach   nothing of a call is refused, and its outline reaches so far
--   CallRefused w o zs r     a call is refused by r
use Rattle.std.specs.Prelude.{◌≡◌, List, ℕ, ℤ}
use Rattle.grid.specs.Calls.{GaveNumbers}
use Rattle.grid.specs.declared.Window.{Window}
use Rattle.grid.specs.declared.Refusal.{Refusal}
use Rattle.reach.specs.Reach.{Reaches}
use Rattle.outlines.specs.Outlines.{outline_refusal, OutlineClipped}
use Rattle.outlines.specs.declared.Counts.{Counts}

abbrev pub GaveCounted : Window → ℕ → List ℤ → Counts → List ℤ → List ℤ → Type 0
GaveCounted w o zs c = GaveNumbers (λ xs. OutlineClipped w o zs xs c.passes) c.numbers

pub record CallTaken (w : Window) (o : ℕ) (zs : List ℤ) (reach : Window) : Type 0 where
  pub fine : (outline_refusal w o zs).number ≡ 0
  pub reaches : Reaches zs reach

pub record CallRefused (w : Window) (o : ℕ) (zs : List ℤ) (r : Refusal) : Type 0 where
  pub applies : (outline_refusal w o zs).number ≡ 0 → ⊥
  pub first : r ≡ outline_refusal w o zs
