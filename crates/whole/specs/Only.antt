-- The only thing of which something holds.
--   TheOnly P x   P holds of x, and of nothing else
use Rattle.std.specs.Prelude.{◌≡◌}

-- `only` alone would hold of a statement that nothing satisfies, `holds` alone of one that leaves the answer open
pub record TheOnly {A : Type 0} (P : A → Type 0) (x : A) : Type 0 where
  pub holds : P x
  pub only : (y : A) → P y → y ≡ x
