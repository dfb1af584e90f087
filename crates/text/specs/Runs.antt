-- How far a text goes on in one way.
--   run test bs   how many bytes bs starts with that pass the test
--   is b, is_not b   the tests for the byte b, and for every other
--   is_in b bs       the byte b stands in bs
use Rattle.std.specs.Prelude.{Bool, not, List, [], ◌∷◌, ℕ, suc, eqb, ltb, length}
use Rattle.whole.specs.Choice.{when◌then◌else◌}

unfoldable pub run : (ℕ → Bool) → List ℕ → ℕ
run test [] = 0
run test (b ∷ bs) = when test b then suc (run test bs) else 0

abbrev pub is : ℕ → ℕ → Bool
is b x = eqb x b

abbrev pub is_not : ℕ → ℕ → Bool
is_not b x = not (eqb x b)

unfoldable pub is_in : ℕ → List ℕ → Bool
is_in b bs = ltb (run (is_not b) bs) (length bs)
