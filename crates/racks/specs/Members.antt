-- Tests of the members of a list.
--   any P xs   P holds of a member of xs
--   all P xs   P holds of every member of xs
use Rattle.std.specs.Prelude.{Bool, true, false, ◌&&◌, ◌||◌, List, [], ◌∷◌}

unfoldable pub any : {A : Type 0} → (A → Bool) → List A → Bool
any P [] = false
any P (x ∷ xs) = P x || any P xs

unfoldable pub all : {A : Type 0} → (A → Bool) → List A → Bool
all P [] = true
all P (x ∷ xs) = P x && all P xs
