-- The folder in a file's name.
--   FolderEnd name n   the first n bytes of the name are its folder: they end with its last slash; or there is no slash, and n is 0
use Rattle.std.specs.Prelude.{◌≡◌, List, ℕ, suc, ◌≤◌, ◌<◌, length, get_or}

pub record FolderEnd (name : List ℕ) (n : ℕ) : Type 0 where
  pub within : n ≤ length name
  pub last : (j : ℕ) → n ≤ j → j < length name → get_or name j 0 ≡ 47 → ⊥
  pub slash : (j : ℕ) → n ≡ suc j → get_or name j 0 ≡ 47
