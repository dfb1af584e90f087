-- What the workers behind the reading of a number promise each other.
--   ReadsPlain text r  r is what text is read as, a number with no sign
use Rattle.std.specs.Prelude.{None, Option, Some, List, false, ℕ, ◌<◌, ◌^◌}
use Rattle.decimal.specs.Decimals.{Plain, bits_of}

pub data ReadsPlain : List ℕ → Option ℕ → Type 0 where
  number : {text : List ℕ} {n k : ℕ} → Plain text n k → bits_of false n k < 2 ^ 31 → ReadsPlain text (Some (bits_of false n k))
  nothing : {text : List ℕ} → ((n k : ℕ) → Plain text n k → ⊥) → ReadsPlain text None
