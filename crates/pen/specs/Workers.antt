-- What the workers behind the drawing of a text promise each other.
--   Counted before after at r   the promise of `put_length`: the count of bytes is put before a drawing that ends at
--                               `at`, where it has any
use Rattle.std.specs.Prelude.{Result, Ok, Err, ◌≡◌, List, ℕ, ◌-◌}
use Rattle.text.specs.Pages.{Put, big_endian}
use Rattle.pen_line.specs.declared.Fault.{Fault}
use Rattle.pen_line.specs.declared.Fault.TheVariants.{NoStrip}

-- The strip comes first, so where there are no bytes it is the strip that is missing.
pub data Counted (before after : List ℕ) (at : ℕ) : Result ℕ Fault → Type 0 where
  counted : (at ≡ 4 → ⊥) → Put before after 0 4 (big_endian (at - 4)) → Counted before after at (Ok at)
  none : at ≡ 4 → Counted before after at (Err NoStrip)
