-- How far the exchange may have come.
--   InBounds t   the reading is within its bounds, and the page is not filled past its mark
use Rattle.std.specs.Prelude.{◌≤◌}
use Rattle.input.specs.Sources.{InReach}
use Rattle.exchange.specs.declared.Talk.{Talk}

abbrev pub InBounds : Talk → Type 0
InBounds t = InReach t.source × (t.used ≤ 65536)
