-- What is between the limits of 16 bits stays as it was, and the limits are off the table.
use Rattle.std.specs.Int.{int_min, int_max}
use Rattle.std.proofs.lemmas.Int.{int_min_is, int_max_is}
use Rattle.std.proofs.Common.{pos, negsuc, ℤ, ◌≡◌}
use mir.Syntax.{w16, w32}
use mir.Val.{to_z, of_z}
use Rattle.whole.specs.Within.{Within}
use Rattle.whole.proofs.Comparisons.{fits_range, plain}
use Rattle.whole.proofs.Order.{zarith}
use Rattle.grid.specs.Table.{farthest}
use Rattle.grid.proofs.Ranges.{within_on}
use Rattle.grid.proofs.short.Goals as goal

clamped : (x r : ℤ) → r ≡ int_max (negsuc 32767) (int_min x (pos 32767)) → Within farthest r → Within farthest x
clamped x r e h =
    let most = int_max_is (negsuc 32767) (int_min x (pos 32767)) in
    let least = int_min_is x (pos 32767) in
    record { low = omega (zarith, most, least, h.low, h.high, e); high = omega (zarith, most, least, h.low, h.high, e) }

pub returns : goal.returns
returns c h =
    let e = c.clamp.ensures in
    let fits16 = fits_range {w = w16} e.lower_bound (omega (zarith, e.upper_bound)) in
    let read = plain {w = w32} {z = c.clamp.result} (λ z. Within farthest (to_z w16 (of_z w16 z))) (record { sfits = c.clamp.type_inv }) h in
    within_on _ (plain {w = w32} (Within farthest) c.ranges.x (clamped _ _ e.value (plain {w = w16} (Within farthest) fits16 read)))
