-- `closest` on the way to the grid: moving a / b by 12582912, an even number, moves it by as much, and it is up to 16383 exactly where a / b is below 16383.5.
use mathlib.Core.Path.{◌≡◌, refl, sym, subst₂}
use Prim.Native.Nat.{ℕ, suc, ◌+◌, ◌-◌, ◌*◌, ◌≤◌, ◌<◌}
use native.Mathlib.Nat.{lt_of_not-le, le_of_suc-le-suc, mul-le-mul_right}
use lib.Dec.{lit<}
use lib.IntN.{ℤ, pos, ◌-ℤ◌}
use lib.Signed.{◌≤ℤ◌}
use lib.Ieee.Nearest.{closest, closest_mono}
use Rattle.whole.specs.Rounding.{Rounds, to_even}
use Rattle.whole.proofs.Order.{zarith, sub_is}
use Rattle.whole.proofs.Rounding.{rounded_moved, rounded_mirror, even_moved, even_mirror, closest_is, closest_only}

-- ---- moved by 12582912, or taken from it

pub closest_plus : (a b : ℕ) → 0 < b → closest (12582912 * b + a) b ≡ 12582912 + closest a b
closest_plus a b B = sym (closest_only {a = 12582912 * b + a} B (rounded_moved (pos 12582912) (even_moved (pos 12582912) refl) (closest_is a B)))

minus : (x y : ℕ) → y ≤ x → pos x -ℤ pos y ≡ pos (x - y)
minus x y h = omega (zarith, sub_is (pos x) (pos y))

pub closest_less : (a b : ℕ) → 0 < b → closest a b ≤ 12582912 → a ≤ 12582912 * b → closest (12582912 * b - a) b ≡ 12582912 - closest a b
closest_less a b B m n =
    sym (closest_only B
    (subst₂ (λ (x r : ℤ). Rounds to_even x (pos b) r) (minus (12582912 * b) a n) (minus 12582912 (closest a b) m)
    (rounded_moved (pos 12582912) (even_moved (pos 12582912) refl) (rounded_mirror even_mirror (closest_is a B)))))

-- ---- in range

pub under : (a b : ℕ) → 0 < b → a * 2 < 32767 * b → closest a b ≤ 16383
under a b B h =
    le_of_suc-le-suc (lt_of_not-le (λ (g : suc 16383 ≤ closest a b). clash (closest a b * b) (mul-le-mul_right b g) (closest_is a B).nearest.low))
  where
    clash : (p : ℕ) → 16384 * b ≤ p → pos (2 * p) ≤ℤ pos (2 * a + b) → ⊥
    clash p k l = omega zarith

pub over : (a b : ℕ) → 0 < b → 32767 * b ≤ a * 2 → 16384 ≤ closest a b
over a b B h = closest_mono 32767 2 a b (lit< tt) B h
