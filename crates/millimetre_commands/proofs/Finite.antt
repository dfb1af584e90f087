-- What comes back from the grid is no NaN: it has a value, or is the 0 of a refusal.
use mathlib.Core.Bool.{Bool, not}
use Prim.Native.Nat.{ℕ}
use lib.Dec.{T}
use lib.IntN.{ℤ}
use lib.Ieee.{Float, nan, inf, fin, is_nan}
use lib.Ieee.Exact.{HasValue}
use Rattle.intake.specs.Millimetres.{ToMillimetres, done, refused}
use Rattle.intake.specs.declared.BackAnswer.{BackAnswer}

finite : (x : Float) (s : Bool) (n d : ℕ) → HasValue x s n d → T (not (is_nan x))
unfolding is_nan
finite nan s n d h = absurd h
finite (inf t) s n d h = absurd h
finite (fin t m e) s n d h = tt

pub a_number : {g : ℤ} {a : BackAnswer} → ToMillimetres g a → T (not (is_nan a.mm))
unfolding is_nan
a_number (done {x = x} h m) = finite x _ _ _ m.exact
a_number (refused h) = tt
