-- What a test says: the error where its refusal applies, else Ok; and what is known of the refusal from what was said.
use mathlib.Core.Path.{◌≡◌, refl, ap}
use mathlib.Core.Bool.{Bool, true, false}
use borrow.Author.Tests.{eq-eqb, ne_eqb, eqb-true, eqb-false}
use lib.Dec.{eqb}
use Rattle.std.specs.Bool.{⊤}
use Rattle.std.specs.declared.result.Result.TheVariants.{Ok, Err}
use Rattle.std.specs.Prelude.{is_ok, is_err}
use Rattle.whole.proofs.Comparisons.{ff_tt}
use Rattle.whole.specs.Choice.{when◌then◌else◌}
use Rattle.grid.specs.Refusals.{tested}
use Rattle.grid.specs.declared.Refusal.{Refusal}

pub says_fine : (r : Refusal) → r.number ≡ 0 → Ok tt ≡ tested r
unfolding tested
says_fine r h = simp (eq-eqb _ _ h)

pub says_refused : (r : Refusal) → (r.number ≡ 0 → ⊥) → Err r ≡ tested r
unfolding tested
says_refused r h = simp (ne_eqb _ _ h)

-- Ok is said: nothing is refused
pub was_fine : {u : ⊤} (r : Refusal) → Ok u ≡ tested r → r.number ≡ 0
unfolding tested
was_fine r e = go (eqb r.number 0) refl e
  where
    go : {u : ⊤} (b : Bool) → eqb r.number 0 ≡ b → Ok u ≡ (when b then Ok (tt {0}) else Err r) → r.number ≡ 0
    go true t e = eqb-true r.number 0 t
    go false t e = absurd (ff_tt (ap is_err e))

-- an error is said: it is the refusal, and it applies
pub was_refused : {q : Refusal} (r : Refusal) → Err q ≡ tested r → (q ≡ r) × (r.number ≡ 0 → ⊥)
unfolding tested
was_refused r e = go (eqb r.number 0) refl e
  where
    go : {q : Refusal} (b : Bool) → eqb r.number 0 ≡ b → Err q ≡ (when b then Ok (tt {0}) else Err r) → (q ≡ r) × (r.number ≡ 0 → ⊥)
    go true t e = absurd (ff_tt (ap is_ok e))
    go false t e = (cc, eqb-false r.number 0 t)
