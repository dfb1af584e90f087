-- A number's text has digits and a minus only, so a walk to another byte passes over it.
use mathlib.Core.Path.{◌≡◌, refl, ap, ◌∙◌}
use mathlib.Core.Bool.{Bool, true, false, not}
use mathlib.Core.Logic.{◌⊎◌, ⊎_elim}
use mathlib.Core.List.{List, [], ◌∷◌, ◌++◌, append_assoc}
use Prim.Native.Nat.{ℕ, zero, suc, ◌+◌, ◌/◌, ◌%◌, ◌<◌}
use native.Mathlib.Nat.{mod-lt}
use native.Mathlib.Omega.{arith}
use borrow.Author.Tests.{ltb-true, ne_eqb}
use lib.Dec.{ltb, lit<}
use lib.IntN.{ℤ, pos, negsuc}
use lib.ListN.{length, length-append}
use Rattle.whole.specs.Choice.{when◌then◌else◌}
use Rattle.text.specs.Pages.{digits, natural, integer}
use Rattle.text.specs.Runs.{run, is_not}
use Rattle.text.proofs.Runs.{run_passed}

-- the byte b is neither a digit nor a minus
module _ (b : ℕ) (odd : (b < 45) ⊎ (57 < b)) where
  passes : (x : ℕ) (rest : List ℕ) → 45 < suc x → x < 58 → run (is_not b) (x ∷ rest) ≡ suc (run (is_not b) rest)
  passes x rest l h =
      run_passed (is_not b) x rest (ap not (ne_eqb x b (λ (e : x ≡ b). ⊎_elim (λ (s : b < 45). omega arith) (λ (s : 57 < b). omega arith) odd)))

  over_digits : (k n : ℕ) (rest : List ℕ) → run (is_not b) (digits k n ++ rest) ≡ length (digits k n) + run (is_not b) rest
  unfolding digits
  over_digits zero n rest = omega arith
  over_digits (suc k) n rest = go (ltb n 10) refl (λ (r : List ℕ). over_digits k (n / 10) r)
    where
      go : (t : Bool) → ltb n 10 ≡ t → ((r : List ℕ) → run (is_not b) (digits k (n / 10) ++ r) ≡ length (digits k (n / 10)) + run (is_not b) r)
          → let ds = when t then (48 + n) ∷ [] else digits k (n / 10) ++ (48 + n % 10) ∷ [] in
          run (is_not b) (ds ++ rest) ≡ length ds + run (is_not b) rest
      go true e f = omega (arith, passes (48 + n) rest (omega arith) (omega (arith, ltb-true n 10 e)))
      go false e f =
          let last = 48 + n % 10 in
          let small : n % 10 < 10 = mod-lt n (lit< tt) in
          let one = passes last rest (omega arith) (omega arith) in
          ap (run (is_not b)) (append_assoc (digits k (n / 10)) (last ∷ []) rest)
          ∙ f (last ∷ rest)
          ∙ (omega (arith, one, length-append (digits k (n / 10)) (last ∷ [])))

  pub over_number : (z : ℤ) (rest : List ℕ) → run (is_not b) (integer z ++ rest) ≡ length (integer z) + run (is_not b) rest
  unfolding integer natural
  over_number (pos n) rest = over_digits 20 n rest
  over_number (negsuc n) rest =
      let first = passes 45 (digits 20 (suc n) ++ rest) (omega arith) (omega arith) in
      omega (arith, first, over_digits 20 (suc n) rest)
