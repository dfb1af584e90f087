-- Eight numbers are a window and a stroke; and a count among numbers.
use mathlib.Core.Path.{◌≡◌, refl, sym, ap, ◌∙◌}
use mathlib.Core.List.{List, [], ◌∷◌, ◌++◌}
use Rattle.std.specs.Prelude.{None, Some}
use Prim.Native.Nat.{ℕ, ◌<◌, ◌^◌}
use native.Mathlib.Omega.{arith}
use lib.IntN.{ℤ, pos}
use lib.ListN.{length, take}
use lib.Seq.{take_all, length-take-le}
use lib.Signed.{mag}
use mir.Syntax.{w32}
use mir.Val.{to_z, of_z}
use mir.Facts.{to_z-of_z, to_z_pos}
use Rattle.grid.specs.Table.{sides, ends, stroke_at}
use Rattle.arguments.specs.Arguments.{Numbers, first_window, PairIs, ReadPair}

-- ---- a count that stands among the numbers is compared by its bits

pub count_yes : (z : ℤ) (k : ℕ) → mag z < 2 ^ 31 → k < 2 ^ 31 → of_z w32 z ≡ k → z ≡ pos k
count_yes z k h l e = sym (to_z-of_z {w = w32} (record { sfits = h })) ∙ ap (to_z w32) e ∙ to_z_pos w32 l

pub count_no : (z : ℤ) (k : ℕ) → (of_z w32 z ≡ k → ⊥) → z ≡ pos k → ⊥
count_no z k ne e = ne (ap (of_z w32) e)

-- ---- a window and a stroke

eight : (zs : List ℤ) → length zs ≡ 8 → zs ≡ sides (first_window zs) ++ ends (stroke_at zs 4)
eight [] h = absurd (omega arith)
eight (a ∷ []) h = absurd (omega arith)
eight (a ∷ b ∷ []) h = absurd (omega arith)
eight (a ∷ b ∷ c ∷ []) h = absurd (omega arith)
eight (a ∷ b ∷ c ∷ d ∷ []) h = absurd (omega arith)
eight (a ∷ b ∷ c ∷ d ∷ e ∷ []) h = absurd (omega arith)
eight (a ∷ b ∷ c ∷ d ∷ e ∷ f ∷ []) h = absurd (omega arith)
eight (a ∷ b ∷ c ∷ d ∷ e ∷ f ∷ g ∷ []) h = absurd (omega arith)
eight (a ∷ b ∷ c ∷ d ∷ e ∷ f ∷ g ∷ h ∷ []) k = refl
eight (a ∷ b ∷ c ∷ d ∷ e ∷ f ∷ g ∷ h ∷ i ∷ zs) k = absurd (omega arith)

module _ (text : List ℕ) (out : List ℤ) (eight_places : length out ≡ 8) where
  pub is_pair : (n : ℕ) → Numbers text out (Some n) → n ≡ 8 → PairIs text (first_window out) (stroke_at out 4)
  is_pair n read e = read.1 ∙ ap Some (take_all n out (omega arith) ∙ eight out eight_places)

  pub other_count : (n : ℕ) → Numbers text out (Some n) → (n ≡ 8 → ⊥) → ReadPair text None
  other_count n read ne w s h =
      let same : take n out ≡ sides w ++ ends s = let e = sym read.1 ∙ h in cc in
      ne (omega (arith, ap length same, length-take-le n out read.0))

  pub no_numbers : Numbers text out None → ReadPair text None
  no_numbers read w s h = absurd (omega (arith, read _ h))
