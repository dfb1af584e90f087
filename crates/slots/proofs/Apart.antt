-- No two strips on a rack share area just where no two of its places do: the last strip is first in the list, and each is tested with those behind it
-- there, which stand at the places before.
use mathlib.Core.Path.{◌≡◌, refl, sym, ap, ◌∙◌}
use mathlib.Core.Bool.{Bool, true, false, not, ◌&&◌, ◌||◌}
use mathlib.Core.List.{List}
use mathlib.Core.Logic.{⊎_elim}
use Prim.Native.Nat.{ℕ, zero, suc, ◌<◌}
use native.Mathlib.Nat.{eq-or-lt_of_le}
use native.Mathlib.Omega.{arith}
use lib.IntN.{ℤ}
use Rattle.grid.specs.declared.Window.{Window}
use Rattle.racks.specs.Areas.{shares_area}
use Rattle.racks.specs.Members.{any}
use Rattle.racks.specs.Pairs.{share, Crowd}
use Rattle.racks.specs.Racks.{strip_at, strips_on}
use Rattle.racks.proofs.Common.{turned}
use Rattle.slots.specs.Slots.{no_two_share}

module _ (rack : List ℤ) where
  -- ---- a test of the strips at the first places
  none_passes : (P : Window → Bool) (n : ℕ) → ((j : ℕ) → j < n → P (strip_at rack j) ≡ false) → any P (strips_on rack n) ≡ false
  unfolding any strips_on
  none_passes P zero h = refl
  none_passes P (suc n) h = λ i. h n (omega arith) i || none_passes P n (λ j l. h j (omega arith)) i

  one_passes : (P : Window → Bool) (n j : ℕ) → j < n → P (strip_at rack j) ≡ true → any P (strips_on rack n) ≡ true
  unfolding any strips_on
  one_passes P zero j l e = absurd (omega arith)
  one_passes P (suc n) j l e = ⊎_elim
      (λ s. ap (λ (k : ℕ). P (strip_at rack k) || any P (strips_on rack n)) (sym s) ∙ ap (λ (b : Bool). b || any P (strips_on rack n)) e)
      (λ m. ap (λ (b : Bool). P (strip_at rack n) || b) (one_passes P n j m e) ∙ or_true (P (strip_at rack n)))
      (eq-or-lt_of_le {n = j} {m = n} (omega arith))
    where
      or_true : (b : Bool) → (b || true) ≡ true
      or_true true = refl
      or_true false = refl

  -- ---- pairs of places
  apart_on : (n : ℕ) → ((p q : ℕ) → p < q → q < n → share rack p q ≡ false) → no_two_share (strips_on rack n) ≡ true
  unfolding no_two_share strips_on
  apart_on zero h = refl
  apart_on (suc n) h =
      let clear = none_passes (shares_area (strip_at rack n)) n (λ j l. turned (strip_at rack n) (strip_at rack j) ∙ h j n l (omega arith)) in
      λ i. not (clear i) && apart_on n (λ p q l m. h p q l (omega arith)) i

  apart_not : (n p q : ℕ) → p < q → q < n → share rack p q ≡ true → no_two_share (strips_on rack n) ≡ false
  unfolding no_two_share strips_on
  apart_not zero p q l m s = absurd (omega arith)
  apart_not (suc n) p q l m s = ⊎_elim
      (λ e. ap (λ (b : Bool). not b && no_two_share (strips_on rack n))
      (one_passes (shares_area (strip_at rack n)) n p (omega (arith, e))
      (turned (strip_at rack n) (strip_at rack p) ∙ ap (λ (k : ℕ). share rack p k) (sym e) ∙ s)))
      (λ k. ap (λ (b : Bool). not (any (shares_area (strip_at rack n)) (strips_on rack n)) && b) (apart_not n p q l k s)
      ∙ and_false (not (any (shares_area (strip_at rack n)) (strips_on rack n))))
      (eq-or-lt_of_le {n = q} {m = n} (omega arith))
    where
      and_false : (b : Bool) → (b && false) ≡ false
      and_false true = refl
      and_false false = refl

module _ {rack : List ℤ} {n : ℕ} where
  pub all_apart : Crowd rack n false → no_two_share (strips_on rack n) ≡ true
  all_apart c = apart_on rack n (c.apart refl)

  pub not_apart : Crowd rack n true → no_two_share (strips_on rack n) ≡ false
  not_apart c = let s = c.sharing refl in apart_not rack n s.0 s.1 s.2 s.3 s.4
