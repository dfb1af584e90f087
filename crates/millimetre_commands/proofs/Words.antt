-- Each f32 of a line takes nine bytes, a space and eight digits, so that the place of each is known.
use mathlib.Core.Path.{◌≡◌, refl}
use mathlib.Core.Bool.{Bool, true, false}
use mathlib.Core.List.{List, [], ◌∷◌}
use Prim.Native.Nat.{ℕ, ◌+◌, ◌*◌, ◌-◌, ◌≤◌}
use native.Mathlib.Omega.{arith}
use lib.Dec.{eqb}
use lib.IntN.{ℤ}
use lib.Ieee.{Float}
use lib.ListN.{length, take, drop, length-append, length-drop, take-append-drop, drop_of_length-le}
use lib.Seq.{take_all, take_at, drop_at, drop-drop}
use borrow.Author.Tests.{eqb-true}
use Rattle.whole.specs.Choice.{when◌then◌else◌}
use Rattle.words.specs.Words.{single, with_bits, up_to, as_integer, numeral, has_minus}
use Rattle.words.specs.Digits.{word_value}
use Rattle.std.specs.Prelude.{None, Some}
use Rattle.millimetre_commands.specs.Lines.{single_at, Singles, empty, one, AsksBack}

-- only a word of eight bytes is an f32
eight : (w : List ℕ) {x : Float} → single w ≡ Some x → length w ≡ 8
unfolding single
eight w {x} h = go (eqb (length w) 8) refl h
  where
    go : (t : Bool) → eqb (length w) 8 ≡ t →
        (when t then with_bits (up_to 0xffff_ffff (word_value 16 w)) else None) ≡ Some x → length w ≡ 8
    go true e h = eqb-true _ _ e
    go false e h = let z : ◌≡◌ {A = ℕ} 0 1 = cc in absurd (omega arith)

-- the first f32 of a text, and the text behind it
front : {text : List ℕ} {x : Float} {xs : List Float} → Singles text (x ∷ xs) → single_at text ≡ Some x
front (one w {text} h s) = rw (take_at w text 8 (eight w h)) h

behind : {text : List ℕ} {x : Float} {xs : List Float} → Singles text (x ∷ xs) → Singles (drop 9 text) xs
behind (one w {text} h s) = rw (drop_at w text 8 (eight w h)) s

put : {x : Float} {xs : List Float} (text : List ℕ) → 9 ≤ length text → single_at text ≡ Some x → Singles
    (drop 9 text) xs → Singles text (x ∷ xs)
put [] l h s = absurd (omega arith)
put {x} {xs} (b ∷ text) l h s = go (eqb b 32) refl h
  where
    go : (t : Bool) → eqb b 32 ≡ t → (when t then single (take 8 text) else None) ≡ Some x → Singles
        (b ∷ text) (x ∷ xs)
    go true e h = rw (eqb-true b 32 e) (rw (take-append-drop 8 text) at (one (take 8 text) h s))
    go false e h = let z : ◌≡◌ {A = ℕ} 0 1 = cc in absurd (omega arith)

-- ---- at a place of a line

pub long : {text : List ℕ} {xs : List Float} → Singles text xs → length text ≡ 9 * length xs
long empty = refl
long (one w {text} h s) = simp length-append (omega (arith, eight w h, long s))

module _ (text : List ℕ) (p : ℕ) {x : Float} {xs : List Float} where
  pub not_bad : single_at (drop p text) ≡ None → Singles (drop p text) (x ∷ xs) → ⊥
  not_bad e s = let h = front s in let z : ◌≡◌ {A = ℕ} 0 1 = cc in omega arith

  pub next_at : Singles (drop p text) (x ∷ xs) → Singles (drop (p + 9) text) xs
  next_at s = rw (drop-drop 9 p text) at (behind s)

  pub put_at_lem : p + 9 ≤ length text → single_at (drop p text) ≡ Some x → Singles (drop (p + 9) text) xs → Singles
      (drop p text) (x ∷ xs)
  put_at_lem l h s = put (drop p text) (simp length-drop (omega arith)) h (rw (drop-drop 9 p text) s)

pub end_at : (text : List ℕ) (p : ℕ) → length text ≤ p → Singles (drop p text) []
end_at text p l = rw (drop_of_length-le text l) empty

-- ---- a grid number

pub no_word : (text : List ℕ) {g : ℤ} → length text ≡ 0 → AsksBack text g → ⊥
unfolding as_integer numeral has_minus word_value
no_word [] e h = let z : ◌≡◌ {A = ℕ} 0 1 = cc in omega arith
no_word (b ∷ text) e h = omega arith

pub behind_first : (text : List ℕ) → take (length text - 1) (drop 1 text) ≡ drop 1 text
behind_first text = take_all (length text - 1) (drop 1 text) (simp length-drop (omega arith))
