-- A line with a list: its room is the first argument, and of its numbers the first four are the window, the fifth
-- counts the rest.
use mathlib.Core.Path.{◌≡◌, refl, sym, subst, ap, ◌∙◌}
use mathlib.Core.List.{List, [], ◌∷◌, ◌++◌}
use Rattle.std.specs.Prelude.{Option, None, Some}
use Prim.Native.Nat.{ℕ, suc, ◌+◌, ◌-◌, ◌≤◌, ◌<◌}
use native.Mathlib.Omega.{arith}
use lib.IntN.{ℤ, pos}
use lib.ListN.{length, take, drop, get_or, length-append, length-drop}
use lib.Seq.{take_all, take_at, length-take-le, get_or-take}
use Rattle.grid.specs.Table.{sides}
use Rattle.words.specs.Digits.{word_value}
use Rattle.words.specs.Words.{numeral, has_minus, unsigned}
use Rattle.arguments.specs.Arguments.{behind_first, first_word, first_window, Numbers}
use Rattle.lending.specs.Lent.{most_room, Lends, AsksRoom, ListArguments, AsksList}

-- all of a text from a place on
pub rest_of : {A : Type 0} (k : ℕ) (xs : List A) → take (length xs - k) (drop k xs) ≡ drop k xs
rest_of k xs = take_all (length xs - k) (drop k xs) (simp length-drop (omega arith))

-- ---- the room

-- where there is no argument, there is no room
pub no_word : (most : ℕ) (text : List ℕ) → text ≡ [] → unsigned most (numeral (first_word text)) ≡ None
unfolding unsigned numeral has_minus word_value
no_word most [] e = refl
no_word most (b ∷ text) e = absurd (let l = ap length e in omega arith)

pub no_room : (text : List ℕ) → unsigned most_room (numeral (first_word text)) ≡ None → (n : ℕ) → AsksRoom text n → ⊥
no_room text e n a = let z : ◌≡◌ {A = ℕ} 0 1 = cc in omega arith

-- ---- the list

-- m numbers behind a window and their count
cut : (m : ℕ) (zs : List ℤ) → m + 5 ≤ length zs → take (m + 5) zs ≡ sides (first_window zs) ++
    (get_or zs 4 (pos 0) ∷ take m (drop 5 zs))
cut m [] h = absurd (omega arith)
cut m (a ∷ []) h = absurd (omega arith)
cut m (a ∷ b ∷ []) h = absurd (omega arith)
cut m (a ∷ b ∷ c ∷ []) h = absurd (omega arith)
cut m (a ∷ b ∷ c ∷ d ∷ []) h = absurd (omega arith)
cut m (a ∷ b ∷ c ∷ d ∷ e ∷ zs) h = let five : m + 5 ≡ suc (suc (suc (suc (suc m)))) = omega arith in rw five refl

-- the numbers of the text that was read are those behind the first argument
pub behind_numbers : (text behind : List ℕ) (out : List ℤ) (r : Option ℕ) → behind ≡ behind_first text → Numbers behind out r → Numbers (behind_first text) out r
behind_numbers text behind out r e h = subst (λ (t : List ℕ). Numbers t out r) e h

module _ (text : List ℕ) (out : List ℤ) where
  pub no_numbers : Numbers (behind_first text) out None → (x : ListArguments) → AsksList (length out) text x → ⊥
  no_numbers read x a = absurd (omega (arith, a.few, read _ a.numbers, length-append (sides x.window) (pos (length x.list) ∷ x.list)))

module _ (text : List ℕ) (out : List ℤ) (n : ℕ) (read : Numbers (behind_first text) out (Some n)) where
  whole : (x : ListArguments) (a : AsksList (length out) text x) → sides x.window ++
      (pos (length x.list) ∷ x.list) ≡ take n out
  whole x a = let e = sym a.numbers ∙ read.1 in cc

  long : (x : ListArguments) (a : AsksList (length out) text x) → length x.list + 5 ≡ n
  long x a = let all = ap length (whole x a) in omega
      (arith, length-take-le n out read.0, simp length-append at all)

  pub too_few : n < 5 → (x : ListArguments) → AsksList (length out) text x → ⊥
  too_few h x a = omega (arith, long x a)

  pub other_count : (get_or out 4 (pos 0) ≡ pos (n - 5) → ⊥) → (x : ListArguments) → AsksList (length out) text x → ⊥
  other_count ne x a =
      let l = long x a in
      ne (sym (get_or-take n out 4 (pos 0) (omega arith)) ∙ ap (λ zs. get_or zs 4 (pos 0)) (sym (whole x a)) ∙ ap pos
      (omega arith))

  pub asks_list : {room : ℕ} → AsksRoom text room → 5 ≤ n → get_or out 4 (pos 0) ≡ pos (n - 5) →
      AsksList (length out) text (record { room = room; window = first_window out; list = take (n - 5) (drop 5 out) })
  asks_list asked h e =
      let m : ℕ = n - 5 in
      let same : n ≡ m + 5 = omega arith in
      let count : length (take m (drop 5 out)) ≡ m = length-take-le m (drop 5 out)
      (simp length-drop (omega (arith, read.0))) in
      record {
        room = asked;
        numbers = read.1 ∙ ap Some
            (ap (λ k. take k out) same ∙ cut m out (omega (arith, read.0))
            ∙ ap (λ z. sides (first_window out) ++ (z ∷ take m (drop 5 out))) (e ∙ ap pos (sym count)));
        few = omega (arith, read.0);
      }

-- ---- a part of the output is lent

pub lent_front : {Call : List ℤ → List ℤ → Type 0} (part rest : List ℤ) {room : ℕ} → length part ≡ room →
    Lends Call part → Lends Call (take room (part ++ rest))
lent_front part rest {room} e h = rw (take_at part rest room e) h

pub part_length : (room : ℕ) (lent : List ℤ) → room ≤ length lent → length (take (room - 0) lent) ≡ room
part_length room lent h = let all : room - 0 ≡ room = omega arith in length-take-le (room - 0) lent (omega arith) ∙ all
