-- Where a word ends, and how a line falls into words.
use mathlib.Core.Path.{◌≡◌, refl, ap, ◌∙◌}
use mathlib.Core.Bool.{Bool, true, false, not}
use Rattle.std.specs.Prelude.{Option, ℤ}
use mathlib.Core.List.{List, [], ◌∷◌}
use Prim.Native.Nat.{ℕ, suc, ◌+◌, ◌-◌, ◌<◌}
use native.Mathlib.Numerals.{add-one}
use native.Mathlib.Omega.{arith}
use lib.Dec.{eqb}
use lib.ListN.{length, take, drop}
use lib.Seq.{drop-cons, drop-drop}
use Rattle.whole.specs.Choice.{when◌then◌else◌}
use Rattle.text.specs.Runs.{run, is_not}
use Rattle.words.specs.Words.{numeral, as_integer, words, arguments, onto, and_integer, integers}

-- how many bytes come before the first space
abbrev pub to_space : List ℕ → ℕ
to_space l = run (is_not 32) l

pub words_cut : (l : List ℕ) → words l ≡ take (to_space l) l ∷ arguments (drop (to_space l) l)
unfolding words run arguments
words_cut [] = refl
words_cut (b ∷ l) = go (eqb b 32) (words_cut l)
  where
    go : (t : Bool) → words l ≡ take (to_space l) l ∷ arguments (drop (to_space l) l)
        → (when t then [] ∷ words l else onto b (words l)) ≡ take (when not t then suc (to_space l) else 0) (b ∷ l)
        ∷ arguments (drop (when not t then suc (to_space l) else 0) (b ∷ l))
    go true e = refl
    go false e = ap (onto b) e

-- the first argument, and those after it
arguments_cut : (l : List ℕ) (at : ℕ) → at < length l → let start = at + 1 in
    arguments (drop at l) ≡ take (to_space (drop start l)) (drop start l) ∷ arguments (drop (start + to_space (drop start l)) l)
unfolding arguments
arguments_cut l at h =
    rw (add-one, drop-cons l at 0 h)
    (words_cut (drop (suc at) l) ∙ ap (λ r. take (to_space (drop (suc at) l)) (drop (suc at) l) ∷ arguments r) (drop-drop (to_space (drop (suc at) l)) (suc at) l))

-- and the number that the first is
pub integers_cut : (l : List ℕ) (at end : ℕ) (r : Option ℤ) → at < length l → let start = at + 1 in end ≡ start + to_space (drop start l)
    → r ≡ as_integer (numeral (take (end - start) (drop start l))) → integers (arguments (drop at l)) ≡ and_integer r (integers (arguments (drop end l)))
unfolding integers
integers_cut l at end r h e k =
    let long : end - (at + 1) ≡ to_space (drop (at + 1) l) = omega arith in
    rw (k, long, arguments_cut l at h, e)
