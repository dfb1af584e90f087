-- The byte that a text ends with.
use mathlib.Core.Path.{◌≡◌, sym, ap, ap₂, ◌∙◌}
use mathlib.Core.Bool.{Bool, true, false}
use mathlib.Core.List.{List, [], ◌∷◌, ◌++◌}
use Prim.Native.Nat.{ℕ, suc, ◌-◌, ◌<◌, ◌≤◌}
use native.Mathlib.Omega.{arith}
use lib.Dec.{eqb}
use lib.ListN.{length, get_or, take, drop_of_length-le, length-append}
use lib.Seq.{split_at, get_or-append_seam}
use Rattle.std.specs.List.{ends_with}
use Rattle.std.proofs.lemmas.Slice.Eq.{ends_is}
use Rattle.std.proofs.lemmas.Bool.Decides.{Decides-eqb}
use Rattle.whole.proofs.Comparisons.{tt_ff}

last_is : {l : List ℕ} (front : List ℕ) (b : ℕ) → l ≡ front ++ b ∷ [] → get_or l (length l - 1) 0 ≡ b
last_is {l} front b e =
    let k : length l - 1 ≡ length front = omega (arith, ap length e, length-append front (b ∷ [])) in
    ap₂ (λ x i. get_or x i 0) e k ∙ get_or-append_seam front b [] 0

split_last : (l : List ℕ) (b : ℕ) → 0 < b → get_or l (length l - 1) 0 ≡ b → l ≡ take (length l - 1) l ++ b ∷ []
split_last [] b h r = absurd (omega (arith, r))
split_last (a ∷ l) b h r =
    let n = length (a ∷ l) - 1 in
    let past : length (a ∷ l) ≤ suc n = omega arith in
    split_at (a ∷ l) n 0 (omega arith) ∙ ap₂ (λ x y. take n (a ∷ l) ++ x ∷ y) r (drop_of_length-le (a ∷ l) past)

-- what the library answers where it is asked for one byte
module _ (l : List ℕ) (b : ℕ) {r : Bool} (e : r ≡ ends_with eqb l (b ∷ [])) where
  pub ends_so : r ≡ true → get_or l (length l - 1) 0 ≡ b
  ends_so t = last_is _ b ((ends_is Decides-eqb l (b ∷ []) r e).0 t)

  pub ends_otherwise : 0 < b → r ≡ false → get_or l (length l - 1) 0 ≡ b → ⊥
  ends_otherwise h f q = tt_ff (sym ((ends_is Decides-eqb l (b ∷ []) r e).1 _ (split_last l b h q)) ∙ f)
