-- A list that is read number by number into the front of an output.
use mathlib.Core.Path.{◌≡◌, refl, sym, ap, ◌∙◌}
use mathlib.Core.List.{List, [], ◌∷◌, ◌++◌, append_assoc, append-nil}
use Rattle.std.specs.Prelude.{Option, None, Some}
use Prim.Native.Nat.{ℕ, ◌+◌, ◌≤◌, ◌<◌}
use native.Mathlib.Numerals.{add-one}
use native.Mathlib.Omega.{arith}
use lib.ListN.{length, take, set, length-append}
use lib.Seq.{take-suc-set, length-take-le}
use Rattle.words.specs.Words.{and, Into}

-- what a list is, by its front and what follows
abbrev pub after : {A : Type 0} → List A → Option (List A) → Option (List A)
after xs None = None
after xs (Some ys) = Some (xs ++ ys)

module _ {A : Type 0} where
  pub start : (o : Option (List A)) → o ≡ after [] o
  start None = refl
  start (Some xs) = refl

  pub one_more : (out : List A) (n : ℕ) (x : A) (rest : Option (List A)) → n < length out → after (take n out) (and x rest) ≡ after (take (n + 1) (set out n x)) rest
  one_more out n x None h = refl
  one_more out n x (Some ys) h = ap Some (rw (add-one, take-suc-set out n x h) (sym (append_assoc (take n out) (x ∷ []) ys)))

  pub no_list : (o : Option (List A)) (out : List A) → o ≡ None → Into o out None
  no_list o out e xs k = let z : None ≡ Some xs = cc in absurd (let y : ◌≡◌ {A = ℕ} 0 1 = cc in omega arith)

  module _ (o : Option (List A)) (out : List A) (n : ℕ) where
    pub all_read : n ≤ length out → o ≡ after (take n out) (Some []) → Into o out (Some n)
    all_read h e = (h, e ∙ ap Some (append-nil (take n out)))

    long : (x : A) (rest : Option (List A)) (xs : List A) → n ≡ length out → Some xs ≡ after (take n out) (and x rest) → length out < length xs
    long x None xs h e = let z : ◌≡◌ {A = ℕ} 0 1 = cc in omega arith
    long x (Some ys) xs h e =
        let same : xs ≡ take n out ++ (x ∷ ys) = cc in
        rw same (rw length-append (omega (arith, length-take-le n out (omega arith))))

    pub no_room : (x : A) (rest : Option (List A)) → n ≡ length out → o ≡ after (take n out) (and x rest) → Into o out None
    no_room x rest h e xs k = long x rest xs h (sym k ∙ e)
