-- A call refuses, has too little room, or gives its list; and two results of a call are equal, answer and memory, wherever two results of a done call are.
use mathlib.Core.Path.{◌≡◌, refl, sym, ap, ◌∙◌}
use mathlib.Core.Bool.{Bool, true, false}
use mathlib.Core.List.{List, ◌++◌}
use mathlib.Core.Logic.{◌⊎◌, inl, inr}
use Prim.Native.Nat.{ℕ, ◌<◌, ◌≤◌}
use borrow.Author.Tests.{eqb-true, eqb-false, le-leb, lt-leb}
use lib.Dec.{eqb, leb}
use lib.IntN.{ℤ}
use lib.ListN.{length, drop}
use Rattle.whole.specs.Choice.{when◌then◌else◌}
use Rattle.grid.specs.Calls.{Lent, written, answered_by, GivenBy, GaveNumbers}
use Rattle.grid.specs.Refusals.{no_room, refuse, room_refusal}
use Rattle.grid.specs.declared.Refusal.{Refusal}

-- ---- a call refuses, or is done
module _ {A M : Type 0} {blank : Refusal → A} {r : Refusal} {Done : A → M → M → Type 0} where
  pub lent_refused : {q : Refusal} {before : M} → r ≡ q → (q.number ≡ 0 → ⊥) → Lent blank r Done (blank q) before before
  lent_refused e n = record {
    refused = λ _. record { answer = ap blank (sym e); untouched = refl };
    done = λ z. absurd (n (ap (λ (s : Refusal). s.number) (sym e) ∙ z));
  }

  pub lent_done : {a : A} {before after : M} → r.number ≡ 0 → Done a before after → Lent blank r Done a before after
  lent_done z d = record { refused = λ n. absurd (n z); done = λ _. d }

  pub lent_cases : {a : A} {before after : M} → Lent blank r Done a before after → (a ≡ blank r) ⊎ Done a before after
  lent_cases {a} {before} {after} p = go (eqb r.number 0) refl
    where
      go : (t : Bool) → eqb r.number 0 ≡ t → (a ≡ blank r) ⊎ Done a before after
      go true t = inr (p.done (eqb-true r.number 0 t))
      go false t = inl (p.refused (eqb-false r.number 0 t)).answer

  pub lent_unique : {a b : A} {before after after' : M} → (r.number ≡ 0 → Done a before after → Done b before after' → (a ≡ b) × (after ≡ after'))
      → Lent blank r Done a before after → Lent blank r Done b before after' → (a ≡ b) × (after ≡ after')
  lent_unique {a} {b} {before} {after} {after'} only p q = go (eqb r.number 0) refl
    where
      go : (t : Bool) → eqb r.number 0 ≡ t → (a ≡ b) × (after ≡ after')
      go true t = let z = eqb-true r.number 0 t in only z (p.done z) (q.done z)
      go false t =
          let n = eqb-false r.number 0 t in
          ((p.refused n).answer ∙ sym (q.refused n).answer, (p.refused n).untouched ∙ sym (q.refused n).untouched)

-- ---- a list is given
module _ {A : Type 0} {blank : Refusal → A} {full : List ℤ → A} {Gives : List ℤ → Type 0} {before : List ℤ} where
  pub given_short : (xs : List ℤ) → Gives xs → length before < length xs → GivenBy blank full Gives (blank (refuse no_room (length xs))) before before
  unfolding answered_by room_refusal written
  given_short xs g h = record { numbers = xs; gives = g; answer = simp (lt-leb _ _ h); output = simp (lt-leb _ _ h) }

  pub given_whole : (xs : List ℤ) {after : List ℤ} → Gives xs → length xs ≤ length before → after ≡ written xs before → GivenBy blank full Gives (full xs) before after
  unfolding answered_by room_refusal
  given_whole xs g h e = record { numbers = xs; gives = g; answer = simp (le-leb _ _ h); output = e }

  -- what stands in the output: the list from its front on, or all as before where it has no room
  pub given_cases : {a : A} {after : List ℤ} (g : GivenBy blank full Gives a before after) → let xs = g.numbers in
      (a ≡ blank (refuse no_room (length xs))) ⊎ ((a ≡ full xs) × (after ≡ xs ++ drop (length xs) before))
  unfolding answered_by room_refusal written
  given_cases {a} {after} g = go (leb (length xs) (length before)) refl
    where
      xs : List ℤ
      xs = g.numbers

      go : (t : Bool) → leb (length xs) (length before) ≡ t
          → (a ≡ blank (refuse no_room (length xs))) ⊎ ((a ≡ full xs) × (after ≡ xs ++ drop (length xs) before))
      go true t = inr (g.answer ∙ simp t, g.output ∙ simp t)
      go false t = inl (g.answer ∙ simp t)

  pub given_unique : {a b : A} {after after' : List ℤ} → ((xs ys : List ℤ) → Gives xs → Gives ys → xs ≡ ys)
      → GivenBy blank full Gives a before after → GivenBy blank full Gives b before after' → (a ≡ b) × (after ≡ after')
  given_unique only x y =
      let e = only x.numbers y.numbers x.gives y.gives in (
        x.answer ∙ ap (λ (zs : List ℤ). answered_by blank full zs (length before)) e ∙ sym y.answer,
        x.output ∙ ap (λ (zs : List ℤ). written zs before) e ∙ sym y.output,
      )

-- what is read off an answer
pub answered_read : {A B : Type 0} (f : A → B) (blank : Refusal → A) (full : List ℤ → A) (xs : List ℤ) (room : ℕ)
    → f (answered_by blank full xs room) ≡ answered_by (λ r. f (blank r)) (λ ys. f (full ys)) xs room
unfolding answered_by
answered_read f blank full xs room = go (eqb (room_refusal (length xs) room).number 0)
  where
    go : (b : Bool) → f (when b then full xs else blank (room_refusal (length xs) room)) ≡ (when b then f (full xs) else f (blank (room_refusal (length xs) room)))
    go true = refl
    go false = refl

-- two results of a call that gives a list are equal wherever the list is the only one
pub call_unique : {A : Type 0} {blank : Refusal → A} {full : List ℤ → A} (r : Refusal) {Gives : List ℤ → Type 0} {a b : A} {before after after' : List ℤ}
    → ((xs ys : List ℤ) → Gives xs → Gives ys → xs ≡ ys)
    → Lent blank r (GivenBy blank full Gives) a before after → Lent blank r (GivenBy blank full Gives) b before after' → (a ≡ b) × (after ≡ after')
call_unique r only = lent_unique (λ z. given_unique only)

-- ---- the numbers are counted: the answer of so many numbers is that of the ones given
pub answer_given : {A : Type 0} {blank : Refusal → A} {full : List ℤ → A} {Gives : List ℤ → Type 0} {n : ℕ} {a : A} {before after : List ℤ}
    → ((xs : List ℤ) → n ≡ length xs → a ≡ answered_by blank full xs (length before)) → GaveNumbers Gives n before after
    → GivenBy blank full Gives a before after
answer_given e g = record { numbers = g.numbers; gives = g.gives; answer = e g.numbers g.count; output = g.output }
