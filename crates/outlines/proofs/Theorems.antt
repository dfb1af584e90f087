-- One answer for each input; and in every order the same ring, since it is determined by its points, which no order changes.
use mathlib.Core.Path.{◌≡◌, sym, ap, ◌∙◌, subst, transport}
use mathlib.Core.List.{List, ◌++◌}
use mathlib.Core.Logic.{⊎_elim}
use Prim.Native.Nat.{ℕ, ◌≤◌}
use borrow.Author.Tests.{le-leb}
use lib.IntN.{ℤ}
use lib.ListN.{length, take, drop}
use lib.Seq.{take-append_seam}
use Rattle.grid.specs.Calls.{answered_by, written, Call}
use Rattle.grid.specs.declared.Refusal.{Refusal}
use Rattle.grid.specs.declared.Window.{Window}
use Rattle.grid.proofs.Calls.{lent_cases, lent_unique, given_cases, answered_read, call_unique}
use Rattle.outlines.specs.Outlines.{bad_order, outline_refusal, OutlineGives, SmallDenominators, no_fraction, refused_outline, gave_outline, Outline}
use Rattle.outlines.specs.Laws.{ring_answer, OneOutlineAnswer, AnyOrder, Denominators}
use Rattle.outlines.specs.declared.OutlineAnswer.{OutlineAnswer}
use Rattle.outlines.proofs.Refusals.{nothing_refused}
use Rattle.outlines.proofs.Unique.{gives_unique}
use Rattle.outlines.proofs.Promised.{clipped_unique}

pub one_outline_answer : OneOutlineAnswer
one_outline_answer w o zs a b before after after' p q =
    lent_unique
    (λ z x y.
    let t = nothing_refused w o zs z in
    let g = x.given in
    let h = y.given in
    let e = clipped_unique w t.order zs t.ring g.gives h.gives in (
      g.answer ∙ (λ i. answered_by refused_outline (gave_outline (e.1 i)) (e.0 i) (length before)) ∙ sym h.answer,
      g.output ∙ ap (λ (xs : List ℤ). written xs before) e.0 ∙ sym h.output,
    ))
    p q

-- ---- every order is as good as another
-- what is said of the ring
ring_call : {w : Window} {o : ℕ} {zs : List ℤ} {a : OutlineAnswer} {before after : List ℤ} → Outline w o zs a before after
    → Call (outline_refusal w o zs) (OutlineGives w zs) (ring_answer a) before after
ring_call {before = before} c = record {
  refused = λ n. record { answer = ap ring_answer (c.refused n).answer; untouched = (c.refused n).untouched };
  done = λ z. let d = c.done z in let g = d.given in record {
    numbers = g.numbers;
    gives = g.gives.gives;
    answer = ap ring_answer g.answer ∙ answered_read ring_answer refused_outline (gave_outline d.counts) g.numbers (length before);
    output = g.output;
  };
}

same_refusal : {o o' : ℕ} (w : Window) (zs : List ℤ) → o ≤ 23 → o' ≤ 23 → outline_refusal w o zs ≡ outline_refusal w o' zs
unfolding outline_refusal bad_order
same_refusal w zs h h' = simp (le-leb _ _ h, le-leb _ _ h')

pub any_order : AnyOrder
any_order w o o' zs a a' before after after' h h' p q =
    call_unique (outline_refusal w o zs) (λ xs ys. gives_unique) (ring_call p)
    (subst (λ (r : Refusal). Call r (OutlineGives w zs) (ring_answer a') before after') (same_refusal w zs h' h) (ring_call q))

-- ---- denominators: what was written is the list that was given, or nothing
pub denominators : Denominators
denominators w o zs a before after c =
    ⊎_elim nothing
    (λ d. ⊎_elim nothing (all d.given.numbers d.given.gives.denominators) (given_cases d.given)) (lent_cases c)
  where
    nothing : {r : Refusal} → a ≡ refused_outline r → SmallDenominators (take a.count after)
    nothing e = subst (λ (b : OutlineAnswer). SmallDenominators (take b.count after)) (sym e) no_fraction

    all : {ns : List ℕ} (xs : List ℤ) → SmallDenominators xs → (a ≡ gave_outline ns xs) × (after ≡ xs ++ drop (length xs) before)
        → SmallDenominators (take a.count after)
    all xs s (e, f) =
        transport (λ i. SmallDenominators (take (sym e i).count (sym f i)))
        (subst SmallDenominators (sym (take-append_seam xs (drop (length xs) before))) s)
