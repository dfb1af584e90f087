-- A stroke turned round, against a corner window: as for a rectangle what answers it is made from the answer of the stroke, since a point of its way is one
-- of the way back, and the condition of each edge turns as that of a side does.
use mathlib.Core.Path.{◌≡◌, refl, sym, ◌∙◌, subst}
use mathlib.Core.Bool.{Bool, true, false}
use mathlib.Core.List.{List, [], ◌∷◌, ◌++◌}
use Prim.Native.Nat.{ℕ, zero, suc}
use lib.IntN.{ℤ, ◌-ℤ◌}
use lib.ListN.{length}
use Rattle.whole.proofs.Comparisons.{ff_tt, tt_ff}
use Rattle.whole.proofs.Expressions.{◌⊖◌, neg, x0, x1}
use Rattle.whole.proofs.Polynomials.{ring}
use Rattle.grid.specs.declared.Refusal.{Refusal}
use Rattle.grid.specs.declared.Stroke.{Stroke}
use Rattle.grid.specs.Refusals.{none}
use Rattle.grid.proofs.Refusals.{done_or_refused}
use Rattle.rings.specs.Points.{Point, det}
use Rattle.rings.specs.Rings.{InRing, at}
use Rattle.convex.specs.Corners.{next}
use Rattle.spans.proofs.Parts.{part_missed}
use Rattle.corners.specs.Corners.{point_at, KeepsIn, CornerClipped, cyrus_beck_refusal, blank_answer}
use Rattle.corners.specs.Edges.{start, finish, edge_condition, first_conditions, edge_conditions}
use Rattle.corners.specs.declared.CornerAnswer.{CornerAnswer}
use Rattle.corners.proofs.Answers.{clip_unique}
use Rattle.rings.specs.Lists.{Each, none as nothing, ◌and◌}
use Rattle.turned_round.specs.Laws.{turn_round, one_minus, CornersTurnedRound, TurnedRoundInCorners}
use Rattle.turned_round.proofs.Parts.{along_back, time_back, first_back, last_back}
use Rattle.turned_round.proofs.Refusing.{SameRefusal, corners_turned}
use Rattle.turned_round.proofs.Sides.{TurnedBack, start_back, end_back}

-- ---- what is kept
point_turned : (s : Stroke) (n d : ℤ) → point_at s n d ≡ point_at (turn_round s) (d -ℤ n) d
point_turned s n d = λ i. record { X = along_back s.x1 s.x2 n d i; Y = along_back s.y1 s.y2 n d i; W = d }

keeps_in_back : {cs : List Point} {s : Stroke} (n d : ℤ) → KeepsIn cs s n d → KeepsIn cs (turn_round s) (d -ℤ n) d
keeps_in_back {cs} {s} n d k = record { time = time_back k.time; inside = subst (InRing cs) (point_turned s n d) k.inside }

-- ---- the edges
edge_turned : (cs : List Point) (s : Stroke) (k : ℕ) → TurnedBack (edge_condition cs s k) (edge_condition cs (turn_round s) k)
edge_turned cs s k =
    let a = at cs k in
    let b = at cs (next (length cs) k) in
    let ρ = det a b (start s) ∷ det a b (finish s) ∷ [] in
    record { p = ring ρ (x1 ⊖ x0) (neg (x0 ⊖ x1)) tt; q = ring ρ x1 (x0 ⊖ (x0 ⊖ x1)) tt }

one_more : {A B : Type 0} {R : A → B → Type 0} {xs : List A} {ys : List B} {x : A} {y : B} → Each R xs ys → R x y → Each R (xs ++ x ∷ []) (ys ++ y ∷ [])
one_more nothing r = ◌and◌ r nothing
one_more (◌and◌ s ss) r = ◌and◌ s (one_more ss r)

first_turned : (cs : List Point) (s : Stroke) (n : ℕ) → Each TurnedBack (first_conditions cs s n) (first_conditions cs (turn_round s) n)
first_turned cs s zero = nothing
first_turned cs s (suc n) = one_more (first_turned cs s n) (edge_turned cs s n)

edges_turned : (cs : List Point) (s : Stroke) → Each TurnedBack (edge_conditions cs s) (edge_conditions cs (turn_round s))
edges_turned cs s = first_turned cs s (length cs)

-- ---- an answer that keeps nothing, and its like
blank_turned : {r q : Refusal} → SameRefusal r q → CornersTurnedRound (blank_answer r) (blank_answer q)
blank_turned h = record {
  number = h.number;
  place = h.place;
  kept = refl;
  fractions = λ e. absurd (ff_tt e);
  missed = λ _. (refl, refl);
  sides = (refl, refl);
}

-- ---- a stroke in which nothing is refused
abbrev exchanged : CornerAnswer → CornerAnswer
exchanged a = record { number = 0; place = 0; kept = true; t0 = one_minus a.t1; t1 = one_minus a.t0; side0 = a.side1; side1 = a.side0 }

module _ {cs : List Point} {s : Stroke} {a : CornerAnswer} (p : CornerClipped cs s a) where
  exchanged_is : a.kept ≡ true → CornerClipped cs (turn_round s) (exchanged a)
  exchanged_is e = record {
    number = refl;
    place = refl;
    part = record {
      keeps = λ n d k. refl;
      first = λ _. first_back {K' = KeepsIn cs (turn_round s)} keeps_in_back keeps_in_back (p.part.last e);
      last = λ _. last_back {K' = KeepsIn cs (turn_round s)} keeps_in_back keeps_in_back (p.part.first e);
      missed = λ f. absurd (tt_ff f);
    };
    start_side = λ _. start_back (edges_turned cs s) a.t1 (p.end_side e);
    end_side = λ _. end_back (edges_turned cs s) a.t0 (p.start_side e);
    missed = λ f. absurd (tt_ff f);
  }

  nothing_back : a.kept ≡ false → CornerClipped cs (turn_round s) (blank_answer none)
  nothing_back e = record {
    number = refl;
    place = refl;
    part = part_missed (λ (n d : ℤ) (k : KeepsIn cs (turn_round s) n d). ff_tt (sym e ∙ p.part.keeps (d -ℤ n) d (keeps_in_back n d k)));
    start_side = λ f. absurd (ff_tt f);
    end_side = λ f. absurd (ff_tt f);
    missed = λ _. refl;
  }

  clipped_turned : {b : CornerAnswer} → CornerClipped cs (turn_round s) b → CornersTurnedRound a b
  clipped_turned {b} q = go a.kept refl
    where
      go : (k : Bool) → a.kept ≡ k → CornersTurnedRound a b
      go true e = subst (CornersTurnedRound a) (clip_unique (exchanged_is e) q) (record {
        number = sym p.number;
        place = λ _. sym p.place;
        kept = sym e;
        fractions = λ _. (refl, refl);
        missed = λ f. absurd (tt_ff (sym e ∙ f));
        sides = (refl, refl);
      })
      go false e =
          subst (λ (x : CornerAnswer). CornersTurnedRound x b) (sym (p.missed e))
          (subst (CornersTurnedRound (blank_answer none)) (clip_unique (nothing_back e) q) (blank_turned (record { number = refl; place = λ _. refl })))

-- ---- the call
pub turned_round_in_corners : TurnedRoundInCorners
turned_round_in_corners zs s a b p q =
    let same = corners_turned zs s in
    done_or_refused (cyrus_beck_refusal zs s)
    (λ z. clipped_turned (p.done z) (q.done (same.number ∙ z)))
    (λ n.
    subst (λ (x : CornerAnswer). CornersTurnedRound x b) (sym (p.refused n))
    (subst (CornersTurnedRound (blank_answer (cyrus_beck_refusal zs s))) (sym (q.refused (λ z. n (sym same.number ∙ z)))) (blank_turned same)))
