-- Many strokes, some of them turned round: a touch stays one, and row by row the points are exchanged or the same, so the rows are as many and stand
-- where the others stood.
use mathlib.Core.Path.{◌≡◌, refl, sym, ap, ◌∙◌, subst}
use mathlib.Core.Bool.{Bool, true, false, not, ◌&&◌, ◌||◌}
use mathlib.Core.List.{List, [], ◌∷◌, ◌++◌}
use Prim.Native.Nat.{ℕ, suc}
use borrow.Author.Tests.{eqb-true, eqb-false}
use lib.Dec.{eqb, leb}
use lib.IntN.{ℤ, pos, nat_abs}
use lib.ListN.{length, take, drop}
use lib.Seq.{take-append_seam, drop-append_seam}
use Rattle.whole.specs.Choice.{when◌then◌else◌}
use Rattle.whole.proofs.Certificates.{gt, lt}
use Rattle.whole.proofs.Comparisons.{same_test}
use Rattle.whole.proofs.Expressions.{◌⊖◌, ◌⊗◌, x0, x1, x2, x3}
use Rattle.fraction.specs.declared.Fraction.{Fraction}
use Rattle.fraction.specs.Fraction.{less_than, equal_to}
use Rattle.grid.specs.declared.Answer.{Answer}
use Rattle.grid.specs.declared.Stroke.{Stroke}
use Rattle.grid.specs.declared.Window.{Window}
use Rattle.grid.specs.Calls.{Given, written, answered, answered_by, gives_all, refused_by}
use Rattle.grid.specs.Refusals.{none, refuse, no_room, room_refusal}
use Rattle.grid.specs.Table.{strokes_of}
use Rattle.rings.specs.Lists.{Each}
use Rattle.rings.specs.Lists as lists
use Rattle.strokes.specs.Strokes.{Clipped}
use Rattle.strokes.specs.declared.StrokeAnswer.{StrokeAnswer}
use Rattle.cuts.specs.Cuts.{is_given}
use Rattle.batch.specs.Batches.{five_of, row, rows, RowsGiven, batch_refusal}
use Rattle.strokes.proofs.Unique.{clipped_unique}
use Rattle.turned_round.specs.Laws.{turn_round, one_minus, AnswerTurnedRound, swap, strokes_turned_round, rows_turned_round}
use Rattle.turned_round.specs.Laws.{BatchTurnedRound, TurnedRoundInRows}
use Rattle.turned_round.proofs.Refusing.{SameRefusal, batch_turned}
use Rattle.turned_round.proofs.Strokes.{clipped_turned}

-- ---- the strokes of the list
unfoldable turn_some : (ℕ → Bool) → ℕ → List Stroke → List Stroke
turn_some which k [] = []
turn_some which k (s ∷ ss) = (when which k then turn_round s else s) ∷ turn_some which (suc k) ss

strokes_turned : (which : ℕ → Bool) (k : ℕ) (zs : List ℤ) → strokes_of (strokes_turned_round which k zs) ≡ turn_some which k (strokes_of zs)
unfolding strokes_of strokes_turned_round turn_some
strokes_turned which k [] = refl
strokes_turned which k (a ∷ []) = refl
strokes_turned which k (a ∷ b ∷ []) = refl
strokes_turned which k (a ∷ b ∷ c ∷ []) = refl
strokes_turned which k (a ∷ b ∷ c ∷ d ∷ zs) = go (which k) (strokes_turned_round which (suc k) zs) (strokes_turned which (suc k) zs)
  where
    this : Stroke
    this = record { x1 = a; y1 = b; x2 = c; y2 = d }

    go : (turn : Bool) (rest : List ℤ) {ss : List Stroke} → strokes_of rest ≡ ss
        → strokes_of (swap turn a b c d ++ rest) ≡ (when turn then turn_round this else this) ∷ ss
    go true rest e = ap (λ (ss : List Stroke). turn_round this ∷ ss) e
    go false rest e = ap (λ (ss : List Stroke). this ∷ ss) e

-- ---- their rows
-- of two fractions the one is less than the other exactly when what is behind it is more
less_behind : (f g : Fraction) → less_than (one_minus g) (one_minus f) ≡ less_than f g
unfolding less_than
less_behind f g =
    let ρ = f.num ∷ f.den ∷ g.num ∷ g.den ∷ [] in
    same_test
    (λ h. gt ρ (x0 ⊗ x3) (x2 ⊗ x1) (lt ((x3 ⊖ x2) ⊗ x1) ((x1 ⊖ x0) ⊗ x3) h) tt)
    (λ h. gt ρ ((x3 ⊖ x2) ⊗ x1) ((x1 ⊖ x0) ⊗ x3) (lt (x0 ⊗ x3) (x2 ⊗ x1) h) tt)

equal_behind : (f g : Fraction) → equal_to (one_minus g) (one_minus f) ≡ equal_to f g
unfolding equal_to
equal_behind f g = λ i. not (less_behind f g i || less_behind g f i)

given_turned_round : (touches : Bool) (a b : StrokeAnswer) → AnswerTurnedRound a b → is_given touches b ≡ is_given touches a
given_turned_round touches a b t = go a.kept refl
  where
    by : Bool → Bool → Bool
    by kept equal = kept && (touches || not equal)

    go : (k : Bool) → a.kept ≡ k → is_given touches b ≡ is_given touches a
    go true e = let f = t.fractions e in
        λ i. by (t.kept i) (((λ j. equal_to (f.0 j) (f.1 j)) ∙ equal_behind a.t0 a.t1) i)
    go false e =
        ap (λ (k : Bool). by k (equal_to b.t0 b.t1)) (t.kept ∙ e) ∙ sym (ap (λ (k : Bool). by k (equal_to a.t0 a.t1)) e)

abbrev Turns : Bool → StrokeAnswer → StrokeAnswer → Type 0
Turns true a b = AnswerTurnedRound a b
Turns false a b = a ≡ b

module _ (touches : Bool) (which : ℕ → Bool) where
  row_turned : (k : ℕ) (a b : StrokeAnswer) → Turns (which k) a b → (xs : List ℤ)
      → rows_turned_round which (row touches k a ++ xs) ≡ row touches k b ++ rows_turned_round which xs
  unfolding rows_turned_round
  row_turned k a b t xs = go (which k) refl t
    where
      five : Bool → StrokeAnswer → List ℤ
      five given c = when given then five_of k c else []

      -- a row where the stroke is turned round, or not
      said : {turn : Bool} → which k ≡ turn → (c : StrokeAnswer)
          → rows_turned_round which (five_of k c ++ xs)
          ≡ pos k ∷ swap turn c.ax c.ay c.bx c.by ++ rows_turned_round which xs
      said e c = ap (λ (turn : Bool). pos k ∷ swap turn c.ax c.ay c.bx c.by ++ rows_turned_round which xs) e

      back : AnswerTurnedRound a b → which k ≡ true → (h : Bool) → is_given touches b ≡ h
          → rows_turned_round which (five h a ++ xs) ≡ five (is_given touches b) b ++ rows_turned_round which xs
      back t w true e =
          said w a ∙ (λ i. pos k ∷ sym t.start.0 i ∷ sym t.start.1 i ∷ sym t.finish.0 i ∷ sym t.finish.1 i ∷ rows_turned_round which xs)
          ∙ ap (λ (h : Bool). five h b ++ rows_turned_round which xs) (sym e)
      back t w false e = ap (λ (h : Bool). five h b ++ rows_turned_round which xs) (sym e)

      alike : which k ≡ false → (h : Bool) → rows_turned_round which (five h a ++ xs) ≡ five h a ++ rows_turned_round which xs
      alike w true = said w a
      alike w false = refl

      go : (turn : Bool) → which k ≡ turn → Turns turn a b → rows_turned_round which (row touches k a ++ xs) ≡ row touches k b ++ rows_turned_round which xs
      go true w t = back t w (is_given touches a) (given_turned_round touches a b t)
      go false w t = alike w (is_given touches a) ∙ ap (λ (c : StrokeAnswer). row touches k c ++ rows_turned_round which xs) t

  each_turned : {w : Window} (k : ℕ) {ss : List Stroke} {answers others : List StrokeAnswer}
      → Each (Clipped w) ss answers → Each (Clipped w) (turn_some which k ss) others
      → rows_turned_round which (rows touches k answers) ≡ rows touches k others
  unfolding rows rows_turned_round turn_some
  each_turned k lists.none lists.none = refl
  each_turned {w} k (lists.◌and◌ {x = s} {y = a} {ys = answers} p ps) (lists.◌and◌ {y = b} {ys = others} q qs) =
      row_turned k a b (go (which k) q) (rows touches (suc k) answers) ∙ ap (λ (xs : List ℤ). row touches k b ++ xs) (each_turned (suc k) ps qs)
    where
      go : (turn : Bool) → Clipped w (when turn then turn_round s else s) b → Turns turn a b
      go true q = clipped_turned p q
      go false q = clipped_unique p q

  rows_turned : {w : Window} {zs xs ys : List ℤ} → RowsGiven touches w zs xs → RowsGiven touches w (strokes_turned_round which 0 zs) ys
      → ys ≡ rows_turned_round which xs
  rows_turned {w} {zs} p q =
      let back = subst (λ (ss : List Stroke). Each (Clipped w) ss q.answers) (strokes_turned which 0 zs) q.clipped in
      q.are ∙ sym (each_turned 0 p.clipped back) ∙ ap (rows_turned_round which) (sym p.are)

rows_length : (which : ℕ → Bool) (xs : List ℤ) → length (rows_turned_round which xs) ≡ length xs
unfolding rows_turned_round
rows_length which [] = refl
rows_length which (k ∷ []) = refl
rows_length which (k ∷ a ∷ []) = refl
rows_length which (k ∷ a ∷ b ∷ []) = refl
rows_length which (k ∷ a ∷ b ∷ c ∷ []) = refl
rows_length which (k ∷ a ∷ b ∷ c ∷ d ∷ xs) = go (which (nat_abs k)) ∙ ap (λ (n : ℕ). suc (suc (suc (suc (suc n))))) (rows_length which xs)
  where
    go : (turn : Bool) → length (k ∷ swap turn a b c d ++ rows_turned_round which xs) ≡ suc (suc (suc (suc (suc (length (rows_turned_round which xs))))))
    go true = refl
    go false = refl

-- ---- what is written and answered, by how many numbers there are
answered_turned : (which : ℕ → Bool) (xs : List ℤ) (room : ℕ) → answered (rows_turned_round which xs) room ≡ answered xs room
unfolding answered_by
answered_turned which xs room = ap of_length (rows_length which xs)
  where
    of_length : ℕ → Answer
    of_length n = let r = room_refusal n room in when eqb r.number 0 then record { number = 0; place = 0; count = n } else refused_by r

written_turned : (which : ℕ → Bool) (xs out : List ℤ) → let n = (answered xs (length out)).count in
    written (rows_turned_round which xs) out ≡ rows_turned_round which (take n (written xs out)) ++ drop n (written xs out)
unfolding written answered_by room_refusal rows_turned_round
written_turned which xs out =
    ap (λ (n : ℕ). when leb n (length out) then rows_turned_round which xs ++ drop n out else out) (rows_length which xs) ∙ go (leb (length xs) (length out))
  where
    given : Bool → List ℤ
    given t = when t then xs ++ drop (length xs) out else out

    count : Bool → ℕ
    count t = let r = when t then none else refuse no_room (length xs) in (when eqb r.number 0 then gives_all xs else refused_by r).count

    go : (t : Bool) → (when t then rows_turned_round which xs ++ drop (length xs) out else out)
        ≡ rows_turned_round which (take (count t) (given t)) ++ drop (count t) (given t)
    go true = λ i. rows_turned_round which (sym (take-append_seam xs (drop (length xs) out)) i) ++ sym (drop-append_seam xs (drop (length xs) out)) i
    go false = refl

given_turned : {touches : Bool} (which : ℕ → Bool) {w : Window} {zs : List ℤ} {a b : Answer} {before after after' : List ℤ}
    → Given (RowsGiven touches w zs) a before after → Given (RowsGiven touches w (strokes_turned_round which 0 zs)) b before after'
    → BatchTurnedRound which a after b after'
given_turned {touches} which {a = a} {b} {before} g h =
    let e = rows_turned touches which g.gives h.gives in
    let room = length before in
    let same : b ≡ a = h.answer ∙ ap (λ (xs : List ℤ). answered xs room) e ∙ answered_turned which g.numbers room ∙ sym g.answer in record {
      number = ap (λ (x : Answer). x.number) same;
      place = λ _. ap (λ (x : Answer). x.place) same;
      count = ap (λ (x : Answer). x.count) same;
      rows =
          h.output ∙ ap (λ (xs : List ℤ). written xs before) e ∙ written_turned which g.numbers before
          ∙ (λ i. rows_turned_round which (take (sym g.answer i).count (sym g.output i)) ++ drop (sym g.answer i).count (sym g.output i));
    }

-- ---- the call
pub turned_round_in_rows : TurnedRoundInRows
unfolding rows_turned_round
turned_round_in_rows touches which w zs a b before after after' p q = go (eqb (batch_refusal w zs).number 0) refl
  where
    same : SameRefusal (batch_refusal w zs) (batch_refusal w (strokes_turned_round which 0 zs))
    same = batch_turned which zs w

    go : (z : Bool) → eqb (batch_refusal w zs).number 0 ≡ z → BatchTurnedRound which a after b after'
    go true t = let z = eqb-true (batch_refusal w zs).number 0 t in given_turned which (p.done z) (q.done (same.number ∙ z))
    go false t =
        let n = eqb-false (batch_refusal w zs).number 0 t in
        let x = p.refused n in
        let y = q.refused (λ z. n (sym same.number ∙ z)) in
        record {
          number = ap (λ (x : Answer). x.number) y.answer ∙ same.number ∙ sym (ap (λ (x : Answer). x.number) x.answer);
          place = λ k.
              ap (λ (x : Answer). x.place) y.answer
              ∙ same.place (λ e. k (ap (λ (x : Answer). x.number) x.answer ∙ e)) ∙ sym (ap (λ (x : Answer). x.place) x.answer);
          count = ap (λ (x : Answer). x.count) y.answer ∙ sym (ap (λ (x : Answer). x.count) x.answer);
          rows = y.untouched ∙ sym x.untouched
              ∙ ap (λ (n : ℕ). rows_turned_round which (take n after) ++ drop n after) (sym (ap (λ (x : Answer). x.count) x.answer));
        }
