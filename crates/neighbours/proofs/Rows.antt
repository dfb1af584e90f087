-- Many strokes: a row stands for a stroke that is given, and so do the numbers that it takes; both go over from the two windows to the joined one.
use mathlib.Core.Path.{◌≡◌, refl, sym, ap, ◌∙◌, subst}
use mathlib.Core.Bool.{Bool, true, false}
use mathlib.Core.List.{List, [], ◌∷◌}
use mathlib.Core.Logic.{inl, inr, ⊎_elim}
use Prim.Native.Nat.{ℕ, suc, ◌+◌, ◌≤◌}
use native.Mathlib.Omega.{arith}
use borrow.Author.Tests.{le-leb}
use lib.IntN.{ℤ}
use lib.ListN.{length, length-append}
use lib.Signed.{◌<ℤ◌}
use Rattle.whole.specs.Choice.{when◌then◌else◌}
use Rattle.grid.specs.declared.Answer.{Answer}
use Rattle.grid.specs.declared.Refusal.{Refusal}
use Rattle.grid.specs.declared.Stroke.{Stroke}
use Rattle.grid.specs.declared.Window.{Window}
use Rattle.grid.specs.Calls.{Given, answered_by, gives_all}
use Rattle.grid.specs.Refusals.{first, window_refusal, strokes_refusal, room_refusal}
use Rattle.grid.proofs.Refusals.{goes_on}
use Rattle.rings.specs.Lists.{Each}
use Rattle.rings.specs.Lists as lists
use Rattle.strokes.specs.Strokes.{Clipped}
use Rattle.strokes.specs.declared.StrokeAnswer.{StrokeAnswer}
use Rattle.cuts.specs.Cuts.{is_given}
use Rattle.batch.specs.Batches.{five_of, row, rows, RowsGiven, RowsCall, batch_refusal}
use Rattle.batch.specs.Laws.{HasRow, RowExactly}
use Rattle.batch.proofs.Laws.{Done, done, row_exactly}
use Rattle.batch.proofs.Rows.{computed_rows}
use Rattle.neighbours.specs.Laws.{joined, RowOfOne, ListRefusedAlike, RoomForBoth}
use Rattle.neighbours.proofs.Given.{clipped_given, given_by_one}
use Rattle.neighbours.proofs.Windows.{beside, right_is, wide_left, wide_right, joined_not_refused}

-- ---- the row of a stroke
has_given : {P : Type 0} {xs : List ℤ} {k : ℕ} {a : StrokeAnswer} → RowExactly P xs k a → HasRow xs k a → P
has_given r h = r.only h.at (omega (arith, h.is.within)) h.is.index

pub row_of_one : RowOfOne
row_of_one touches w v zs a b c before after before' after' before'' after'' p q j x y z k l d e f t =
    let left = row_exactly (done p x) k l t.left in
    let right = row_exactly (done q y) k l t.right in
    let both = row_exactly (done j z) k l t.together in
    let given = given_by_one touches w v _ d e f t in (
      λ h. ⊎_elim (λ g. inl (left.has g)) (λ g. inr (right.has g)) (given.0 (has_given both h)),
      λ h. both.has (given.1 (⊎_elim (λ g. inl (has_given left g)) (λ g. inr (has_given right g)) h)),
    )

-- ---- how many numbers the rows are
module _ (touches : Bool) (w : Window) (r : ℤ) (wide : w.left <ℤ w.right) (wide' : w.right <ℤ r) where
  row_length : (k : ℕ) (a : StrokeAnswer) → is_given touches a ≡ true → length (row touches k a) ≡ 5
  row_length k a e = ap (λ (b : Bool). length (when b then five_of k a else [])) e

  row_at_most : (k : ℕ) {s : Stroke} {a b c : StrokeAnswer} → Clipped w s a → Clipped (beside w r) s b → Clipped (joined w (beside w r)) s c
      → length (row touches k c) ≤ length (row touches k a) + length (row touches k b)
  row_at_most k {a = a} {b} {c} p q j = go (is_given touches c) refl
    where
      go : (g : Bool) → is_given touches c ≡ g → length (when g then five_of k c else []) ≤ length (row touches k a) + length (row touches k b)
      go false e = omega arith
      go true e = ⊎_elim (λ h. omega (arith, row_length k a h)) (λ h. omega (arith, row_length k b h)) ((clipped_given w r wide wide' p q j touches).0 e)

  rows_at_most : (k : ℕ) {ss : List Stroke} {ones others boths : List StrokeAnswer}
      → Each (Clipped w) ss ones → Each (Clipped (beside w r)) ss others → Each (Clipped (joined w (beside w r))) ss boths
      → length (rows touches k boths) ≤ length (rows touches k ones) + length (rows touches k others)
  unfolding rows
  rows_at_most k lists.none lists.none lists.none = omega arith
  rows_at_most k (lists.◌and◌ {y = a} {ys = ones} p ps) (lists.◌and◌ {y = b} {ys = others} q qs) (lists.◌and◌ {y = c} {ys = boths} j js) =
      omega (
        arith,
        length-append (row touches k a) (rows touches (suc k) ones),
        length-append (row touches k b) (rows touches (suc k) others),
        length-append (row touches k c) (rows touches (suc k) boths),
        row_at_most k p q j,
        rows_at_most (suc k) ps qs js,
      )

  given_at_most : {zs xs ys us : List ℤ} → RowsGiven touches w zs xs → RowsGiven touches (beside w r) zs ys
      → RowsGiven touches (joined w (beside w r)) zs us → length us ≤ length xs + length ys
  given_at_most p q j = omega (arith, ap length p.are, ap length q.are, ap length j.are, rows_at_most 0 p.clipped q.clipped j.clipped)

-- ---- in windows that are not refused a list is refused alike
list_refused : (w : Window) (zs : List ℤ) → (window_refusal w).number ≡ 0 → batch_refusal w zs ≡ first (strokes_refusal zs ∷ [])
unfolding batch_refusal
list_refused w zs z = goes_on (window_refusal w) (strokes_refusal zs ∷ []) z

pub list_refused_alike : ListRefusedAlike
list_refused_alike w v zs n =
    let together = list_refused (joined w v) zs (joined_not_refused w v n) in
    (together ∙ sym (list_refused w zs n.left), together ∙ sym (list_refused v zs n.right))

pub room_for_both : RoomForBoth
unfolding answered_by room_refusal
room_for_both touches w v zs a b c before after before' after' before'' after'' n p q j x y room =
    ap (λ (t : Answer). t.number) all
  where
    left : Done touches w zs a after
    left = done p x

    right : Done touches (beside w v.right) zs b after'
    right = done (subst (λ (u : Window). RowsCall touches u zs b before' after') (right_is n) q) y

    g : Given (RowsGiven touches (joined w v) zs) c before'' after''
    g = j.done (ap (λ (r : Refusal). r.number) (list_refused_alike w v zs n).0 ∙ left.nothing)

    fits : length g.numbers ≤ length before''
    fits = omega (
      arith,
      left.count,
      right.count,
      room,
      given_at_most touches w v.right (wide_left n) (wide_right n)
          (computed_rows touches left.on left.strokes) (computed_rows touches right.on right.strokes) g.gives,
    )

    all : c ≡ gives_all g.numbers
    all = g.answer ∙ simp (le-leb _ _ fits)
