-- What a call refuses, one test after the other, and what the call is then: refused, without room, or done with its rows.
use mathlib.Core.Path.{◌≡◌, sym, ap, ◌∙◌, subst}
use mathlib.Core.Bool.{Bool}
use mathlib.Core.List.{List, [], ◌∷◌}
use mathlib.Core.Logic.{⊎_elim}
use Prim.Native.Nat.{ℕ, ◌*◌, ◌/◌, ◌<◌, ◌≤◌}
use native.Mathlib.Omega.{arith}
use borrow.Author.Tests.{le-leb, lt-leb}
use lib.IntN.{ℤ, pos}
use lib.ListN.{length}
use Rattle.std.specs.Prelude.{⊤, Result, Ok, Err, is_err}
use Rattle.whole.proofs.Comparisons.{ff_tt}
use Rattle.whole.proofs.Order.{zarith, ≤_total}
use Rattle.grid.specs.declared.Refusal.{Refusal}
use Rattle.grid.specs.declared.Window.{Window}
use Rattle.grid.specs.Calls.{refused_by, answered_by}
use Rattle.grid.specs.Refusals.{refuse, no_room, first, tested, window_refusal, strokes_refusal, room_refusal}
use Rattle.grid.specs.Table.{WindowOnTable, StrokesOnTable}
use Rattle.grid.proofs.Calls.{lent_refused, lent_done, given_short}
use Rattle.grid.proofs.Refusals.{done_or_refused, stops, goes_on, all_done, window_on_table, strokes_on_table}
use Rattle.grid.proofs.Tested.{says_fine, was_fine, was_refused}
use Rattle.batch.specs.Batches.{RowsGiven, batch_refusal, RowsCall, WroteRows, RefusesRows}
use Rattle.batch.proofs.Rows.{computed_rows, rows_of_short}

-- ---- where nothing is refused all is on the table
pub on_table_lem : (w : Window) (zs : List ℤ) → (batch_refusal w zs).number ≡ 0 → WindowOnTable w × StrokesOnTable zs
unfolding batch_refusal
on_table_lem w zs z =
    let p = all_done (window_refusal w) (strokes_refusal zs ∷ []) z in
    (window_on_table w p.0, strokes_on_table zs (all_done (strokes_refusal zs) [] p.1).0)

pub nothing_refused : (w : Window) (zs : List ℤ) → (window_refusal w).number ≡ 0 → (strokes_refusal zs).number ≡ 0 → (batch_refusal w zs).number ≡ 0
unfolding batch_refusal first
nothing_refused w zs z y = ap (λ (r : Refusal). r.number) (goes_on (window_refusal w) (strokes_refusal zs ∷ []) z ∙ goes_on (strokes_refusal zs) [] y)

pub both_fine : {u v : ⊤} (w : Window) (zs : List ℤ) → Ok u ≡ tested (window_refusal w) → Ok v ≡ tested (strokes_refusal zs)
    → (batch_refusal w zs).number ≡ 0
both_fine w zs fine right = nothing_refused w zs (was_fine (window_refusal w) fine) (was_fine (strokes_refusal zs) right)

-- ---- the tests in their order
module _ {touches : Bool} {w : Window} {zs : List ℤ} {room : ℕ} where
  pub window_refuses : {r : Refusal} → Err r ≡ tested (window_refusal w) → RefusesRows touches w zs room (Err r)
  unfolding batch_refusal
  window_refuses e =
      let known = was_refused (window_refusal w) e in record {
        refused = λ _. ap Err (known.0 ∙ sym (stops (window_refusal w) (strokes_refusal zs ∷ []) known.1));
        done = λ z. absurd (known.1 (all_done (window_refusal w) (strokes_refusal zs ∷ []) z).0);
      }

  module _ {u : ⊤} (fine : Ok u ≡ tested (window_refusal w)) where
    pub strokes_refuse : {r : Refusal} → Err r ≡ tested (strokes_refusal zs) → RefusesRows touches w zs room (Err r)
    unfolding batch_refusal
    strokes_refuse e =
        let known = was_refused (strokes_refusal zs) e in
        let z = was_fine (window_refusal w) fine in record {
          refused = λ _. ap Err (known.0 ∙ sym (goes_on (window_refusal w) (strokes_refusal zs ∷ []) z ∙ stops (strokes_refusal zs) [] known.1));
          done = λ y. absurd (known.1 (all_done (strokes_refusal zs) [] (all_done (window_refusal w) (strokes_refusal zs ∷ []) y).1).0);
        }

    module _ {v : ⊤} (right : Ok v ≡ tested (strokes_refusal zs)) where
      pub room_for_all : length zs / 4 * 5 ≤ room → RefusesRows touches w zs room (Ok tt)
      unfolding room_refusal
      room_for_all h = record {
        refused = λ n. absurd (n (both_fine w zs fine right));
        done = λ _ xs r. let fits : length xs ≤ room = omega (arith, rows_of_short r) in says_fine (room_refusal (length xs) room) (simp (le-leb _ _ fits));
      }

      pub room_counted : {r : Result ⊤ Refusal} {n : ℕ} → r ≡ tested (room_refusal n room)
          → ((xs : List ℤ) → RowsGiven touches w zs xs → n ≡ length xs) → RefusesRows touches w zs room r
      room_counted e counted = record {
        refused = λ n. absurd (n (both_fine w zs fine right));
        done = λ _ xs r. e ∙ ap (λ (n : ℕ). tested (room_refusal n room)) (counted xs r);
      }

-- ---- what the call is then
-- the rows have no room, and 8 says how many numbers they have
short : {r : Refusal} (before xs : List ℤ) → Err r ≡ tested (room_refusal (length xs) (length before))
    → (length before < length xs) × (r ≡ refuse no_room (length xs))
unfolding room_refusal
short before xs e =
    let known = was_refused (room_refusal (length xs) (length before)) e in
    ⊎_elim
    (λ h. let enough : length xs ≤ length before = omega zarith in absurd (known.1 (simp (le-leb _ _ enough))))
    (λ h. let more : length before < length xs = omega zarith in (more, known.0 ∙ simp (lt-leb _ _ more)))
    (≤_total (pos (length xs)) (pos (length before)))

module _ {touches : Bool} {w : Window} {zs : List ℤ} (before : List ℤ) where
  pub call_refused : {r : Refusal} → RefusesRows touches w zs (length before) (Err r) → RowsCall touches w zs (refused_by r) before before
  call_refused {r} t =
      done_or_refused (batch_refusal w zs)
      (λ z.
      let on = on_table_lem w zs z in
      let g = computed_rows touches on.0 on.1 in
      let s = short before _ (t.done z _ g) in
      subst (λ (q : Refusal). RowsCall touches w zs (refused_by q) before before) (sym s.1) (lent_done z (given_short _ g s.0)))
      (λ m. let is : r ≡ batch_refusal w zs = let e = t.refused m in cc in lent_refused (sym is) (λ z. m (ap (λ (q : Refusal). q.number) (sym is) ∙ z)))

  -- nothing is refused, so all is on the table and the rows have room
  module _ {u : ⊤} (t : RefusesRows touches w zs (length before) (Ok u)) where
    nothing_left : (batch_refusal w zs).number ≡ 0
    nothing_left = done_or_refused (batch_refusal w zs) (λ z. z) (λ m. absurd (ff_tt (ap is_err (t.refused m))))

    pub fits : (xs : List ℤ) → RowsGiven touches w zs xs → length xs ≤ length before
    unfolding room_refusal
    fits xs g =
        ⊎_elim (λ h. omega zarith)
        (λ h.
        let more : length before < length xs = omega zarith in
        let eight : room_refusal (length xs) (length before) ≡ refuse no_room (length xs) = simp (lt-leb _ _ more) in
        let fine = was_fine (room_refusal (length xs) (length before)) (t.done nothing_left xs g) in
        absurd (omega (arith, sym (ap (λ (q : Refusal). q.number) eight) ∙ fine)))
        (≤_total (pos (length xs)) (pos (length before)))

    pub call_on : WindowOnTable w × StrokesOnTable zs
    call_on = on_table_lem w zs nothing_left

    pub call_done : {n : ℕ} {after : List ℤ} → WroteRows touches w zs n before after
        → RowsCall touches w zs (record { number = 0; place = 0; count = n }) before after
    unfolding answered_by room_refusal
    call_done g =
        let enough = fits g.numbers g.gives in
        lent_done nothing_left
        (record { numbers = g.numbers; gives = g.gives; answer = rw g.count (sym (simp (le-leb _ _ enough))); output = g.output })
