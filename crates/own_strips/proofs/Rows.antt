-- A listing that has come to the slot k goes on: a free slot gives nothing, one in use its row, for which there is room.
use mathlib.Core.Path.{◌≡◌, sym, ap, ◌∙◌, subst}
use mathlib.Core.List.{List, ◌++◌}
use Prim.Native.Nat.{ℕ, ◌+◌, ◌*◌, ◌^◌, ◌≤◌, ◌<◌}
use native.Mathlib.Omega.{arith}
use borrow.Author.Tests.{eq-eqb, ne_eqb}
use lib.Dec.{eqb}
use lib.IntN.{ℤ, pos}
use lib.ListN.{length, get_or}
use lib.Seq.{sets}
use lib.Signed.{mag}
use mir.Syntax.{w32}
use mir.Val.{of_z}
use Rattle.grid.specs.declared.Window.{Window}
use Rattle.grid.proofs.Fill.{Filled, filled_room, filled_put}
use Rattle.slots.specs.Slots.{slot_at, slot_of, slot_numbers, in_use}
use Rattle.slots.specs.Workers.{strip_in}
use Rattle.slots.proofs.Marks.{use_test}
use Rattle.own_strips.specs.Rows.{listed_on, Rows}
use Rattle.own_strips.proofs.Listed.{listed_used, listed_free}

module _ {from : ℕ} {zs : List ℤ} {p k n : ℕ} {lent out : List ℤ} (r : Rows from zs p k n lent out) where
  pub filled : Filled (listed_on from zs 0) (listed_on from zs k) out lent n
  filled = record { front = r.front; tail = r.tail; same = r.same; fits = r.fits }

  -- it has come further
  on : {k' n' : ℕ} {out' : List ℤ} (p' : ℕ) → p' ≡ 5 * (from + k') → Filled (listed_on from zs 0) (listed_on from zs k') out' lent n'
      → Rows from zs p' k' n' lent out'
  on p' e f = record { low = r.low; place = e; room = r.room; front = f.front; tail = f.tail; same = f.same; fits = f.fits }

  module _ (long : length zs ≡ 320) (h : k < 32) (fits : mag (get_or zs p (pos 0)) < 2 ^ 31) where
    -- the mark at the place p is that of the slot k
    used : eqb (of_z w32 (get_or zs p (pos 0))) 1 ≡ in_use (slot_at zs (from + k))
    used =
        let here = subst (λ (q : ℕ). mag (get_or zs q (pos 0)) < 2 ^ 31) r.place fits in
        ap (λ (q : ℕ). eqb (of_z w32 (get_or zs q (pos 0))) 1) r.place ∙ use_test zs (from + k) long (omega (arith, r.low)) here

    pub row_free : (of_z w32 (get_or zs p (pos 0)) ≡ 1 → ⊥) → Rows from zs (p + 5) (k + 1) n lent out
    row_free f =
        let more = listed_free from zs k r.low long h (sym used ∙ ne_eqb _ _ f) in
        on (p + 5) (omega (arith, r.place)) (rw more at filled)

    module _ (u : of_z w32 (get_or zs p (pos 0)) ≡ 1) {w : Window} (e : w ≡ strip_in zs p) where
      due : Filled (listed_on from zs 0) (slot_numbers (slot_of k w) ++ listed_on from zs (k + 1)) out lent n
      due =
          let more = listed_used from zs k r.low long h (sym used ∙ eq-eqb _ _ u) (e ∙ ap (strip_in zs) r.place) in
          rw more at filled

      pub row_room : n + 5 ≤ length out
      row_room = omega (arith, filled_room due, r.same, r.room)

      pub row_used : Rows from zs (p + 5) (k + 1) (n + 5) lent (sets out n (slot_numbers (slot_of k w)))
      row_used = on (p + 5) (omega (arith, r.place)) (filled_put (slot_numbers (slot_of k w)) due r.room)
