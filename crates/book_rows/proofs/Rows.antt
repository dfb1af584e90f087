-- The lines of the slots from one on are its own line, if it is in use, and those of the slots behind it; so what is put and what is left to put are
-- all lines.
use mathlib.Core.Path.{◌≡◌, refl, sym, ap, ◌∙◌, subst}
use mathlib.Core.Bool.{true, false}
use mathlib.Core.List.{List, [], ◌∷◌, ◌++◌, append_assoc, append-nil}
use Prim.Native.Nat.{ℕ, suc, ◌+◌, ◌*◌, ◌<◌, ◌≤◌}
use native.Mathlib.Numerals.{add-one}
use native.Mathlib.Omega.{arith}
use lib.IntN.{ℤ}
use lib.ListN.{length}
use lib.Seq.{slice, slice-cons, slice_empty}
use Rattle.grid.specs.declared.Window.{Window}
use Rattle.slots.specs.Slots.{Slot, slots_of, slot_at, in_use, free_slot}
use Rattle.slots.specs.Workers.{strip_in}
use Rattle.slots.proofs.Places.{slots_count, slot_at_lem}
use Rattle.strip_lines.specs.Lines.{row_text}
use Rattle.text.specs.Pages.{Put}
use Rattle.text.proofs.Puts.{put_nothing, put_then}
use Rattle.book_rows.specs.Rows.{rows_text}

module _ (zs : List ℤ) (to : ℕ) where
  abbrev pub rows_on : ℕ → List ℕ
  rows_on k = rows_text k (slice k to (slots_of zs))

  module _ (k : ℕ) (h : k < to) (few : to ≤ 64) (long : length zs ≡ 320) where
    more : slice k to (slots_of zs) ≡ slot_at zs k ∷ slice (k + 1) to (slots_of zs)
    more = rw add-one (slice-cons k to (slots_of zs) free_slot h (omega (arith, slots_count zs)))

    pub row_used : {w : Window} → in_use (slot_at zs k) ≡ true → w ≡ strip_in zs (5 * k) → rows_on k ≡ row_text k w ++ rows_on (k + 1)
    unfolding rows_text
    row_used {w} u e =
        let next : suc k ≡ k + 1 = omega arith in
        let strip : (slot_at zs k).strip ≡ w = ap (λ (s : Slot). s.strip) (slot_at_lem k zs free_slot (omega arith)) ∙ sym e in
        rw (more, u, strip, next)

    pub row_free : in_use (slot_at zs k) ≡ false → rows_on k ≡ rows_on (k + 1)
    unfolding rows_text
    row_free u = let next : suc k ≡ k + 1 = omega arith in rw (more, u, next)

  -- of a loop that has put the lines of the slots before k
  pub record Putting (from k : ℕ) (before after : List ℕ) (at end : ℕ) : Type 0 where
    pub done : List ℕ
    pub put : Put before after at end done
    pub all : done ++ rows_on k ≡ rows_on from

  pub putting_start : (from : ℕ) (page : List ℕ) {at : ℕ} → at ≤ length page → Putting from from page page at at
  putting_start from page h = record { done = []; put = put_nothing page h; all = refl }

  module _ {from k : ℕ} {before after : List ℕ} {at end : ℕ} (p : Putting from k before after at end) where
    pub putting_on : {after' word : List ℕ} {end' : ℕ} → Put after after' end end' word → rows_on k ≡ word ++ rows_on (k + 1)
        → Putting from (k + 1) before after' at end'
    putting_on {word = word} q e =
        record {
          done = p.done ++ word;
          put = put_then p.put q;
          all = append_assoc p.done word (rows_on (k + 1)) ∙ ap (λ (x : List ℕ). p.done ++ x) (sym e) ∙ p.all;
        }

    pub putting_over : rows_on k ≡ rows_on (k + 1) → Putting from (k + 1) before after at end
    putting_over e = record { done = p.done; put = p.put; all = ap (λ (x : List ℕ). p.done ++ x) (sym e) ∙ p.all }

    pub putting_end : k ≡ to → Put before after at end (rows_on from)
    unfolding rows_text
    putting_end e =
        let none : rows_on k ≡ [] = rw e (ap (rows_text to) (slice_empty to (slots_of zs))) in
        subst (Put before after at end) (sym (append-nil p.done) ∙ ap (λ (x : List ℕ). p.done ++ x) (sym none) ∙ p.all) p.put
