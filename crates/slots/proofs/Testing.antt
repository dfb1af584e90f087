-- What the test of a slot tells of the slots from there on, which are that slot and those behind it, and what all tests tell of the whole table.
use mathlib.Core.Path.{◌≡◌, refl, sym, ap, ◌∙◌, subst}
use mathlib.Core.Bool.{Bool, true, false, ◌&&◌}
use mathlib.Core.List.{List, [], ◌∷◌}
use Prim.Native.Nat.{ℕ, ◌+◌, ◌*◌, ◌/◌, ◌%◌, ◌^◌, ◌≤◌, ◌<◌}
use native.Mathlib.Omega.{arith}
use borrow.Author.Tests.{eq-eqb, ne_eqb}
use lib.IntN.{ℤ, pos}
use lib.ListN.{length, drop_of_length-le}
use lib.Signed.{mag}
use mir.Syntax.{w32}
use mir.Val.{of_z}
use Rattle.std.specs.Bool.{⊤}
use Rattle.std.specs.Prelude.{Result, Ok, Err, is_err}
use Rattle.whole.proofs.Comparisons.{bits_eq, ff_tt, tt_ff}
use Rattle.grid.specs.Refusals.{window_refusal, tested}
use Rattle.grid.specs.declared.Refusal.{Refusal}
use Rattle.grid.specs.declared.Window.{Window}
use Rattle.grid.proofs.Tested.{was_fine, was_refused}
use Rattle.racks.specs.Members.{all}
use Rattle.racks.specs.Pairs.{Crowd}
use Rattle.racks.specs.Racks.{strips_on, Carries}
use Rattle.slots.specs.Slots.{Slot, slots_of, strips_in, no_two_share, slots_good, is_book}
use Rattle.slots.specs.Workers.{slot_in, slots_from, each_good, Gathered, OnRack}
use Rattle.slots.proofs.Places.{slots_more}
use Rattle.slots.proofs.Apart.{all_apart, not_apart}
use Rattle.slots.proofs.Good.{free_strips, free_good, bad_mark, used_strips, bad_strip, good_use, bad_later}

-- ---- a strip that is tested by itself
pub tests_fine : (r : Result ⊤ Refusal) (w : Window) → r ≡ tested (window_refusal w) → is_err r ≡ false → (window_refusal w).number ≡ 0
tests_fine (Ok u) w e f = was_fine (window_refusal w) e
tests_fine (Err q) w e f = absurd (tt_ff f)

pub tests_bad : (r : Result ⊤ Refusal) (w : Window) → r ≡ tested (window_refusal w) → is_err r ≡ true → (window_refusal w).number ≡ 0 → ⊥
tests_bad (Ok u) w e f = absurd (ff_tt f)
tests_bad (Err q) w e f = (was_refused (window_refusal w) e).1

-- ---- the slot whose mark stands at the place p
module _ (zs : List ℤ) (p : ℕ) (h : p + 5 ≤ length zs) where
  abbrev here : Slot
  here = slot_in zs p

  abbrev behind : List Slot
  behind = slots_from (p + 5) zs

  more : slots_from p zs ≡ here ∷ behind
  more = slots_more zs p h

  -- ---- its mark
  pub mark_is : mag here.mark < 2 ^ 31 → (n : ℕ) → n < 2 ^ 31 → of_z w32 here.mark ≡ n → here.mark ≡ pos n
  mark_is f n l e = bits_eq w32 {x = here.mark} {y = pos n} (record { sfits = f }) (record { sfits = l }) e

  pub fails_mark : (of_z w32 here.mark ≡ 0 → ⊥) → (of_z w32 here.mark ≡ 1 → ⊥) → each_good (slots_from p zs) ≡ false
  fails_mark f g = ap each_good more ∙ bad_mark here behind (λ e. f (ap (of_z w32) e)) (λ e. g (ap (of_z w32) e))

  pub passes_free : {n : ℕ} {rack : List ℤ} → here.mark ≡ pos 0 → Gathered behind n rack → Gathered (slots_from p zs) n rack
  passes_free {n} {rack} m r =
      let same = ap strips_in more ∙ free_strips here behind m in
      record {
        good = ap each_good more ∙ free_good here behind m ∙ r.good;
        count = r.count ∙ ap length (sym same);
        holds = subst (Carries rack) (sym same) r.holds;
      }

  -- ---- its strip
  module _ {w : Window} (e : w ≡ here.strip) where
    pub fails_strip : (of_z w32 here.mark ≡ 0 → ⊥) → ((window_refusal w).number ≡ 0 → ⊥) → each_good (slots_from p zs) ≡ false
    fails_strip f g =
        ap each_good more
        ∙ bad_strip here behind (λ m. f (ap (of_z w32) m)) (subst (λ (v : Window). (window_refusal v).number ≡ 0 → ⊥) e g)

    pub passes_used : {n : ℕ} {rack rack' : List ℤ} → here.mark ≡ pos 1 → (window_refusal w).number ≡ 0 → Gathered behind n rack
        → Carries rack' (w ∷ strips_in behind) → Gathered (slots_from p zs) (n + 1) rack'
    passes_used {n} {rack} {rack'} m f r put =
        let same : strips_in (slots_from p zs) ≡ w ∷ strips_in behind =
        ap strips_in more ∙ used_strips here behind m ∙ ap (λ (v : Window). v ∷ strips_in behind) (sym e) in
        record {
          good = ap each_good more ∙ good_use here behind m (subst (λ (v : Window). (window_refusal v).number ≡ 0) e f) r.good;
          count = omega (arith, r.count, ap length same);
          holds = subst (Carries rack') (sym same) put;
        }

-- ---- all slots of a table
module _ (zs : List ℤ) (h : length zs ≡ 320) where
  -- behind the last slot there is none
  pub starts : {rack : List ℤ} → Carries rack [] → Gathered (slots_from 320 zs) 0 rack
  unfolding strips_in all slots_of
  starts {rack} r =
      let none : slots_from 320 zs ≡ [] = ap slots_of (drop_of_length-le zs {i = 320} (omega arith)) in
      subst (λ (ss : List Slot). Gathered ss 0 rack) (sym none) (record { good = refl; count = refl; holds = r })

  pub fails : (p : ℕ) → p % 5 ≡ 0 → each_good (slots_from p zs) ≡ false → each_good (slots_of zs) ≡ false
  fails p e f =
      let fives : p ≡ 5 * (p / 5) = omega arith in
      bad_later zs (p / 5) (subst (λ (q : ℕ). each_good (slots_from q zs) ≡ false) fives f)

-- ---- whether a table is a book
module _ (zs : List ℤ) where
  pub too_long : (length zs ≡ 320 → ⊥) → is_book zs ≡ false
  unfolding is_book
  too_long h = ap (λ (b : Bool). b && slots_good (slots_of zs)) (ne_eqb (length zs) 320 h)

  module _ (h : length zs ≡ 320) where
    book_by_slots : is_book zs ≡ slots_good (slots_of zs)
    unfolding is_book
    book_by_slots = ap (λ (b : Bool). b && slots_good (slots_of zs)) (eq-eqb (length zs) 320 h)

    pub not_each : each_good (slots_of zs) ≡ false → is_book zs ≡ false
    not_each f = book_by_slots ∙ ap (λ (b : Bool). b && no_two_share (strips_in (slots_of zs))) f

    module _ {n : ℕ} {rack : List ℤ} (g : Gathered (slots_of zs) n rack) where
      by_pairs : is_book zs ≡ no_two_share (strips_on rack n)
      by_pairs =
          book_by_slots ∙ ap (λ (b : Bool). b && no_two_share (strips_in (slots_of zs))) g.good
          ∙ ap no_two_share (sym g.holds.are ∙ ap (strips_on rack) (sym g.count))

      pub crowded_book : Crowd rack n true → is_book zs ≡ false
      crowded_book c = by_pairs ∙ not_apart c

      pub good_book : Crowd rack n false → (is_book zs ≡ true) × OnRack (slots_of zs) n rack
      good_book c =
          let book = by_pairs ∙ all_apart c in
          (book, record { good = sym book_by_slots ∙ book; count = g.count; holds = g.holds })
