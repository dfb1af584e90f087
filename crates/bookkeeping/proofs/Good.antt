-- That slots are good is told by their numbers, and where they are not, the slots at fault are found.
use mathlib.Core.Path.{◌≡◌, refl, sym, ap, ◌∙◌}
use mathlib.Core.Bool.{Bool, true, false, not, ◌&&◌, ◌||◌, not-eq-not, and-eq-true_iff}
use mathlib.Core.List.{List, [], ◌∷◌}
use Prim.Native.Nat.{ℕ, zero, suc, ◌<◌}
use native.Mathlib.Omega.{arith}
use borrow.Author.Tests.{not-true, not-false}
use lib.ListN.{length, get_or}
use Rattle.whole.specs.Choice.{when◌then◌else◌}
use Rattle.whole.proofs.Comparisons.{ff_tt, tt_ff}
use Rattle.grid.specs.declared.Window.{Window}
use Rattle.racks.specs.Areas.{shares_area}
use Rattle.racks.specs.Members.{any, all}
use Rattle.slots.specs.Slots.{Slot, in_use, strips_in, good_mark, good_strip, no_two_share, slots_good, free_slot}
use Rattle.bookkeeping.proofs.Tests.{all_at, not_all, any_is}

-- ---- tests of the strips, as tests of the slots
module _ (P : Window → Bool) where
  abbrev where_used : Slot → Bool
  where_used s = not (in_use s) || P s.strip

  strips_all : (ss : List Slot) → all P (strips_in ss) ≡ all where_used ss
  unfolding all strips_in
  strips_all [] = refl
  strips_all (s ∷ ss) = go (in_use s) (strips_all ss)
    where
      go : (b : Bool) → all P (strips_in ss) ≡ all where_used ss
          → all P (when b then s.strip ∷ strips_in ss else strips_in ss) ≡ ((not b || P s.strip) && all where_used ss)
      go true e = ap (λ (t : Bool). P s.strip && t) e
      go false e = e

  -- the strip of each slot in use passes the test, or that of one fails
  at_used : (ss : List Slot) → all P (strips_in ss) ≡ true → (k : ℕ) → in_use (get_or ss k free_slot) ≡ true → P (get_or ss k free_slot).strip ≡ true
  at_used ss e k u = rw u at (all_at where_used free_slot ss (sym (strips_all ss) ∙ e) refl k)

  one_fails : (ss : List Slot) → all P (strips_in ss) ≡ false
      → (k : ℕ) × (k < length ss) × (in_use (get_or ss k free_slot) ≡ true) × (P (get_or ss k free_slot).strip ≡ false)
  one_fails ss e =
      let k = not_all where_used free_slot ss (sym (strips_all ss) ∙ e) in
      let p = by (in_use (get_or ss k.0 free_slot)) (P (get_or ss k.0 free_slot).strip) k.2 in
      (k.0, k.1, p.0, p.1)
    where
      by : (a b : Bool) → (not a || b) ≡ false → (a ≡ true) × (b ≡ false)
      by true b e = (refl, e)
      by false b e = absurd (tt_ff e)

-- the strip of a slot in use passes the test, or that of none does
module _ (P : Window → Bool) where
  pub strip_of : (ss : List Slot) → any P (strips_in ss) ≡ true
      → (k : ℕ) × (k < length ss) × (in_use (get_or ss k free_slot) ≡ true) × (P (get_or ss k free_slot).strip ≡ true)
  strip_of ss e =
      let k = one_fails (λ w. not (P w)) ss (not-true _ (sym (any_is P (strips_in ss)) ∙ e)) in
      (k.0, k.1, k.2, not-false _ k.3)

  pub no_strip : (ss : List Slot) → any P (strips_in ss) ≡ false → (k : ℕ) → in_use (get_or ss k free_slot) ≡ true → P (get_or ss k free_slot).strip ≡ false
  no_strip ss e k u = not-true _ (at_used (λ w. not (P w)) ss (not-false _ (sym (any_is P (strips_in ss)) ∙ e)) k u)

-- ---- strips apart
apart_at : (ss : List Slot) → no_two_share (strips_in ss) ≡ true → (j k : ℕ) → j < k
    → in_use (get_or ss j free_slot) ≡ true → in_use (get_or ss k free_slot) ≡ true
    → shares_area (get_or ss j free_slot).strip (get_or ss k free_slot).strip ≡ false
unfolding no_two_share strips_in
apart_at [] e j k l u v = absurd (ff_tt u)
apart_at (s ∷ ss) e zero zero l u v = absurd (omega arith)
apart_at (s ∷ ss) e (suc j) zero l u v = absurd (omega arith)
apart_at (s ∷ ss) e zero (suc k) l u v =
    let first : (not (any (shares_area s.strip) (strips_in ss)) && no_two_share (strips_in ss)) ≡ true = rw u at e in
    let clear = ((and-eq-true_iff (not (any (shares_area s.strip) (strips_in ss))) (no_two_share (strips_in ss))).0 first).0 in
    no_strip (shares_area s.strip) ss (not-true _ clear) k v
apart_at (s ∷ ss) e (suc j) (suc k) l u v = apart_at ss (go (in_use s) e) j k (omega arith) u v
  where
    go : (b : Bool) → no_two_share (when b then s.strip ∷ strips_in ss else strips_in ss) ≡ true → no_two_share (strips_in ss) ≡ true
    go true e = ((and-eq-true_iff (not (any (shares_area s.strip) (strips_in ss))) (no_two_share (strips_in ss))).0 e).1
    go false e = e

pub record Sharing (ss : List Slot) : Type 0 where
  pub one : ℕ
  pub other : ℕ
  pub before : one < other
  pub among : other < length ss
  pub used_one : in_use (get_or ss one free_slot) ≡ true
  pub used_other : in_use (get_or ss other free_slot) ≡ true
  pub shares : shares_area (get_or ss one free_slot).strip (get_or ss other free_slot).strip ≡ true

not_apart : (ss : List Slot) → no_two_share (strips_in ss) ≡ false → Sharing ss
unfolding no_two_share strips_in
not_apart [] e = absurd (tt_ff e)
not_apart (s ∷ ss) e = go (in_use s) refl e (not_apart ss)
  where
    later : Sharing ss → Sharing (s ∷ ss)
    later h = record {
      one = suc h.one;
      other = suc h.other;
      before = omega arith;
      among = omega arith;
      used_one = h.used_one;
      used_other = h.used_other;
      shares = h.shares;
    }

    first : in_use s ≡ true → (b : Bool) → any (shares_area s.strip) (strips_in ss) ≡ b → (not b && no_two_share (strips_in ss)) ≡ false
        → (no_two_share (strips_in ss) ≡ false → Sharing ss) → Sharing (s ∷ ss)
    first u true p e f =
        let k = strip_of (shares_area s.strip) ss p in
        record { one = 0; other = suc k.0; before = omega arith; among = omega arith; used_one = u; used_other = k.2; shares = k.3 }
    first u false p e f = later (f e)

    go : (b : Bool) → in_use s ≡ b → no_two_share (when b then s.strip ∷ strips_in ss else strips_in ss) ≡ false
        → (no_two_share (strips_in ss) ≡ false → Sharing ss) → Sharing (s ∷ ss)
    go true u e f = first u (any (shares_area s.strip) (strips_in ss)) refl e f
    go false u e f = later (f e)

-- ---- good slots
pub record Good (ss : List Slot) : Type 0 where
  pub marks : (k : ℕ) → good_mark (get_or ss k free_slot) ≡ true
  pub strips : (k : ℕ) → in_use (get_or ss k free_slot) ≡ true → good_strip (get_or ss k free_slot).strip ≡ true
  pub areas : (j k : ℕ) → j < k → in_use (get_or ss j free_slot) ≡ true → in_use (get_or ss k free_slot) ≡ true
      → shares_area (get_or ss j free_slot).strip (get_or ss k free_slot).strip ≡ false

pub data Fault (ss : List Slot) : Type 0 where
  mark_fault : (k : ℕ) → k < length ss → good_mark (get_or ss k free_slot) ≡ false → Fault ss
  strip_fault : (k : ℕ) → k < length ss → in_use (get_or ss k free_slot) ≡ true → good_strip (get_or ss k free_slot).strip ≡ false → Fault ss
  area_fault : Sharing ss → Fault ss

pub good_slots : (ss : List Slot) → slots_good ss ≡ true → Good ss
good_slots ss e =
    let p = (and-eq-true_iff (all good_mark ss && all good_strip (strips_in ss)) (no_two_share (strips_in ss))).0 e in
    let q = (and-eq-true_iff (all good_mark ss) (all good_strip (strips_in ss))).0 p.0 in
    record {
      marks = all_at good_mark free_slot ss q.0 refl;
      strips = at_used good_strip ss q.1;
      areas = apart_at ss p.1;
    }

pub faulty_slots : (ss : List Slot) → slots_good ss ≡ false → Fault ss
faulty_slots ss e = go (all good_mark ss) (all good_strip (strips_in ss)) refl refl e
  where
    go : (a b : Bool) → all good_mark ss ≡ a → all good_strip (strips_in ss) ≡ b → (a && b && no_two_share (strips_in ss)) ≡ false → Fault ss
    go true true p q e = area_fault (not_apart ss e)
    go true false p q e = let k = one_fails good_strip ss q in strip_fault k.0 k.1 k.2 k.3
    go false b p q e = let k = not_all good_mark free_slot ss p in mark_fault k.0 k.1 k.2

-- good slots have no fault
no_fault : {ss : List Slot} → Good ss → Fault ss → ⊥
no_fault g (mark_fault k l e) = tt_ff (sym (g.marks k) ∙ e)
no_fault g (strip_fault k l u e) = tt_ff (sym (g.strips k u) ∙ e)
no_fault g (area_fault h) = tt_ff (sym h.shares ∙ g.areas h.one h.other h.before h.used_one h.used_other)

pub slots_good_lem : (ss : List Slot) → Good ss → slots_good ss ≡ true
slots_good_lem ss g = not-eq-not.0 (λ e. no_fault g (faulty_slots ss e))
