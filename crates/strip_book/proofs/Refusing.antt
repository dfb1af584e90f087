-- What the calls refuse, by their tests in their order; and the lowest free slot of a half, which is one of 32 unless all are in use.
use mathlib.Core.Path.{◌≡◌, refl, sym, ap, ◌∙◌}
use mathlib.Core.Bool.{Bool, true, false, ◌&&◌}
use mathlib.Core.List.{List}
use mathlib.Core.Logic.{⊎_elim}
use Prim.Native.Nat.{◌<◌}
use native.Mathlib.Omega.{arith}
use borrow.Author.Tests.{eqb-true}
use lib.Dec.{eqb}
use lib.IntN.{ℤ, pos, negsuc, nat_abs}
use lib.ListN.{length, get_or-eq_default}
use lib.Signed.{◌≤ℤ◌, ◌<ℤ◌}
use Rattle.whole.specs.Choice.{when◌then◌else◌}
use Rattle.whole.proofs.Comparisons.{ff_tt}
use Rattle.whole.proofs.Order.{zarith, ≤_total}
use Rattle.grid.specs.Refusals.{first, none, refuse, window_refusal}
use Rattle.grid.specs.declared.Window.{Window}
use Rattle.grid.proofs.Refusals.{stops, goes_on}
use Rattle.racks.specs.Areas.{shares_area}
use Rattle.racks.specs.Members.{any, all}
use Rattle.slots.specs.Slots.{Slot, slots_of, strips_in, in_use, slots_good, is_book, lowest_free, free_slot}
use Rattle.slots.proofs.Lowest.{free_among, lowest_none}
use Rattle.strip_book.specs.Books.{unknown_renter, no_book, strip_taken, half_full, slot_not_in_use}
use Rattle.strip_book.specs.Books.{renter_refusal, table_refusal, clash, none_free, used_at, slot_refusal, booking_refusal, release_refusal}
use Rattle.strip_book.specs.Renters.{is_renter, half}

-- ---- a book
pub book_long : (zs : List ℤ) → is_book zs ≡ true → length zs ≡ 320
unfolding is_book
book_long zs = go (eqb (length zs) 320) refl
  where
    go : (b : Bool) → eqb (length zs) 320 ≡ b → b && slots_good (slots_of zs) ≡ true → length zs ≡ 320
    go true e f = eqb-true (length zs) 320 e
    go false e f = absurd (ff_tt f)

-- ---- the lowest free slot of 32: there is none exactly where all are in use
module _ (ss : List Slot) (h : length ss ≡ 32) where
  pub all_used : lowest_free ss ≡ 32 → all in_use ss ≡ true
  all_used e = go (all in_use ss) refl
    where
      go : (b : Bool) → all in_use ss ≡ b → all in_use ss ≡ true
      go true f = f
      go false f = absurd (omega (arith, free_among ss f))

  pub not_all_used : (lowest_free ss ≡ 32 → ⊥) → (all in_use ss ≡ false) × (lowest_free ss < 32)
  not_all_used n = go (all in_use ss) refl
    where
      go : (b : Bool) → all in_use ss ≡ b → (all in_use ss ≡ false) × (lowest_free ss < 32)
      go true f = absurd (n (lowest_none ss f ∙ h))
      go false f = (f, omega (arith, free_among ss f))

-- ---- what booking refuses
module _ (renter : ℤ) (w : Window) (zs : List ℤ) where
  pub refuses_renter : is_renter renter ≡ false → booking_refusal renter w zs ≡ refuse unknown_renter 0
  unfolding booking_refusal renter_refusal first
  refuses_renter e = rw e

  module _ (known : is_renter renter ≡ true) where
    pub refuses_table : is_book zs ≡ false → booking_refusal renter w zs ≡ refuse no_book 0
    unfolding booking_refusal renter_refusal table_refusal first
    refuses_table e = rw (known, e)

    module _ (b : is_book zs ≡ true) where
      pub refuses_window : ((window_refusal w).number ≡ 0 → ⊥) → booking_refusal renter w zs ≡ window_refusal w
      unfolding booking_refusal renter_refusal table_refusal
      refuses_window n =
          goes_on _ _ (ap (λ (b : Bool). (when b then none else refuse unknown_renter 0).number) known)
          ∙ goes_on _ _ (ap (λ (b : Bool). (when b then none else refuse no_book 0).number) b)
          ∙ stops _ _ n

      module _ (f : (window_refusal w).number ≡ 0) where
        pub refuses_full : all in_use (half renter zs) ≡ true → booking_refusal renter w zs ≡ refuse half_full 0
        unfolding booking_refusal renter_refusal table_refusal none_free first
        refuses_full e = rw (known, b, f, e)

        module _ (free : all in_use (half renter zs) ≡ false) where
          pub refuses_clash : any (shares_area w) (strips_in (slots_of zs)) ≡ true → booking_refusal renter w zs ≡ refuse strip_taken 0
          unfolding booking_refusal renter_refusal table_refusal none_free clash first
          refuses_clash e = rw (known, b, f, free, e)

          pub books : any (shares_area w) (strips_in (slots_of zs)) ≡ false → (booking_refusal renter w zs).number ≡ 0
          unfolding booking_refusal renter_refusal table_refusal none_free clash first
          books e = rw (known, b, f, free, e)

-- ---- what releasing refuses
module _ (renter z : ℤ) (zs : List ℤ) where
  pub refuses_releaser : is_renter renter ≡ false → release_refusal renter z zs ≡ refuse unknown_renter 0
  unfolding release_refusal renter_refusal first
  refuses_releaser e = rw e

  module _ (known : is_renter renter ≡ true) where
    pub refuses_release : is_book zs ≡ false → release_refusal renter z zs ≡ refuse no_book 0
    unfolding release_refusal renter_refusal table_refusal first
    refuses_release e = rw (known, e)

    module _ (b : is_book zs ≡ true) where
      pub refuses_slot : used_at (half renter zs) z ≡ false → release_refusal renter z zs ≡ refuse slot_not_in_use 0
      unfolding release_refusal renter_refusal table_refusal slot_refusal first
      refuses_slot e = rw (known, b, e)

      pub releases : used_at (half renter zs) z ≡ true → (release_refusal renter z zs).number ≡ 0
      unfolding release_refusal renter_refusal table_refusal slot_refusal first
      releases e = rw (known, b, e)

-- ---- the slot of a number
pub none_below : (ss : List Slot) (z : ℤ) → z <ℤ pos 0 → used_at ss z ≡ false
none_below ss (pos k) h = absurd (omega zarith)
none_below ss (negsuc k) h = refl

pub none_above : (ss : List Slot) (z : ℤ) → length ss ≡ 32 → pos 31 <ℤ z → used_at ss z ≡ false
none_above ss (pos k) h l = ap in_use (get_or-eq_default ss free_slot {n = k} (omega (zarith, l)))
none_above ss (negsuc k) h l = refl

pub small : (z : ℤ) → pos 0 ≤ℤ z → z ≤ℤ pos 31 → nat_abs z < 32
small (pos k) h l = omega zarith
small (negsuc k) h l = absurd (omega zarith)

pub used_there : (ss : List Slot) (z : ℤ) → length ss ≡ 32 → used_at ss z ≡ true → (pos 0 ≤ℤ z) × (nat_abs z < 32)
used_there ss z h e =
    ⊎_elim (λ l. ⊎_elim (λ m. (l, small z l m)) (λ m. absurd (ff_tt (sym (none_above ss z h m) ∙ e))) (≤_total z (pos 31)))
    (λ l. absurd (ff_tt (sym (none_below ss z l) ∙ e))) (≤_total (pos 0) z)
