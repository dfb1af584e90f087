-- A strip that is put on a rack stands at its place and the others are as they were; a rack of vacant places holds none, and shares area with none.
use mathlib.Core.Path.{◌≡◌, refl, sym, ap, ◌∙◌, subst}
use mathlib.Core.Logic.{◌≢◌, ⊎_elim}
use mathlib.Core.Bool.{Bool, true, false, ◌&&◌, ◌||◌}
use mathlib.Core.List.{List, [], ◌∷◌}
use Prim.Native.Nat.{ℕ, zero, suc, ◌+◌, ◌<◌, ◌≤◌}
use native.Mathlib.Nat.{eq-or-lt_of_le}
use native.Mathlib.Numerals.{add-one}
use native.Mathlib.Omega.{arith}
use borrow.Author.Count.{below_more}
use borrow.Author.Tests.{ltb-true, ltb-false}
use lib.Dec.{ltb}
use lib.IntN.{ℤ, pos}
use lib.ListN.{length, get_or, set, replicate, length-set, length-replicate, get_or-replicate}
use lib.Seq.{get_or-set_same, get_or-set_other}
use lib.Signed.{lt_z}
use mir.Syntax.{w16, w32}
use mir.Val.{SFits, to_z, of_z}
use Rattle.whole.specs.Within.{Within}
use Rattle.whole.proofs.Comparisons.{same_test}
use Rattle.whole.proofs.Order.{zarith}
use Rattle.whole.proofs.Machine.{Code, par, cast, need, value}
use Rattle.whole.proofs.Ranges.{within_up}
use Rattle.grid.specs.Table.{farthest, WindowOnTable}
use Rattle.grid.specs.declared.Window.{Window}
use Rattle.racks.specs.Areas.{shares_area}
use Rattle.racks.specs.Members.{any}
use Rattle.racks.specs.Racks.{strip_at, vacant, put_on, strips_on, Carries}
use Rattle.racks.proofs.Common.{Comparable}

-- ---- a number of a strip on the table, made sixteen bits long, is that number
abbrev short : Code
short = cast w16 (par w32 0)

pub short_fits : {z : ℤ} → Within farthest z → SFits w16 (to_z w32 (of_z w32 z))
short_fits {z} h = need (farthest ∷ []) (z ∷ []) (h, tt) short tt

short_is : {z : ℤ} → Within farthest z → to_z w16 (of_z w16 (to_z w32 (of_z w32 z))) ≡ z
short_is {z} h = value (farthest ∷ []) (z ∷ []) (h, tt) short tt

abbrev pub held : (l b r t : ℕ) → Window
held l b r t = record { left = to_z w16 l; bottom = to_z w16 b; right = to_z w16 r; top = to_z w16 t }

abbrev pub reading : Window → Window
reading w = held
    (of_z w16 (to_z w32 (of_z w32 w.left)))
    (of_z w16 (to_z w32 (of_z w32 w.bottom)))
    (of_z w16 (to_z w32 (of_z w32 w.right)))
    (of_z w16 (to_z w32 (of_z w32 w.top)))

pub is_reading : {w : Window} → WindowOnTable w → reading w ≡ w
is_reading h = λ i. record { left = short_is h.left i; bottom = short_is h.bottom i; right = short_is h.right i; top = short_is h.top i }

-- ---- two racks that have the same strips at the first n places
same_strips : (rack rack' : List ℤ) (n : ℕ) → ((j : ℕ) → j < n → strip_at rack' j ≡ strip_at rack j) → strips_on rack' n ≡ strips_on rack n
unfolding strips_on
same_strips rack rack' zero h = refl
same_strips rack rack' (suc n) h = λ i. h n (omega arith) i ∷ same_strips rack rack' n (λ j l. h j (omega arith)) i

-- ---- a strip put at a place
module _ (rack : List ℤ) (n : ℕ) (w : Window) where
  -- after each of the first three stores
  abbrev one : List ℤ
  one = set rack n w.left

  abbrev two : List ℤ
  two = set one (72 + n) w.bottom

  abbrev three : List ℤ
  three = set two (144 + n) w.right

  elsewhere : (k : ℕ) → k ≢ n → k ≢ (72 + n) → k ≢ (144 + n) → k ≢ (216 + n) → get_or (put_on rack n w) k (pos 0) ≡ get_or rack k (pos 0)
  elsewhere k p q r s =
      get_or-set_other three (216 + n) k w.top (pos 0) s ∙ get_or-set_other two (144 + n) k w.right (pos 0) r
      ∙ get_or-set_other one (72 + n) k w.bottom (pos 0) q ∙ get_or-set_other rack n k w.left (pos 0) p

  others : n < 64 → (j : ℕ) → j < 72 → j ≢ n → strip_at (put_on rack n w) j ≡ strip_at rack j
  others h j l d = λ i. record {
    left = elsewhere j d (λ e. omega arith) (λ e. omega arith) (λ e. omega arith) i;
    bottom = elsewhere (72 + j) (λ e. omega arith) (λ e. d (omega arith)) (λ e. omega arith) (λ e. omega arith) i;
    right = elsewhere (144 + j) (λ e. omega arith) (λ e. omega arith) (λ e. d (omega arith)) (λ e. omega arith) i;
    top = elsewhere (216 + j) (λ e. omega arith) (λ e. omega arith) (λ e. omega arith) (λ e. d (omega arith)) i;
  }

  here : n < 64 → length rack ≡ 288 → strip_at (put_on rack n w) n ≡ w
  here h e = λ i. record {
    left =
        (get_or-set_other three (216 + n) n w.top (pos 0) (λ e. omega arith) ∙ get_or-set_other two (144 + n) n w.right (pos 0) (λ e. omega arith)
        ∙ get_or-set_other one (72 + n) n w.bottom (pos 0) (λ e. omega arith) ∙ get_or-set_same rack n w.left (pos 0) (omega arith)) i;
    bottom =
        (get_or-set_other three (216 + n) (72 + n) w.top (pos 0) (λ e. omega arith)
        ∙ get_or-set_other two (144 + n) (72 + n) w.right (pos 0) (λ e. omega arith)
        ∙ get_or-set_same one (72 + n) w.bottom (pos 0) (simp length-set (omega arith))) i;
    right =
        (get_or-set_other three (216 + n) (144 + n) w.top (pos 0) (λ e. omega arith)
        ∙ get_or-set_same two (144 + n) w.right (pos 0) (simp length-set (omega arith))) i;
    top = get_or-set_same three (216 + n) w.top (pos 0) (simp length-set (omega arith)) i;
  }

  before : n < 64 → strips_on (put_on rack n w) n ≡ strips_on rack n
  before h = same_strips rack (put_on rack n w) n (λ j l. others h j (omega arith) (λ e. omega arith))

one_put : {rack : List ℤ} {w : Window} {ws : List Window} → length ws < 64 → WindowOnTable w → Carries rack ws
    → Carries (put_on rack (length ws) w) (w ∷ ws)
unfolding strips_on
one_put {rack} {w} {ws} h on hold = record {
  long = simp length-set hold.long;
  few = omega arith;
  are = λ i. here rack (length ws) w h hold.long i ∷ (before rack (length ws) w h ∙ hold.are) i;
  on = λ j l. below_more (λ (j : ℕ). WindowOnTable (strip_at (put_on rack (length ws) w) j)) (length ws)
      (λ j l. subst WindowOnTable (sym (others rack (length ws) w h j (omega arith) (λ e. omega arith))) (hold.on j l))
      (subst WindowOnTable (sym (here rack (length ws) w h hold.long)) on) j (omega arith);
  rest = λ j l m. others rack (length ws) w h j m (λ e. omega arith) ∙ hold.rest j (omega arith) m;
}

pub put_holds : {rack : List ℤ} {n : ℕ} {w : Window} {ws : List Window} → n < 64 → WindowOnTable w → n ≡ length ws → Carries rack ws
    → Carries (put_on rack n (reading w)) (w ∷ ws)
put_holds {rack} {n} {w} {ws} h on e hold =
    subst (λ (u : Window). Carries (put_on rack n u) (w ∷ ws)) (sym (is_reading on))
    (subst (λ (k : ℕ). Carries (put_on rack k w) (w ∷ ws)) (sym e) (one_put (omega arith) on hold))

-- ---- a rack of vacant places
pub vacant_holds : Carries (replicate 288 (pos 16384)) []
unfolding strips_on
vacant_holds = record {
  long = length-replicate 288 (pos 16384);
  few = omega arith;
  are = refl;
  on = λ j l. absurd (omega arith);
  rest = λ j l m i. record {
    left = get_or-replicate 288 j (pos 16384) (pos 0) (omega arith) i;
    bottom = get_or-replicate 288 (72 + j) (pos 16384) (pos 0) (omega arith) i;
    right = get_or-replicate 288 (144 + j) (pos 16384) (pos 0) (omega arith) i;
    top = get_or-replicate 288 (216 + j) (pos 16384) (pos 0) (omega arith) i;
  };
}

-- ---- what stands at a place, for a strip v on the table
module _ {v : Window} (on : WindowOnTable v) where
  vacant_place : Comparable v vacant
  vacant_place = record {
    left = record { low = omega zarith; high = omega zarith };
    bottom = record { low = omega zarith; high = omega zarith };
    right = record { low = omega zarith; high = omega zarith };
    top = record { low = omega zarith; high = omega zarith };
    wide = λ l. absurd (omega (zarith, on.right.high));
    tall = λ l. absurd (omega (zarith, on.top.high));
  }

  strip_place : {s : Window} → WindowOnTable s → Comparable v s
  strip_place h = record {
    left = within_up (omega arith) h.left;
    bottom = within_up (omega arith) h.bottom;
    right = within_up (omega arith) h.right;
    top = within_up (omega arith) h.top;
    wide = λ _. h.wide;
    tall = λ _. h.tall;
  }

  pub place : {rack : List ℤ} {ws : List Window} → Carries rack ws → (j : ℕ) → j < 72 → Comparable v (strip_at rack j)
  place {rack} {ws} hold j h = go (ltb j (length ws)) refl
    where
      go : (t : Bool) → ltb j (length ws) ≡ t → Comparable v (strip_at rack j)
      go true e = strip_place (hold.on j (ltb-true j (length ws) e))
      go false e = subst (Comparable v) (sym (hold.rest j (ltb-false j (length ws) e) h)) vacant_place

  past : lt_z (pos 16384) v.right ≡ false
  past = same_test {a = pos 16384} {b = v.right} {c = pos 0} {d = pos 0} (λ l. absurd (omega (zarith, on.right.high))) (λ l. absurd (omega zarith))

  pub vacant_none : shares_area v vacant ≡ false
  unfolding shares_area
  vacant_none = go (lt_z v.left (pos 16384))
    where
      go : (t : Bool) → (t && lt_z (pos 16384) v.right && lt_z v.bottom (pos 16384) && lt_z (pos 16384) v.top) ≡ false
      go true = λ i. past i && lt_z v.bottom (pos 16384) && lt_z (pos 16384) v.top
      go false = refl

-- ---- the strips that were compared: one place more, and vacant places more
pub one_more : (P : Window → Bool) (rack : List ℤ) (j : ℕ) → any P (strips_on rack (j + 1)) ≡ (P (strip_at rack j) || any P (strips_on rack j))
unfolding any strips_on
one_more P rack j = ap (λ (k : ℕ). any P (strips_on rack k)) (add-one j)

module _ {rack : List ℤ} {ws : List Window} (hold : Carries rack ws) where
  just_those : (P : Window → Bool) (j : ℕ) → length ws ≡ j → any P (strips_on rack j) ≡ any P ws
  just_those P j e = ap (any P) (subst (λ (n : ℕ). strips_on rack n ≡ ws) e hold.are)

  pub none_more : {v : Window} → WindowOnTable v → (j : ℕ) → length ws ≤ j → j ≤ 64 → any (shares_area v) (strips_on rack j) ≡ any (shares_area v) ws
  unfolding any strips_on
  none_more {v} on zero h l = just_those (shares_area v) zero (omega arith)
  none_more {v} on (suc j) h l =
      ⊎_elim
      (just_those (shares_area v) (suc j))
      (λ m i. (ap (shares_area v) (hold.rest j (omega arith) (omega arith)) ∙ vacant_none on) i || none_more on j (omega arith) (omega arith) i)
      (eq-or-lt_of_le h)
