-- The places on the way of one coordinate: what is measured up or down from a is exact, and is on the way between `at` and `to`;
-- so is what is between lo and hi, in each of the cases of `passage`.
use mathlib.Core.Path.{◌≡◌, sym, subst}
use mathlib.Core.List.{[], ◌∷◌}
use native.Mathlib.Omega.{arith}
use lib.IntN.{ℤ, pos, ◌-ℤ◌, ◌*ℤ◌}
use lib.Signed.{◌≤ℤ◌}
use Rattle.whole.proofs.Certificates.{ge, eq, eqn, eq_by, nn, le, ◌⊞◌, ◌⊹◌}
use Rattle.whole.proofs.Expressions.{Expr, var, con, ◌⊕◌, ◌⊖◌, ◌⊗◌, neg}
use Rattle.whole.proofs.Gaps.{gap_small}
use Rattle.whole.proofs.Order.{zarith, sub_is, <→≤}
use Rattle.whole.proofs.Polynomials.{ring}
use Rattle.fraction.specs.Rounding.{along}
use Rattle.strokes.specs.declared.ways.Way.{Way}
use Rattle.strokes.specs.Strokes.{KeepsCoordinate}
use Rattle.strokes.specs.Workers.{EndsBetween, Ranged, Risen, Fallen, WayAt, MetAt, rising, falling, WayOf, FromStartToEnd}
use Rattle.strokes.proofs.Coordinates.{all_between}

-- the way's two ends, its length, a place on it with its coordinate, and a fraction
abbrev A : Expr
A = var 0

abbrev B : Expr
B = var 1

abbrev L : Expr
L = var 2

abbrev S : Expr
S = var 3

abbrev P : Expr
P = var 4

abbrev N : Expr
N = var 5

abbrev D : Expr
D = var 6

abbrev one : Expr
one = con (pos 1)

-- along a b n d
abbrev X : Expr
X = A ⊗ D ⊕ N ⊗ (B ⊖ A)

refl-≤ : (z : ℤ) → z ≤ℤ z
refl-≤ z = omega zarith

-- ---- a place at s of the way, with the coordinate p
up_exact : (a b p q l s : ℤ) → l ≡ b -ℤ a → s ≡ p -ℤ a → q ≡ p → along a b s l ≡ q *ℤ l
up_exact a b p q l s el es eq' =
    eq_by (a ∷ b ∷ l ∷ s ∷ p ∷ q ∷ []) (A ⊗ L ⊕ S ⊗ (B ⊖ A)) (var 5 ⊗ L) (eqn L S (P ⊖ A) es ⊹ eqn (neg L) (var 5) P eq' ⊹ eqn (neg S) L (B ⊖ A) el) tt

down_exact : (a b p q l s : ℤ) → l ≡ a -ℤ b → s ≡ a -ℤ p → q ≡ p → along a b s l ≡ q *ℤ l
down_exact a b p q l s el es eq' =
    eq_by (a ∷ b ∷ l ∷ s ∷ p ∷ q ∷ []) (A ⊗ L ⊕ S ⊗ (B ⊖ A)) (var 5 ⊗ L) (eqn (neg L) S (A ⊖ P) es ⊹ eqn (neg L) (var 5) P eq' ⊹ eqn S L (A ⊖ B) el) tt

-- ---- up
module _ {a at to b : ℤ} {r : Way} (g : Ranged a at to b) (k : Risen a at to b r) where
  risen_at : WayAt a b r
  risen_at = record {
    proper = record {
      long = let h = g.some in omega (zarith, k.long, sub_is b a);
      small = gap_small g.a_on g.d_on k.long;
      order = let h = g.middle in omega (zarith, k.start, k.end, sub_is at a, sub_is to a);
      high = let h = g.last in omega (zarith, k.long, k.end, sub_is b a, sub_is to a);
    };
    at = up_exact a b at r.at (pos r.long) (pos r.start) k.long k.start k.at;
    to = up_exact a b to r.to (pos r.long) (pos r.end) k.long k.end k.to;
  }

  risen_on : (n d : ℤ) → KeepsCoordinate at to a b n d → FromStartToEnd r n d
  risen_on n d h =
      let l = pos r.long in record {
        from = ge (a ∷ b ∷ l ∷ (pos r.start) ∷ at ∷ n ∷ d ∷ []) (S ⊗ D) (N ⊗ L)
            (le (P ⊗ D) X h.above ⊞ eq N L (B ⊖ A) k.long ⊞ eq (neg D) S (P ⊖ A) k.start) tt;
        upto = ge (a ∷ b ∷ l ∷ (pos r.end) ∷ to ∷ n ∷ d ∷ []) (N ⊗ L) (S ⊗ D) (le X (P ⊗ D) h.below ⊞ eq (neg N) L (B ⊖ A) k.long ⊞ eq D S (P ⊖ A) k.end) tt;
      }

  on_risen : (n d : ℤ) → FromStartToEnd r n d → KeepsCoordinate at to a b n d
  on_risen n d h =
      let l = pos r.long in record {
        above = ge (a ∷ b ∷ l ∷ (pos r.start) ∷ at ∷ n ∷ d ∷ []) (P ⊗ D) X
            (le (S ⊗ D) (N ⊗ L) h.from ⊞ eq (neg N) L (B ⊖ A) k.long ⊞ eq D S (P ⊖ A) k.start) tt;
        below = ge (a ∷ b ∷ l ∷ (pos r.end) ∷ to ∷ n ∷ d ∷ []) X (P ⊗ D) (le (N ⊗ L) (S ⊗ D) h.upto ⊞ eq N L (B ⊖ A) k.long ⊞ eq (neg D) S (P ⊖ A) k.end) tt;
      }

-- ---- down
module _ {a at to b : ℤ} {r : Way} (g : Ranged b to at a) (k : Fallen a at to b r) where
  fallen_at : WayAt a b r
  fallen_at = record {
    proper = record {
      long = let h = g.some in omega (zarith, k.long, sub_is a b);
      small = gap_small g.a_on g.d_on k.long;
      order = let h = g.middle in omega (zarith, k.start, k.end, sub_is a at, sub_is a to);
      high = let h = g.first in omega (zarith, k.long, k.end, sub_is a b, sub_is a to);
    };
    at = down_exact a b at r.at (pos r.long) (pos r.start) k.long k.start k.at;
    to = down_exact a b to r.to (pos r.long) (pos r.end) k.long k.end k.to;
  }

  fallen_on : (n d : ℤ) → KeepsCoordinate to at a b n d → FromStartToEnd r n d
  fallen_on n d h =
      let l = pos r.long in record {
        from = ge (a ∷ b ∷ l ∷ (pos r.start) ∷ at ∷ n ∷ d ∷ []) (S ⊗ D) (N ⊗ L)
            (le X (P ⊗ D) h.below ⊞ eq N L (A ⊖ B) k.long ⊞ eq (neg D) S (A ⊖ P) k.start) tt;
        upto = ge (a ∷ b ∷ l ∷ (pos r.end) ∷ to ∷ n ∷ d ∷ []) (N ⊗ L) (S ⊗ D) (le (P ⊗ D) X h.above ⊞ eq (neg N) L (A ⊖ B) k.long ⊞ eq D S (A ⊖ P) k.end) tt;
      }

  on_fallen : (n d : ℤ) → FromStartToEnd r n d → KeepsCoordinate to at a b n d
  on_fallen n d h =
      let l = pos r.long in record {
        above = ge (a ∷ b ∷ l ∷ (pos r.end) ∷ to ∷ n ∷ d ∷ []) (P ⊗ D) X (le (N ⊗ L) (S ⊗ D) h.upto ⊞ eq N L (A ⊖ B) k.long ⊞ eq (neg D) S (A ⊖ P) k.end) tt;
        below = ge (a ∷ b ∷ l ∷ (pos r.start) ∷ at ∷ n ∷ d ∷ []) X (P ⊗ D)
            (le (S ⊗ D) (N ⊗ L) h.from ⊞ eq (neg N) L (A ⊖ B) k.long ⊞ eq D S (A ⊖ P) k.start) tt;
      }

-- ---- the cases
module _ {lo hi a b : ℤ} {r : Way} where
  pub up_across : Ranged a lo hi b → Risen a lo hi b r → WayOf lo hi a b r
  up_across g k = record {
    way = risen_at g k;
    stays = λ n d t h. risen_on g k n d h;
    keeps = λ n d t h. on_risen g k n d h;
    comes = λ _. subst (MetAt lo hi a b) (sym k.at) (rising g.some);
    goes = λ _. subst (MetAt lo hi b a) (sym k.to) (falling g.some);
  }

  pub up_into : Ranged a lo b b → b ≤ℤ hi → Risen a lo b b r → WayOf lo hi a b r
  up_into g l k = record {
    way = risen_at g k;
    stays = λ n d t h. risen_on g k n d
        (record { above = h.above; below = (all_between {lo = a} {hi = b} (refl-≤ a) (<→≤ g.some) (<→≤ g.some) (refl-≤ b) t).below });
    keeps = λ n d t h. record { above = (on_risen g k n d h).above; below = (all_between {lo = a} (refl-≤ a) (<→≤ g.some) (let s = g.some in omega zarith) l t).below };
    comes = λ _. subst (MetAt lo hi a b) (sym k.at) (rising g.some);
    goes = λ h. absurd (omega (zarith, k.long, k.end));
  }

  pub up_out : Ranged a a hi b → lo ≤ℤ a → Risen a a hi b r → WayOf lo hi a b r
  up_out g l k = record {
    way = risen_at g k;
    stays = λ n d t h. risen_on g k n d
        (record { above = (all_between {lo = a} {hi = b} (refl-≤ a) (<→≤ g.some) (<→≤ g.some) (refl-≤ b) t).above; below = h.below });
    keeps = λ n d t h. record { above = (all_between {hi = b} l (let s = g.some in omega zarith) (<→≤ g.some) (refl-≤ b) t).above; below = (on_risen g k n d h).below };
    comes = λ h. absurd (omega (zarith, k.start, sub_is a a));
    goes = λ _. subst (MetAt lo hi b a) (sym k.to) (falling g.some);
  }

  pub down_across : Ranged b lo hi a → Fallen a hi lo b r → WayOf lo hi a b r
  down_across g k = record {
    way = fallen_at g k;
    stays = λ n d t h. fallen_on g k n d h;
    keeps = λ n d t h. on_fallen g k n d h;
    comes = λ _. subst (MetAt lo hi a b) (sym k.at) (falling g.some);
    goes = λ _. subst (MetAt lo hi b a) (sym k.to) (rising g.some);
  }

  pub down_into : Ranged b b hi a → lo ≤ℤ b → Fallen a hi b b r → WayOf lo hi a b r
  down_into g l k = record {
    way = fallen_at g k;
    stays = λ n d t h. fallen_on g k n d
        (record { above = (all_between {lo = b} {hi = a} (<→≤ g.some) (refl-≤ b) (refl-≤ a) (<→≤ g.some) t).above; below = h.below });
    keeps = λ n d t h. record {
      above = (all_between {hi = a} (let s = g.some in omega zarith) l (refl-≤ a) (<→≤ g.some) t).above;
      below = (on_fallen g k n d h).below;
    };
    comes = λ _. subst (MetAt lo hi a b) (sym k.at) (falling g.some);
    goes = λ h. absurd (omega (zarith, k.long, k.end));
  }

  pub down_out : Ranged b lo a a → a ≤ℤ hi → Fallen a a lo b r → WayOf lo hi a b r
  down_out g l k = record {
    way = fallen_at g k;
    stays = λ n d t h. fallen_on g k n d
        (record { above = h.above; below = (all_between {lo = b} {hi = a} (<→≤ g.some) (refl-≤ b) (refl-≤ a) (<→≤ g.some) t).below });
    keeps = λ n d t h. record {
      above = (on_fallen g k n d h).above;
      below = (all_between {lo = b} (<→≤ g.some) (refl-≤ b) l (let s = g.some in omega zarith) t).below;
    };
    comes = λ h. absurd (omega (zarith, k.start, sub_is a a));
    goes = λ _. subst (MetAt lo hi b a) (sym k.to) (rising g.some);
  }

-- all of it
pub all_on_lem : {lo hi a b : ℤ} → EndsBetween lo hi a b → WayOf lo hi a b (record { long = 1; start = 0; end = 1; at = a; to = b })
all_on_lem {lo} {hi} {a} {b} k = record {
  way = record {
    proper = record { long = omega arith; small = omega arith; order = omega arith; high = omega arith };
    at = ring (a ∷ b ∷ []) (A ⊗ one ⊕ con (pos 0) ⊗ (B ⊖ A)) (A ⊗ one) tt;
    to = ring (a ∷ b ∷ []) (A ⊗ one ⊕ one ⊗ (B ⊖ A)) (B ⊗ one) tt;
  };
  stays = λ n d t h. record { from = ge (n ∷ d ∷ []) (con (pos 0) ⊗ B) (A ⊗ one) (nn A t.low) tt; upto = ge (n ∷ d ∷ []) (A ⊗ one) (one ⊗ B) (le A B t.high) tt };
  keeps = λ n d t h. all_between k.a_low k.b_low k.a_high k.b_high t;
  comes = λ h. absurd (omega arith);
  goes = λ h. absurd (omega arith);
}
