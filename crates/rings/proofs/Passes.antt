-- A pass is made of passes over its parts, so a cut does not care where the list starts; and there is a cut of every list.
use mathlib.Core.Path.{◌≡◌, refl, sym, ap, ◌∙◌, subst}
use mathlib.Core.List.{List, [], ◌∷◌, ◌++◌, append_assoc, append-nil}
use mathlib.Core.Logic.{◌⊎◌, inl, inr}
use Prim.Native.Nat.{ℕ}
use lib.IntN.{ℤ, pos, neg_ℤ, ◌+ℤ◌, ◌-ℤ◌, ◌*ℤ◌}
use Rattle.whole.proofs.Expressions.{Expr, var, con, ◌⊕◌, ◌⊖◌, ◌⊗◌, neg}
use Rattle.whole.proofs.Polynomials.{ring}
use Rattle.whole.proofs.Order.{zarith, ≤_total}
use Rattle.whole.proofs.Certificates.{gt, lt}
use Rattle.rings.specs.Lists.{All, ∅, ◌◂◌, Turned}
use Rattle.rings.specs.Points.{Point, Line, value, In, Over, Out, Under, On}
use Rattle.rings.specs.Cuts.{Crossing, Across, leaves, enters, Kept, stays, goes, Added, crossed, uncrossed, Pass, ends, goes_on, CutBy, empty, round}
use Rattle.rings.proofs.Plane.{flip, with_line, x_of, y_of, w_of, value_of, nought}
use Rattle.rings.proofs.Lists.{all_append}

-- ---- a pass over two parts
pub record Split (h : Line) (u : Point) (xs : List Point) (v : Point) (ys : List Point) (z : Point) (s : List Point) : Type 0 where
  pub a : List Point
  pub b : List Point
  pub is : s ≡ a ++ b
  pub first : Pass h u xs v a
  pub second : Pass h v ys z b

-- a cut of a list started elsewhere
pub record CutTurned (h : Line) (r s : List Point) : Type 0 where
  pub left : List Point
  pub cut : CutBy h r left
  pub turned : Turned s left

module _ {h : Line} where
  pub pass_join : {u v z : Point} {xs ys a b : List Point} → Pass h u xs v a → Pass h v ys z b → Pass h u (xs ++ (v ∷ ys)) z (a ++ b)
  pass_join {u} {v} {z} {ys = ys} {b = c} (ends {a = a} {b = b} k d) q = subst (Pass h u (v ∷ ys) z) (sym (append_assoc a b c)) (goes_on k d q)
  pass_join {u} {v} {z} {ys = ys} {b = c} (goes_on {v = w} {r = xs} {a = a} {b = b} {s = s} k d p) q =
      subst (Pass h u ((w ∷ xs) ++ (v ∷ ys)) z) (ap (λ l. a ++ l) (sym (append_assoc b s c)) ∙ sym (append_assoc a (b ++ s) c)) (goes_on k d (pass_join p q))

  pub pass_split : {u v z : Point} (xs : List Point) {ys s : List Point} → Pass h u (xs ++ (v ∷ ys)) z s → Split h u xs v ys z s
  pass_split [] (goes_on {a = a} {b = b} {s = s} k d p) = record { a = a ++ b; b = s; is = sym (append_assoc a b s); first = ends k d; second = p }
  pass_split (w ∷ xs) (goes_on {a = a} {b = b} k d p) =
      let t = pass_split xs p in
      record {
        a = a ++ (b ++ t.a);
        b = t.b;
        is = ap (λ l. a ++ (b ++ l)) t.is ∙ ap (λ l. a ++ l) (sym (append_assoc b t.a t.b)) ∙ sym (append_assoc a (b ++ t.a) t.b);
        first = goes_on k d t.first;
        second = t.second;
      }

  cut_turn : (xs ys : List Point) {s : List Point} → CutBy h (xs ++ ys) s → CutTurned h (ys ++ xs) s
  cut_turn [] ys {s} c = record {
    left = s;
    cut = subst (λ r. CutBy h r s) (sym (append-nil ys)) c;
    turned = record { front = []; back = s; was = refl; now = sym (append-nil s) };
  }
  cut_turn (u ∷ xs) [] {s} c = record {
    left = s;
    cut = subst (λ r. CutBy h r s) (append-nil (u ∷ xs)) c;
    turned = record { front = []; back = s; was = refl; now = sym (append-nil s) };
  }
  cut_turn (u ∷ xs) (v ∷ ys) (round p) =
      let t = pass_split xs p in
      record { left = t.b ++ t.a; cut = round (pass_join t.second t.first); turned = record { front = t.a; back = t.b; was = t.is; now = refl } }

  pub cut_turned : {r r' s : List Point} → Turned r r' → CutBy h r s → CutTurned h r' s
  cut_turned {s = s} t c = subst (λ l. CutTurned h l s) (sym t.now) (cut_turn t.front t.back (subst (λ l. CutBy h l s) t.was c))

-- ---- what holds of all that a cut leaves
module _ {h : Line} {P Q : Point → Type 0} (kept : (u : Point) → Q u → In h u → P u) (made : (u v c : Point) → Q u → Q v → Across h u v → Crossing h u v c → P c) where
  kept_all : {u : Point} {s : List Point} → Q u → Kept h u s → All P s
  kept_all {u} q (stays i) = kept u q i ◂ ∅
  kept_all q (goes o) = ∅

  added_all : {u v : Point} {s : List Point} → Q u → Q v → Added h u v s → All P s
  added_all {u} {v} q r (crossed {c} a x) = made u v c q r a x ◂ ∅
  added_all q r (uncrossed n) = ∅

  pass_all : {u z : Point} {r s : List Point} → Q u → All Q r → Q z → Pass h u r z s → All P s
  pass_all q a r (ends k d) = all_append (kept_all q k) (added_all q r d)
  pass_all q (p ◂ a) r (goes_on k d w) = all_append (kept_all q k) (all_append (added_all q p d) (pass_all p a r w))

  pub cut_all : {r s : List Point} → All Q r → CutBy h r s → All P s
  cut_all a empty = ∅
  cut_all (q ◂ a) (round w) = pass_all q a q w

-- ---- there is a cut: the crossing of u, strictly inside, and v, strictly outside, is h(u)·v − h(v)·u
unfoldable pub meet : Line → Point → Point → Point
meet h u v = record {
  X = value h u *ℤ v.X -ℤ value h v *ℤ u.X;
  Y = value h u *ℤ v.Y -ℤ value h v *ℤ u.Y;
  W = value h u *ℤ v.W -ℤ value h v *ℤ u.W;
}

pub flip_crossing : {h : Line} {u v c : Point} → Crossing h u v c → Crossing h v u c
flip_crossing x = record { between = flip x.between; on = x.on }

module _ (h : Line) where
  meet_on : (u v : Point) → On h (meet h u v)
  unfolding meet value
  meet_on u v = ring (with_line h (u ∷ v ∷ [])) (x_of 0 ⊗ of x_of ⊕ y_of 0 ⊗ of y_of ⊕ w_of 0 ⊗ of w_of) nought tt
    where
      of : (ℕ → Expr) → Expr
      of c = value_of 0 1 ⊗ c 2 ⊖ value_of 0 2 ⊗ c 1

  pub meet_crossing : (u v : Point) → Over h u → Out h v → Crossing h u v (meet h u v)
  unfolding meet
  meet_crossing u v hu hv = record {
    between = record {
      k = pos 1;
      α = neg_ℤ (value h v);
      β = value h u;
      k⁺ = omega zarith;
      α⁺ = gt (value h v ∷ []) nought (neg (var 0)) (lt (var 0) nought hv) tt;
      β⁺ = hu;
      is_x = sum u.X v.X;
      is_y = sum u.Y v.Y;
      is_w = sum u.W v.W;
    };
    on = meet_on u v;
  }
    where
      sum : (a b : ℤ) → pos 1 *ℤ (value h u *ℤ b -ℤ value h v *ℤ a) ≡ neg_ℤ (value h v) *ℤ a +ℤ value h u *ℤ b
      sum a b = ring (value h u ∷ value h v ∷ a ∷ b ∷ []) (con (pos 1) ⊗ (var 0 ⊗ var 3 ⊖ var 1 ⊗ var 2)) (neg (var 1) ⊗ var 2 ⊕ var 0 ⊗ var 3) tt

  leaves? : (u v : Point) → (Over h u × Out h v) ⊎ (Over h u × Out h v → ⊥)
  leaves? u v = go (≤_total (value h u) (pos 0)) (≤_total (pos 0) (value h v))
    where
      go : Under h u ⊎ Over h u → In h v ⊎ Out h v → (Over h u × Out h v) ⊎ (Over h u × Out h v → ⊥)
      go (inl a) b = inr (λ k. omega zarith)
      go (inr a) (inl b) = inr (λ k. omega zarith)
      go (inr a) (inr b) = inl (a, b)

  some_kept : (u : Point) → (s : List Point) × Kept h u s
  some_kept u = go (≤_total (pos 0) (value h u))
    where
      go : In h u ⊎ Out h u → (s : List Point) × Kept h u s
      go (inl i) = (u ∷ [], stays i)
      go (inr o) = ([], goes o)

  some_added : (u v : Point) → (s : List Point) × Added h u v s
  some_added u v = go (leaves? u v) (leaves? v u)
    where
      neither : (Over h u × Out h v → ⊥) → (Over h v × Out h u → ⊥) → Across h u v → ⊥
      neither n m (leaves a b) = n (a, b)
      neither n m (enters a b) = m (b, a)

      go : (Over h u × Out h v) ⊎ (Over h u × Out h v → ⊥) → (Over h v × Out h u) ⊎ (Over h v × Out h u → ⊥) → (s : List Point) × Added h u v s
      go (inl k) m = (meet h u v ∷ [], crossed (leaves k.0 k.1) (meet_crossing u v k.0 k.1))
      go (inr n) (inl k) = (meet h v u ∷ [], crossed (enters k.1 k.0) (flip_crossing (meet_crossing v u k.0 k.1)))
      go (inr n) (inr m) = ([], uncrossed (neither n m))

  some_pass : (u : Point) (r : List Point) (z : Point) → (s : List Point) × Pass h u r z s
  some_pass u [] z = ((some_kept u).0 ++ (some_added u z).0, ends (some_kept u).1 (some_added u z).1)
  some_pass u (v ∷ r) z =
      let p = some_pass v r z in
      ((some_kept u).0 ++ ((some_added u v).0 ++ p.0), goes_on (some_kept u).1 (some_added u v).1 p.1)

  pub some_cut : (r : List Point) → (s : List Point) × CutBy h r s
  some_cut [] = ([], empty)
  some_cut (v ∷ r) = let p = some_pass v r v in (p.0, round p.1)
