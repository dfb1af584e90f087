-- One cut of a ring: its points by the fan, one way; the other way because each new edge is part of an old one or runs along the line.
use mathlib.Core.Path.{sym}
use mathlib.Core.List.{List, [], ◌∷◌}
use mathlib.Core.Logic.{◌⊎◌, inl, inr, ◌↔◌}
use Prim.Native.Nat.{◌≤◌}
use native.Mathlib.Omega.{arith}
use lib.ListN.{length}
use lib.IntN.{pos, neg_ℤ}
use lib.Signed.{clash_ℤ}
use Rattle.whole.proofs.Expressions.{Expr, ◌⊕◌, ◌⊗◌, neg}
use Rattle.whole.proofs.Order.{≡→≤, ≤_antisym, ≤_total}
use Rattle.whole.proofs.Certificates.{ge, le, nn}
use Rattle.rings.specs.Lists.{All, ◌◂◌}
use Rattle.rings.specs.Points.{Point, Line, value, LeftOn, In, Over, On, Under, Real, Proper}
use Rattle.rings.specs.Rings.{Ring, InRing}
use Rattle.rings.specs.Cuts.{Across, leaves, enters, CutBy, OneCut}
use Rattle.rings.proofs.Plane.{collinear, runs_along, between_left_on, between_proper, with_line, value_of, nought, x_of, y_of, w_of}
use Rattle.rings.proofs.Lists.{Any, ◌◂ᵖ◌, all_map, all_zip, any_all, either, edges_zip}
use Rattle.rings.proofs.Convex.{CCW, ◌◂ᶜ◌}
use Rattle.rings.proofs.Linear.{ccw_of_convex, convex_of_ccw}
use Rattle.rings.proofs.Fan.{fan, corners_in, edges_left, ring_in}
use Rattle.rings.proofs.Passes.{cut_all}
use Rattle.rings.proofs.Remains.{Remains, Part, remains}

-- a real line holds at most two corners
pub few_on : (h : Line) → Real h → (t : List Point) → CCW t → All (On h) t → length t ≤ 2
few_on h q [] c a = omega arith
few_on h q (u ∷ []) c a = omega arith
few_on h q (u ∷ v ∷ []) c a = omega arith
few_on h q (u ∷ v ∷ w ∷ t) (((l ◂ ls) ◂ᵖ p) ◂ᶜ c) (a ◂ (b ◂ (d ◂ e))) = clash_ℤ l.left (≡→≤ (collinear h q u v w a b d))

-- the line from its other side
other_side : Line → Line
other_side h = record { A = neg_ℤ h.A; B = neg_ℤ h.B; C = neg_ℤ h.C }

abbrev other_value : Expr
other_value = neg (x_of 0) ⊗ x_of 1 ⊕ neg (y_of 0) ⊗ y_of 1 ⊕ neg (w_of 0) ⊗ w_of 1

under_in : (h : Line) (u : Point) → Under h u → In (other_side h) u
unfolding value other_side
under_in h u k = ge (with_line h (u ∷ [])) nought other_value (le (value_of 0 1) nought k) tt

in_under : (h : Line) (u : Point) → In (other_side h) u → Under h u
unfolding value other_side
in_under h u k = ge (with_line h (u ∷ [])) (value_of 0 1) nought (nn other_value k) tt

module _ {h : Line} {r s : List Point} (real : Real h) (ring : Ring r) (cut : CutBy h r s) where
  old : CCW r
  old = ccw_of_convex ring.convex

  left : Remains h r s
  left = remains h ring.three old cut

  all_in : All (In h) s
  all_in = cut_all (λ u n i. i) (λ u v c n m a x. ≡→≤ (sym x.on)) ring.proper cut

  under_or_over : (l : List Point) → All (Under h) l ⊎ Any (Over h) l
  under_or_over l = either l (λ u. ≤_total (value h u) (pos 0))

  thin : (length s ≤ 2) ↔ All (Under h) r
  thin = (left.thin, back)
    where
      not_across : {A : Type 0} {u v : Point} → Under h u → Under h v → Across h u v → A
      not_across hu hv (leaves a b) = clash_ℤ a hu
      not_across hu hv (enters a b) = clash_ℤ b hv

      back : All (Under h) r → length s ≤ 2
      back a = few_on h real s left.ccw (cut_all (λ u k i. ≤_antisym k i) (λ u v c hu hv a x. not_across hu hv a) a cut)

  points : 3 ≤ length s → (p : Point) → InRing s p ↔ (InRing r p × In h p)
  points l p = (λ i. (ring_in s r l left.ccw corners i, fan h p s l left.ccw i all_in), λ k. back k.0 k.1 (under_or_over s))
    where
      corners : All (InRing r) s
      corners = cut_all (λ u n i. n) (λ u v c n m a x. edges_zip (λ y z. between_left_on x.between) n m) (corners_in old) cut

      edge : Any (Over h) s → In h p → (a b : Point) → All (LeftOn a b) s → Part h p a b → LeftOn a b p
      edge o k a b l (inl e) = e
      edge o k a b l (inr e) = any_all (λ y hy ly. runs_along h e.0 e.1 hy ly k) o l

      back : InRing r p → In h p → All (Under h) s ⊎ Any (Over h) s → InRing s p
      back i k (inl a) = let z = few_on h real s left.ccw (all_zip (λ u hu ku. ≤_antisym hu ku) a all_in) in absurd (omega arith)
      back i k (inr o) = edges_zip (edge o k) (edges_left left.ccw) (left.edges p i)

  flat : length s ≤ 2 → (p : Point) → InRing r p → In h p → On h p
  flat l p i k = ≤_antisym (in_under h p (fan (other_side h) p r ring.three old i (all_map (λ u. under_in h u) (thin.0 l)))) k

  proper : All Proper s
  proper = cut_all (λ u n i. n) (λ u v c n m a x. between_proper x.between n m) ring.proper cut

  pub one_cut : OneCut h r s
  one_cut = record {
    short = left.short;
    thin = thin;
    ring = λ l. record { three = l; proper = proper; convex = convex_of_ccw left.ccw };
    points = points;
    flat = flat;
  }
