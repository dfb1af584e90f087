-- Lists of the same points in other numbers: alike rings have the same points, and their cuts are alike.
use mathlib.Core.List.{List, ◌++◌}
use mathlib.Core.Logic.{◌↔◌}
use mathlib.Core.Path.{◌≡◌, refl, ap}
use native.Mathlib.Omega.{arith}
use Prim.Native.Nat.{suc}
use lib.ListN.{length}
use lib.Signed.{clash_ℤ}
use Rattle.rings.specs.Lists.{All, ∅, ◌◂◌, Walk, last, step, nothing, closed}
use Rattle.rings.specs.Points.{Point, Line, Left, LeftOn, Proper, Same, Alike, ∅ˢ, ◌◂ˢ◌}
use Rattle.rings.specs.Rings.{Ring, InRing}
use Rattle.rings.specs.Cuts.{Kept, stays, goes, Added, crossed, uncrossed, Pass, ends, goes_on, CutBy, empty, round}
use Rattle.rings.proofs.Plane.{between_proper}
use Rattle.rings.proofs.Lists.{Pairs, ∅ᵖ, ◌◂ᵖ◌}
use Rattle.rings.proofs.Convex.{CCW, ∅ᶜ, ◌◂ᶜ◌}
use Rattle.rings.proofs.Linear.{ccw_of_convex, convex_of_ccw}
use Rattle.rings.proofs.Same.{same_refl, same_sym, same_in, same_out, same_left, same_edge, same_across, same_crossing, crossings_same}

pub alike_refl : {r : List Point} → All Proper r → Alike r r
alike_refl ∅ = ∅ˢ
alike_refl (w ◂ a) = same_refl w ◂ˢ alike_refl a

pub alike_sym : {r s : List Point} → Alike r s → Alike s r
alike_sym ∅ˢ = ∅ˢ
alike_sym (e ◂ˢ a) = same_sym e ◂ˢ alike_sym a

pub alike_length : {r s : List Point} → Alike r s → length r ≡ length s
alike_length ∅ˢ = refl
alike_length (e ◂ˢ a) = ap suc (alike_length a)

alike_append : {r s t u : List Point} → Alike r s → Alike t u → Alike (r ++ t) (s ++ u)
alike_append ∅ˢ b = b
alike_append (e ◂ˢ a) b = e ◂ˢ alike_append a b

-- ---- the ring and its points
alike_proper : {r s : List Point} → Alike r s → All Proper s
alike_proper ∅ˢ = ∅
alike_proper (e ◂ˢ a) = e.second ◂ alike_proper a

module _ {u u' : Point} (e : Same u u') where
  alike_all : {v v' : Point} → Same v v' → {r s : List Point} → Alike r s → All (Left u v) r → All (Left u' v') s
  alike_all f ∅ˢ ∅ = ∅
  alike_all f (d ◂ˢ a) (h ◂ k) = same_left e f d h ◂ alike_all f a k

  alike_pairs : {r s : List Point} → Alike r s → Pairs (Left u) r → Pairs (Left u') s
  alike_pairs ∅ˢ ∅ᵖ = ∅ᵖ
  alike_pairs (f ◂ˢ a) (h ◂ᵖ k) = alike_all f a h ◂ᵖ alike_pairs a k

pub alike_ccw : {r s : List Point} → Alike r s → CCW r → CCW s
alike_ccw ∅ˢ ∅ᶜ = ∅ᶜ
alike_ccw (e ◂ˢ a) (q ◂ᶜ c) = alike_pairs e a q ◂ᶜ alike_ccw a c

pub alike_ring : {r s : List Point} → Alike r s → Ring r → Ring s
alike_ring a g = record {
  three = let e = alike_length a in let k = g.three in omega arith;
  proper = alike_proper a;
  convex = convex_of_ccw (alike_ccw a (ccw_of_convex g.convex));
}

module _ {p : Point} where
  alike_walk : {u u' z z' : Point} {r s : List Point} → Same u u' → Alike r s → Same z z' → Walk (λ a b. LeftOn a b p) u r z → Walk (λ a b. LeftOn a b p) u' s z'
  alike_walk e ∅ˢ f (last h) = last (same_edge e f h)
  alike_walk e (d ◂ˢ a) f (step h w) = step (same_edge e d h) (alike_walk d a f w)

  in_alike : {r s : List Point} → Alike r s → InRing r p → InRing s p
  in_alike ∅ˢ nothing = nothing
  in_alike (e ◂ˢ a) (closed w) = closed (alike_walk e a e w)

  pub alike_points : {r s : List Point} → Alike r s → InRing r p ↔ InRing s p
  alike_points a = (in_alike a, in_alike (alike_sym a))

-- ---- cuts
module _ {h : Line} where
  alike_kept : {u u' : Point} {a b : List Point} → Same u u' → Kept h u a → Kept h u' b → Alike a b
  alike_kept e (stays i) (stays j) = e ◂ˢ ∅ˢ
  alike_kept e (stays i) (goes o) = clash_ℤ o (same_in e h i)
  alike_kept e (goes o) (stays j) = clash_ℤ (same_out e h o) j
  alike_kept e (goes o) (goes n) = ∅ˢ

  alike_added : {u u' v v' : Point} {a b : List Point} → Same u u' → Same v v' → Added h u v a → Added h u' v' b → Alike a b
  alike_added e f (crossed x cx) (crossed y cy) =
      crossings_same e.second f.second y (same_crossing e f (same_refl (between_proper cx.between e.first f.first)) cx) cy ◂ˢ ∅ˢ
  alike_added e f (crossed x cx) (uncrossed n) = absurd (n (same_across e f x))
  alike_added e f (uncrossed n) (crossed y cy) = absurd (n (same_across (same_sym e) (same_sym f) y))
  alike_added e f (uncrossed n) (uncrossed m) = ∅ˢ

  alike_pass : {u u' z z' : Point} {r r' s s' : List Point} → Same u u' → Alike r r' → Same z z' → Pass h u r z s → Pass h u' r' z' s' → Alike s s'
  alike_pass e ∅ˢ f (ends k d) (ends k' d') = alike_append (alike_kept e k k') (alike_added e f d d')
  alike_pass e (g ◂ˢ a) f (goes_on k d p) (goes_on k' d' p') = alike_append (alike_kept e k k') (alike_append (alike_added e g d d') (alike_pass g a f p p'))

  pub alike_cut : {r r' s s' : List Point} → Alike r r' → CutBy h r s → CutBy h r' s' → Alike s s'
  alike_cut ∅ˢ empty empty = ∅ˢ
  alike_cut (e ◂ˢ a) (round p) (round p') = alike_pass e a e p p'
