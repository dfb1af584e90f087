-- Two rings with the same points, each started at its lowest, then leftmost corner, are alike: a corner is no mixture of other points
-- of its ring, so it is a corner of the other ring too; and both lists are sorted by turning left as seen from the start.
use mathlib.Core.Path.{◌≡◌, refl, ◌∙◌}
use mathlib.Core.List.{List, [], ◌∷◌, ◌++◌}
use mathlib.Core.Logic.{◌⊎◌, inl, inr, ⊎_swap, ◌↔◌}
use Prim.Native.Nat.{◌≤◌}
use native.Mathlib.Omega.{arith}
use lib.ListN.{length}
use lib.IntN.{ℤ, pos, ◌+ℤ◌}
use lib.Signed.{◌≤ℤ◌, clash_ℤ}
use Rattle.whole.proofs.Naturals.{add_is}
use Rattle.whole.proofs.Expressions.{Expr, ◌⊕◌, ◌⊖◌, ◌⊗◌, Env}
use Rattle.whole.proofs.Polynomials.{ring}
use Rattle.whole.proofs.Order.{zarith, ≡→≤, ≤_total}
use Rattle.whole.proofs.Certificates.{po, eqn, ◌⊹◌, eq_cancel}
use Rattle.rings.specs.Lists.{All, ∅, ◌◂◌, step, closed, Turned}
use Rattle.rings.specs.Points.{Point, Line, value, through, det, Left, LeftOn, Over, On, Under, Proper, Same, Alike, ∅ˢ, ◌◂ˢ◌, Before}
use Rattle.rings.specs.Rings.{Ring, InRing, Starts}
use Rattle.rings.proofs.Plane.{cycle, left_irrefl, left_asym, corners, det_of, nought, x_of, y_of, w_of}
use Rattle.rings.proofs.Lists.{Any, here, there, Pairs, ◌◂ᵖ◌, take, all_at, all_zip, any_all}
use Rattle.rings.proofs.Lists.{any_long, either, pairs_map, edges_turned, turned_length, final, final_walk, final_part}
use Rattle.rings.proofs.Convex.{CCW, ◌◂ᶜ◌, ccw_part, ccw_turned, ccw_star}
use Rattle.rings.proofs.Linear.{ccw_of_convex}
use Rattle.rings.proofs.Fan.{fan⁺, corners_in}
use Rattle.rings.proofs.Same.{same_sym, same_trans, same_first, same_third}
use Rattle.rings.proofs.Before.{before_asym, before_same}

-- ---- a corner is the only point of its ring where the sum of its two edges is 0
record Peak (r : List Point) (v : Point) : Type 0 where
  f : Line
  top : On f v
  only : (p : Point) → Proper p → Proper v → InRing r p → Under f p → Same p v

plus : Line → Line → Line
plus f g = record { A = f.A +ℤ g.A; B = f.B +ℤ g.B; C = f.C +ℤ g.C }

module _ (u v w : Point) where
  abbrev tip : Line
  tip = plus (through u v) (through v w)

  tip_is : (p : Point) → value tip p ≡ det u v p +ℤ det v w p
  unfolding value through plus
  tip_is p = ring (corners (u ∷ v ∷ w ∷ p ∷ [])) tip_of (det_of 0 1 3 ⊕ det_of 1 2 3) tt
    where
      tip_of : Expr
      tip_of =
          ((y_of 0 ⊗ w_of 1 ⊖ w_of 0 ⊗ y_of 1) ⊕ (y_of 1 ⊗ w_of 2 ⊖ w_of 1 ⊗ y_of 2)) ⊗ x_of 3
          ⊕ ((w_of 0 ⊗ x_of 1 ⊖ x_of 0 ⊗ w_of 1) ⊕ (w_of 1 ⊗ x_of 2 ⊖ x_of 1 ⊗ w_of 2)) ⊗ y_of 3
          ⊕ ((x_of 0 ⊗ y_of 1 ⊖ y_of 0 ⊗ x_of 1) ⊕ (x_of 1 ⊗ y_of 2 ⊖ y_of 1 ⊗ x_of 2)) ⊗ w_of 3

  tip_top : On tip v
  unfolding value through
  tip_top = tip_is v ∙ ring (corners (u ∷ v ∷ w ∷ [])) (det_of 0 1 1 ⊕ det_of 1 2 1) nought tt

-- p on both edges of the corner v is v
tip_only : {u v w p : Point} → Proper p → Proper v → Left u v w → det u v p ≡ pos 0 → det v w p ≡ pos 0 → Same p v
unfolding value through
tip_only {u} {v} {w} {p} wp wv t a b = record {
  first = wp;
  second = wv;
  x =
      eq_cancel ρ (po (det_of 0 1 2) t.left) (x_of 3 ⊗ w_of 1) (x_of 1 ⊗ w_of 3)
      (eqn (x_of 0 ⊗ w_of 1 ⊖ x_of 1 ⊗ w_of 0) (det_of 1 2 3) nought b ⊹ eqn (x_of 2 ⊗ w_of 1 ⊖ x_of 1 ⊗ w_of 2) (det_of 0 1 3) nought a) tt;
  y =
      eq_cancel ρ (po (det_of 0 1 2) t.left) (y_of 3 ⊗ w_of 1) (y_of 1 ⊗ w_of 3)
      (eqn (y_of 0 ⊗ w_of 1 ⊖ y_of 1 ⊗ w_of 0) (det_of 1 2 3) nought b ⊹ eqn (y_of 2 ⊗ w_of 1 ⊖ y_of 1 ⊗ w_of 2) (det_of 0 1 3) nought a) tt;
}
  where
    ρ : Env
    ρ = corners (u ∷ v ∷ w ∷ p ∷ [])

sum_zero : (a b s : ℤ) → s ≡ a +ℤ b → s ≤ℤ pos 0 → pos 0 ≤ℤ a → pos 0 ≤ℤ b → (a ≡ pos 0) × (b ≡ pos 0)
sum_zero a b s e k ha hb = omega (zarith, add_is a b)

peak_first : (v : Point) (vs : List Point) → 3 ≤ length (v ∷ vs) → CCW (v ∷ vs) → Peak (v ∷ vs) v
peak_first v [] l c = absurd (omega arith)
peak_first v (w ∷ []) l c = absurd (omega arith)
peak_first v (w ∷ z ∷ zs) l c = record {
  f = tip u v w;
  top = tip_top u v w;
  only = λ p wp wv i k.
      let e = ends i in
      let s = sum_zero (det u v p) (det v w p) (value (tip u v w) p) (tip_is u v w p) k e.0.left_on e.1.left_on in
      tip_only wp wv (turn (ccw_part (take (take (final_part z zs))) c)) s.0 s.1;
}
  where
    u : Point
    u = final z zs

    turn : CCW (v ∷ w ∷ u ∷ []) → Left u v w
    turn (((h ◂ ∅) ◂ᵖ q) ◂ᶜ d) = cycle (cycle h)

    ends : {p : Point} → InRing (v ∷ w ∷ z ∷ zs) p → LeftOn u v p × LeftOn v w p
    ends (closed (step vw (step wz k))) = (final_walk k, vw)

peaks : (r : List Point) → 3 ≤ length r → CCW r → All (Peak r) r
peaks r l c = all_at r go
  where
    go : (xs : List Point) (v : Point) (ys : List Point) → r ≡ xs ++ (v ∷ ys) → Peak r v
    go xs v ys e =
        let t : Turned r (v ∷ (ys ++ xs)) = record { front = xs; back = v ∷ ys; was = e; now = refl } in
        let k = peak_first v (ys ++ xs) (let j = turned_length t in omega arith) (ccw_turned t c) in
        record { f = k.f; top = k.top; only = λ p wp wv i. k.only p wp wv (edges_turned t i) }

-- ---- each corner of r is a corner of s
abbrev Has : List Point → Point → Type 0
Has s v = Any (λ q. Same q v) s

module _ (r s : List Point) (gr : Ring r) (gs : Ring s) (points : (p : Point) → Proper p → InRing r p ↔ InRing s p) where
  cr : CCW r
  cr = ccw_of_convex gr.convex

  cs : CCW s
  cs = ccw_of_convex gs.convex

  corner : (v : Point) → Proper v → InRing r v → Peak r v → Has s v
  corner v wv iv k = go (either s (λ q. ⊎_swap (≤_total (value k.f q) (pos 0))))
    where
      found : {l : List Point} → Any (Under k.f) l → All Proper l → All (InRing s) l → Has l v
      found (here {x = q} u) (w ◂ ws) (i ◂ is) = here (k.only q w wv ((points q w).1 i) u)
      found (there b) (w ◂ ws) (i ◂ is) = there (found b ws is)

      go : All (Over k.f) s ⊎ Any (Under k.f) s → Has s v
      go (inl a) = clash_ℤ (fan⁺ k.f v s gs.three cs gs.proper ((points v wv).0 iv) wv a) (≡→≤ k.top)
      go (inr a) = found a gs.proper (corners_in cs)

  corners_of : All (Has s) r
  corners_of =
      all_zip {Q = λ v. InRing r v × Peak r v} (λ v n k. corner v n k.0 k.1) gr.proper (all_zip (λ v i k. (i, k)) (corners_in cr) (peaks r gr.three cr))

-- ---- two lists with the same members, in one strict order, are alike
module _ (R : Point → Point → Type 0) (irrefl : (a : Point) → R a a → ⊥) (asym : (a b : Point) → R a b → R b a → ⊥)
    (respects : (a p q : Point) → Same p q → R a p → R a q) where
  has : {a b : Point} {xs : List Point} → All (R a) xs → Has xs b → R a b
  has {a} {b} ra k = any_all (λ q e h. respects a q b e h) k ra

  heads : {a b : Point} {xs ys : List Point} → All (R a) xs → All (R b) ys → Has (b ∷ ys) a → Has (a ∷ xs) b → Same a b
  heads ra rb (here e) k = same_sym e
  heads ra rb (there h) (here e) = e
  heads {a} {b} ra rb (there h) (there k) = absurd (asym a b (has ra k) (has rb h))

  drop_head : {a b : Point} {xs ys : List Point} → Same a b → All (R a) xs → All (Has (b ∷ ys)) xs → All (Has ys) xs
  drop_head {a} {b} {xs} {ys} e ra h = all_zip go ra h
    where
      go : (x : Point) → R a x → Has (b ∷ ys) x → Has ys x
      go x l (here k) = absurd (irrefl a (respects a x a (same_sym (same_trans e k)) l))
      go x l (there k) = k

  sorted_alike : (xs ys : List Point) → Pairs R xs → Pairs R ys → All (Has ys) xs → All (Has xs) ys → Alike xs ys
  sorted_alike [] [] p q h k = ∅ˢ
  sorted_alike [] (y ∷ ys) p q h (k ◂ ks) = let z = any_long k in absurd (omega arith)
  sorted_alike (x ∷ xs) [] p q (h ◂ hs) k = let z = any_long h in absurd (omega arith)
  sorted_alike (x ∷ xs) (y ∷ ys) (a ◂ᵖ p) (b ◂ᵖ q) (h ◂ hs) (k ◂ ks) =
      let e = heads a b h k in
      e ◂ˢ sorted_alike xs ys p q (drop_head e a hs) (drop_head (same_sym e) b ks)

pub same_points_alike : (r s : List Point) → Ring r → Ring s → Starts r → Starts s → ((p : Point) → Proper p → InRing r p ↔ InRing s p) → Alike r s
same_points_alike [] s gr gs sr ss k = let l = gr.three in absurd (omega arith)
same_points_alike (v ∷ vs) [] gr gs sr ss k = let l = gs.three in absurd (omega arith)
same_points_alike (v ∷ vs) (w ∷ ws) gr gs sr ss k = go (corners_of (v ∷ vs) (w ∷ ws) gr gs k) (corners_of (w ∷ ws) (v ∷ vs) gs gr (λ p h. ((k p h).1, (k p h).0)))
  where
    irrefl : (a : Point) → Before a a → ⊥
    irrefl a h = before_asym h h

    go : All (Has (w ∷ ws)) (v ∷ vs) → All (Has (v ∷ vs)) (w ∷ ws) → Alike (v ∷ vs) (w ∷ ws)
    go (h ◂ hs) (j ◂ js) =
        let e = heads Before irrefl (λ a b. before_asym) (λ a p q. before_same) sr ss h j in
        e ◂ˢ sorted_alike (Left v) (λ a. left_irrefl) (λ a b. left_asym) (λ a p q. same_third) vs ws (ccw_star (ccw_of_convex gr.convex))
        (pairs_map (λ a b. same_first (same_sym e)) (ccw_star (ccw_of_convex gs.convex)))
        (drop_head Before irrefl (λ a b. before_asym) (λ a p q. before_same) e sr hs)
        (drop_head Before irrefl (λ a b. before_asym) (λ a p q. before_same) (same_sym e) ss js)
