-- What a cut leaves of a counterclockwise list: by how the list lies to the line, a counterclockwise list whose edges are parts of old edges or run along the line.
use mathlib.Core.Path.{◌≡◌, refl, sym, ap, ◌∙◌, subst}
use mathlib.Core.List.{List, [], ◌∷◌, ◌++◌, append-nil}
use mathlib.Core.Logic.{◌⊎◌, inl, inr, ⊎_swap}
use Prim.Native.Nat.{suc, ◌+◌, ◌≤◌}
use native.Mathlib.Omega.{arith}
use lib.ListN.{length, length-append}
use lib.IntN.{pos}
use lib.Signed.{clash_ℤ}
use Rattle.whole.proofs.Order.{<→≤, ≡→≤, ≤_antisym, ≤_total}
use Rattle.rings.specs.Lists.{All, ∅, ◌◂◌, Walk, last, step, Edges, nothing, closed, Turned}
use Rattle.rings.specs.Points.{Point, Line, value, Left, LeftOn, In, Out, Over, Under, On}
use Rattle.rings.specs.Rings.{InRing}
use Rattle.rings.specs.Cuts.{Between, Crossing, Across, leaves, enters, stays, goes, Added, crossed, uncrossed, Pass, ends, goes_on, CutBy, empty, round}
use Rattle.rings.proofs.Plane.{cycle, cycle_on, weaken, twice12, twice13, twice23, between_left_on, between_left₁, between_left₂}
use Rattle.rings.proofs.Lists.{Any, one, ∅ᵖ, ◌◂ᵖ◌, skip, take, part_right, part_append, part_refl}
use Rattle.rings.proofs.Lists.{all_append, all_head, all_of, all_map, either, pairs_head, walk_map, walk_left, walk_right}
use Rattle.rings.proofs.Lists.{edges_map, edges_turned, turned_length, turned_back, turned_all, final, final_all, final_walk, final_part}
use Rattle.rings.proofs.Convex.{CCW, ∅ᶜ, ◌◂ᶜ◌, ccw_part, ccw_star, ccw_tail, ccw_turned}
use Rattle.rings.proofs.Moves.{move_second, move_inner, move_both}
use Rattle.rings.proofs.Passes.{pass_split, cut_turned}
use Rattle.rings.proofs.Arcs.{Arc, inside, one_run, two_runs, arc, in_out}

-- p is left of the edge a b or on it, or the edge runs along h
abbrev pub Part : Line → Point → Point → Point → Type 0
Part h p a b = LeftOn a b p ⊎ (On h a × On h b)

pub record Remains (h : Line) (r s : List Point) : Type 0 where
  pub ccw : CCW s
  pub edges : (p : Point) → InRing r p → Edges (Part h p) s
  pub short : length s ≤ suc (length r)
  pub thin : length s ≤ 2 → All (Under h) r

-- ---- parts of the old list: l, then the run n ∷ ns, then fs
module _ {l n : Point} where
  with_final : (ns fs : List Point) → CCW (l ∷ n ∷ (ns ++ fs)) → (k : Point) (ms : List Point) → ns ≡ k ∷ ms → CCW (l ∷ n ∷ final k ms ∷ fs)
  with_final ns fs c k ms e = ccw_part (take (take (part_append (final_part k ms) part_refl))) (subst (λ z. CCW (l ∷ n ∷ (z ++ fs))) e c)

  -- with the last of the run
  only_final : (ns fs : List Point) → CCW (l ∷ n ∷ (ns ++ fs)) → CCW (l ∷ final n ns ∷ fs) × LeftOn l n (final n ns) × All (LeftOn n (final n ns)) fs
  only_final [] fs c = (c, twice23 n l, all_of (λ y. twice12 n y))
  only_final (k ∷ ms) fs c =
      let d = with_final (k ∷ ms) fs c k ms refl in
      (ccw_part (take (skip part_refl)) d, weaken (all_head (pairs_head (ccw_star d))), all_map (λ y h. weaken h) (pairs_head (ccw_star (ccw_tail d))))

-- with the first of the run
only_first : (l n : Point) (ns fs : List Point) → CCW (l ∷ n ∷ (ns ++ fs)) → CCW (l ∷ n ∷ fs)
only_first l n ns fs c = ccw_part (take (take (part_right ns part_refl))) c

-- a part of an edge
edge_start : {l n c p : Point} → Between l n c → LeftOn l n p → LeftOn l c p
edge_start {l} {n} {c} {p} b h = cycle_on (between_left_on b (twice23 l p) (cycle_on (cycle_on h)))

edge_end : {m f d p : Point} → Between m f d → LeftOn m f p → LeftOn d f p
edge_end {m} {f} {d} {p} b h = cycle_on (cycle_on (between_left_on b (cycle_on h) (twice13 f p)))

module _ (h : Line) where
  out_over : {A : Type 0} (u : Point) → Out h u → Over h u → A
  out_over u e k = clash_ℤ k (<→≤ e)

  on_unless : (u : Point) → In h u → (Over h u → ⊥) → On h u
  on_unless u i f = go (≤_total (value h u) (pos 0))
    where
      go : Under h u ⊎ Over h u → On h u
      go (inl k) = ≤_antisym k i
      go (inr k) = absurd (f k)

  -- ---- the six forms
  one_left : {l n : Point} {ns : List Point} → All (Out h) (n ∷ ns) → On h l → Remains h (l ∷ n ∷ ns) (l ∷ [])
  one_left {l} out e = record {
    ccw = ∅ᵖ ◂ᶜ ∅ᶜ;
    edges = λ p i. closed (last (inl (twice12 l p)));
    short = omega arith;
    thin = λ t. ≡→≤ e ◂ all_map (λ u. <→≤) out;
  }

  triangle_left : {l n c d : Point} {ns : List Point} → 3 ≤ length (l ∷ n ∷ ns) → CCW (l ∷ n ∷ ns) → Crossing h l n c → Crossing h (final n ns) l d
      → Remains h (l ∷ n ∷ ns) (l ∷ c ∷ d ∷ [])
  triangle_left {l} {n} {c} {d} {ns} three k x y = record {
    ccw = ((turn ◂ ∅) ◂ᵖ (∅ ◂ᵖ ∅ᵖ)) ◂ᶜ ((∅ ◂ᵖ ∅ᵖ) ◂ᶜ (∅ᵖ ◂ᶜ ∅ᶜ));
    edges = λ p i. walk i;
    short = omega arith;
    thin = λ t. absurd (omega arith);
  }
    where
      lnm : (ms : List Point) → ns ≡ ms → 3 ≤ length (l ∷ n ∷ ms) → Left l n (final n ms)
      lnm [] e t = absurd (omega arith)
      lnm (q ∷ ms) e t = all_head (pairs_head (ccw_star (with_final ns [] (subst (λ z. CCW (l ∷ n ∷ z)) (sym (append-nil ns)) k) q ms e)))

      turn : Left l c d
      turn = between_left₁ y.between (cycle (between_left₂ x.between (twice23 l (final n ns)) (cycle (cycle (lnm ns refl three))))) (twice13 l c)

      walk : {p : Point} → InRing (l ∷ n ∷ ns) p → Edges (Part h p) (l ∷ c ∷ d ∷ [])
      walk (closed (step ln w)) = closed (step (inl (edge_start x.between ln)) (step (inr (x.on, y.on)) (last (inl (edge_end y.between (final_walk w))))))

  module _ (l n f : Point) (ns q : List Point) where
    abbrev old : List Point
    old = l ∷ n ∷ (ns ++ (f ∷ q))

    size : length old ≡ suc (suc (length ns + suc (length q)))
    size = ap (λ z. suc (suc z)) (length-append ns (f ∷ q))

    -- the edges at the run's ends, and the rest of the walk
    leaving : {p : Point} → InRing old p → LeftOn l n p
    leaving (closed (step ln w)) = ln

    entering : {p : Point} → InRing old p → LeftOn (final n ns) f p
    entering (closed (step ln w)) = final_walk (walk_left ns q w)

    rest : {p : Point} → InRing old p → Walk (Part h p) f q l
    rest (closed (step ln w)) = walk_map (λ a b. inl) (walk_right ns w)

    two_crossings : {c d : Point} → CCW old → Crossing h l n c → Crossing h (final n ns) f d → Remains h old (l ∷ c ∷ d ∷ f ∷ q)
    two_crossings k x y = record {
      ccw = let b = only_final ns (f ∷ q) k in move_both x.between y.between (only_first l n ns (f ∷ q) k) b.0 b.1 b.2;
      edges = λ p i. closed (step (inl (edge_start x.between (leaving i))) (step (inr (x.on, y.on)) (step (inl (edge_end y.between (entering i))) (rest i))));
      short = let s = size in omega arith;
      thin = λ t. absurd (omega arith);
    }

    first_crossing : {c : Point} → CCW old → Crossing h l n c → On h f → Remains h old (l ∷ c ∷ f ∷ q)
    first_crossing k x e = record {
      ccw = move_second x.between (only_first l n ns (f ∷ q) k);
      edges = λ p i. closed (step (inl (edge_start x.between (leaving i))) (step (inr (x.on, e)) (rest i)));
      short = let s = size in omega arith;
      thin = λ t. absurd (omega arith);
    }

    second_crossing : {d : Point} → CCW old → On h l → Crossing h (final n ns) f d → Remains h old (l ∷ d ∷ f ∷ q)
    second_crossing k e y = record {
      ccw = move_inner y.between (only_final ns (f ∷ q) k).0;
      edges = λ p i. closed (step (inr (e, y.on)) (step (inl (edge_end y.between (entering i))) (rest i)));
      short = let s = size in omega arith;
      thin = λ t. absurd (omega arith);
    }

    no_crossing : CCW old → All (Out h) (n ∷ ns) → On h l → On h f → Remains h old (l ∷ f ∷ q)
    no_crossing k out e e' = record {
      ccw = ccw_part (take (skip part_refl)) (only_first l n ns (f ∷ q) k);
      edges = λ p i. closed (step (inr (e, e')) (rest i));
      short = let s = size in omega arith;
      thin = λ t. ≡→≤ e ◂ all_append (all_map (λ u. <→≤) out) (≡→≤ e' ◂ none q t);
    }
      where
        none : (q : List Point) → length (l ∷ f ∷ q) ≤ 2 → All (Under h) q
        none [] t = ∅
        none (g ∷ q) t = absurd (omega arith)

  -- ---- what a pass leaves of each run
  no_out : {A : Type 0} {u v : Point} → Out h u → Out h v → Across h u v → A
  no_out {u} {v} hu hv (leaves a b) = out_over u hu a
  no_out {u} {v} hu hv (enters a b) = out_over v hv b

  no_in : {A : Type 0} {u v : Point} → In h u → In h v → Across h u v → A
  no_in hu hv (leaves a b) = clash_ℤ b hv
  no_in hu hv (enters a b) = clash_ℤ a hu

  pass_out : {n z : Point} {ns s : List Point} → All (Out h) (n ∷ ns) → Pass h n ns z s → Added h (final n ns) z s
  pass_out (hn ◂ a) (ends (stays i) d) = clash_ℤ hn i
  pass_out (hn ◂ a) (ends (goes o) d) = d
  pass_out (hn ◂ a) (goes_on (stays i) d p) = clash_ℤ hn i
  pass_out (hn ◂ (hm ◂ a)) (goes_on (goes o) (crossed x y) p) = no_out hn hm x
  pass_out (hn ◂ a) (goes_on (goes o) (uncrossed k) p) = pass_out a p

  pass_in : {f z : Point} {q s : List Point} → All (In h) (f ∷ q) → In h z → Pass h f q z s → s ≡ f ∷ q
  pass_in (hf ◂ a) hz (ends (goes o) d) = clash_ℤ o hf
  pass_in (hf ◂ a) hz (ends (stays i) (crossed x y)) = no_in hf hz x
  pass_in (hf ◂ a) hz (ends (stays i) (uncrossed k)) = refl
  pass_in (hf ◂ a) hz (goes_on (goes o) d p) = clash_ℤ o hf
  pass_in (hf ◂ (hg ◂ a)) hz (goes_on (stays i) (crossed x y) p) = no_in hf hg x
  pass_in {f} (hf ◂ a) hz (goes_on (stays i) (uncrossed k) p) = ap (λ l. f ∷ l) (pass_in a hz p)

  cut_out : {r s : List Point} → All (Out h) r → CutBy h r s → s ≡ []
  cut_out a empty = refl
  cut_out {r = v ∷ vs} (o ◂ a) (round p) = go (pass_out (o ◂ a) p)
    where
      go : {s : List Point} → Added h (final v vs) v s → s ≡ []
      go (crossed x y) = no_out (final_all v vs (o ◂ a)) o x
      go (uncrossed k) = refl

  -- ---- all together
  module _ (l n : Point) (ns : List Point) (hl : In h l) (out : All (Out h) (n ∷ ns)) where
    inside_l : (Across h l n → ⊥) → On h l
    inside_l k = on_unless l hl (λ o. k (leaves o (all_head out)))

    lone : CCW (l ∷ n ∷ ns) → 3 ≤ length (l ∷ n ∷ ns) → {s : List Point} → CutBy h (l ∷ n ∷ ns) s → Remains h (l ∷ n ∷ ns) s
    lone c three (round (goes_on (goes o) d p)) = clash_ℤ o hl
    lone c three (round (goes_on (stays i) d p)) = go d (pass_out out p)
      where
        go : {a b : List Point} → Added h l n a → Added h (final n ns) l b → Remains h (l ∷ n ∷ ns) (l ∷ (a ++ b))
        go (crossed x cx) (crossed y cy) = triangle_left three c cx cy
        go (crossed (leaves x y) cx) (uncrossed k) = absurd (k (enters (final_all n ns out) x))
        go (crossed (enters x y) cx) (uncrossed k) = clash_ℤ x hl
        go (uncrossed k) (crossed (leaves x y) cy) = out_over (final n ns) (final_all n ns out) x
        go (uncrossed k) (crossed (enters x y) cy) = absurd (k (leaves y (all_head out)))
        go (uncrossed k) (uncrossed j) = one_left out (inside_l k)

    many : (f : Point) (q : List Point) → All (In h) (f ∷ q) → CCW (l ∷ n ∷ (ns ++ (f ∷ q))) → {s : List Point} → CutBy h (l ∷ n ∷ (ns ++ (f ∷ q))) s
        → Remains h (l ∷ n ∷ (ns ++ (f ∷ q))) s
    many f q hf c (round (goes_on (goes o) d p)) = clash_ℤ o hl
    many f q hf c (round (goes_on {b = b} (stays i) d p)) =
        let t = pass_split ns p in
        subst (λ s. Remains h (l ∷ n ∷ (ns ++ (f ∷ q))) (l ∷ (b ++ s))) (sym (t.is ∙ ap (λ s. t.a ++ s) (pass_in hf hl t.second))) (go d (pass_out out t.first))
      where
        inside_f : (Across h (final n ns) f → ⊥) → On h f
        inside_f k = on_unless f (all_head hf) (λ o. k (enters (final_all n ns out) o))

        go : {a b : List Point} → Added h l n a → Added h (final n ns) f b → Remains h (l ∷ n ∷ (ns ++ (f ∷ q))) (l ∷ (a ++ (b ++ (f ∷ q))))
        go (crossed x cx) (crossed y cy) = two_crossings l n f ns q c cx cy
        go (crossed x cx) (uncrossed k) = first_crossing l n f ns q c cx (inside_f k)
        go (uncrossed k) (crossed y cy) = second_crossing l n f ns q c (inside_l k) cy
        go (uncrossed k) (uncrossed j) = no_crossing l n f ns q c out (inside_l k) (inside_f j)

  -- back to where the list started
  remains_turned : {r r' s : List Point} → Turned r r' → CutBy h r s → ((t : List Point) → CutBy h r' t → Remains h r' t) → Remains h r s
  remains_turned t c f =
      let k = cut_turned t c in
      let u = turned_back k.turned in
      let g = f k.left k.cut in
      record {
        ccw = ccw_turned u g.ccw;
        edges = λ p i. edges_turned u (g.edges p (edges_turned t i));
        short = let a = turned_length u in let b = turned_length t in let d = g.short in omega arith;
        thin = λ l. let b = turned_length u in turned_all (turned_back t) (g.thin (omega arith));
      }

  -- where the list starts inside
  from_inside : {f : Point} {q s : List Point} → In h f → 3 ≤ length (f ∷ q) → CCW (f ∷ q) → CutBy h (f ∷ q) s → Remains h (f ∷ q) s
  from_inside {f} {q} {s} hf three c (round w) = go (arc h f q hf c)
    where
      go : Arc h (f ∷ q) → Remains h (f ∷ q) s
      go (inside a) =
          subst (Remains h (f ∷ q)) (sym (pass_in a hf w))
          (record { ccw = c; edges = λ p i. edges_map (λ u v. inl) i; short = omega arith; thin = λ t. absurd (omega arith) })
      go (one_run l n ns t hl hn) = remains_turned t (round w) (λ s. lone l n ns hl hn (ccw_turned t c) (let e = turned_length t in omega arith))
      go (two_runs l n ns g k t hl hn hg) = remains_turned t (round w) (λ s. many l n ns hl hn g k hg (ccw_turned t c))

  pub remains : {r s : List Point} → 3 ≤ length r → CCW r → CutBy h r s → Remains h r s
  remains {r} {s} three c d = go (either r (λ u. ⊎_swap (in_out h u)))
    where
      go : All (Out h) r ⊎ Any (In h) r → Remains h r s
      go (inl a) = subst (Remains h r) (sym (cut_out a d)) (record { ccw = ∅ᶜ; edges = λ p i. nothing; short = omega arith; thin = λ t. all_map (λ u. <→≤) a })
      go (inr a) =
          let o = one a in
          let t : Turned r (o.x ∷ (o.back ++ o.front)) = record { front = o.front; back = o.x ∷ o.back; was = o.is; now = refl } in
          remains_turned t d (λ s. from_inside o.holds (let e = turned_length t in omega arith) (ccw_turned t c))
