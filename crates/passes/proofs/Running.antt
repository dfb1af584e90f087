-- Each pass leaves a ring that ends at most one place later, which the remaining passes go on from, or no area; a side with no corner of the outline outside
-- leaves the ring as it is.
use mathlib.Core.Path.{◌≡◌, refl, sym, ap, ◌∙◌, subst, transport}
use mathlib.Core.Bool.{Bool, false}
use mathlib.Core.List.{List, [], ◌∷◌, ◌++◌, append-nil, append_assoc}
use mathlib.Core.Option.{none}
use Prim.Native.Nat.{ℕ, zero, suc, ◌+◌, ◌-◌, ◌*◌, ◌/◌, ◌<◌, ◌≤◌}
use native.Mathlib.Nat.{sub-zero}
use native.Mathlib.Numerals.{add-one}
use native.Mathlib.Omega.{arith}
use lib.IntN.{ℤ}
use lib.ListN.{length, take, drop, set, replicate, get_or, drop_of_length-le, get_or-replicate}
use lib.Seq.{take-suc, take-suc-set}
use Rattle.grid.specs.declared.Window.{Window}
use Rattle.grid.specs.Sides.{Side, place_of}
use Rattle.rings.specs.Lists.{All}
use Rattle.rings.specs.Points.{Point, Line, In}
use Rattle.rings.specs.Rings.{Ring}
use Rattle.rings.specs.Cuts.{OneCut, Cuts, cut, gone, Passes, no_pass, pass}
use Rattle.rings.proofs.Lists.{all_map}
use Rattle.rings.proofs.Fan.{corners_in}
use Rattle.rings.proofs.Theorems.{convex_ccw, fan, one_pass}
use Rattle.convex.specs.Corners.{corners_of}
use Rattle.memory.specs.declared.Places.{Places}
use Rattle.memory.specs.Memory.{places, ring_at}
use Rattle.memory.specs.Tagged.{loaded_of}
use Rattle.memory.proofs.Memories.{ring_length, ring_all}
use Rattle.limits.specs.Sides.{side_line}
use Rattle.limits.proofs.Sides.{side_line_real}
use Rattle.limits.proofs.Owned.{Loaded, loaded_of_lem}
use Rattle.crossings.specs.Outlines.{OutlineOnTable}
use Rattle.convex.proofs.Places.{count as corner-count}
use Rattle.remains.specs.Remains.{Passed}
use Rattle.remains.proofs.Pieces.{cut_nothing}
use Rattle.remains.proofs.Held.{small_in}
use Rattle.remains.proofs.Loaded.{ring_loaded, loaded_held}
use Rattle.passes.specs.Orders.{side_in, lines_in}
use Rattle.passes.specs.Passes.{Cutting, Running, Ran, area}
use Rattle.passes.proofs.Orders.{lines_length, lines_from}

-- ---- each corner that a cut leaves lies in the ring
cut_in : {h : Line} {r s : List Point} (g : Line) → Ring r → OneCut h r s → 3 ≤ length s → All (In g) r → All (In g) s
cut_in {r = r} {s} g o d l a = all_map (λ p i. fan g p r o ((d.points l p).0 i).0 a) (corners_in ((convex_ccw s).0 (d.ring l).convex))

-- ---- the passes in turn
pub run_begun : {w : Window} {o : ℕ} {zs m : List ℤ} → OutlineOnTable zs → Loaded zs m (length zs / 2) → Running w o zs m (places 0 (length zs / 2)) 0 []
run_begun {w} {o} t l = record {
  held = loaded_held t l w;
  order = omega arith;
  room = omega arith;
  inside = λ h a. subst (All (In h)) (sym (ring_loaded t l)) a;
  so_far = λ r ks c. subst (λ (q : List Point). Passes (lines_in o w) q ks r) (ring_loaded t l) c;
  none_so_far = λ c. subst (λ (q : List Point). Cuts (lines_in o w) q none) (ring_loaded t l) c;
}

-- a side with no corner of the outline outside leaves the ring as it is
pub passed_over : {w : Window} {o : ℕ} {zs m : List ℤ} {p : Places} {k : ℕ} {ns : List ℕ} (s : Side) → All (In (side_line w s)) (corners_of zs)
    → Running w o zs m p k ns → Passed w zs s m p m p
passed_over {w} s a r = record {
  order = r.order;
  end = omega arith;
  pass = one_pass (side_line_real w s) r.held.ring (cut_nothing (r.inside (side_line w s) a));
  traced = r.held.traced;
}

module _ {w : Window} {o : ℕ} {zs m m' : List ℤ} {p p' : Places} {k : ℕ} {ns : List ℕ} {s : Side} (ho : o ≤ 23) (hk : k < 4) (is : s ≡ side_in o k)
    (c : Passed w zs s m p m' p') (r : Running w o zs m p k ns) where
  -- the lines from the k-th on
  lines : drop k (lines_in o w) ≡ side_line w s ∷ drop (suc k) (lines_in o w)
  lines = lines_from o w ho k hk ∙ ap (λ (j : Side). side_line w j ∷ drop (suc k) (lines_in o w)) (sym is)

  goes_on : (t : List Point) (ks : List ℕ) → Passes (side_line w s ∷ drop (suc k) (lines_in o w)) (ring_at m p) ks t
      → Passes (lines_in o w) (corners_of zs) (ns ++ ks) t
  goes_on t ks d = r.so_far t ks (subst (λ (hs : List Line). Passes hs (ring_at m p) ks t) (sym lines) d)

  none_goes_on : Cuts (side_line w s ∷ drop (suc k) (lines_in o w)) (ring_at m p) none → Cuts (lines_in o w) (corners_of zs) none
  none_goes_on d = r.none_so_far (subst (λ (hs : List Line). Cuts hs (ring_at m p) none) (sym lines) d)

  count : length (ring_at m' p') ≡ p'.to - p'.from
  count = ring_length m' p'.from (p'.to - p'.from)

  pub run_gone : p'.to - p'.from < 3 → Cuts (lines_in o w) (corners_of zs) none
  run_gone h = none_goes_on (gone c.pass (omega (arith, count)))

  pub run_more : 3 ≤ p'.to - p'.from → Running w o zs m' p' (k + 1) (ns ++ ((p'.to - p'.from) ∷ []))
  run_more h =
      let l : 3 ≤ length (ring_at m' p') = omega (arith, count) in
      let next : drop (k + 1) (lines_in o w) ≡ drop (suc k) (lines_in o w) = ap (λ (j : ℕ). drop j (lines_in o w)) (add-one k) in
      record {
        held = record { ring = c.pass.promise.ring l; traced = c.traced };
        order = c.order;
        room = omega (arith, c.end, r.room);
        inside = λ h a. cut_in h r.held.ring c.pass.promise l (r.inside h a);
        so_far = λ t ks d.
            let counted : ns ++ (length (ring_at m' p') ∷ ks) ≡ (ns ++ ((p'.to - p'.from) ∷ [])) ++ ks =
            ap (λ (n : ℕ). ns ++ (n ∷ ks)) count ∙ sym (append_assoc ns ((p'.to - p'.from) ∷ []) ks) in
            subst (λ (ls : List ℕ). Passes (lines_in o w) (corners_of zs) ls t) counted
            (goes_on t (length (ring_at m' p') ∷ ks) (pass c.pass l (subst (λ (hs : List Line). Passes hs (ring_at m' p') ks t) next d)));
        none_so_far = λ d. none_goes_on (cut c.pass l (subst (λ (hs : List Line). Cuts hs (ring_at m' p') none) next d));
      }

-- with its count in its place
pub run_counted : {w : Window} {o : ℕ} {zs m m' : List ℤ} {p p' : Places} {k : ℕ} (cs : List ℕ) {s : Side} → o ≤ 23 → k < 4 → s ≡ side_in o k → k < length cs
    → Passed w zs s m p m' p' → Running w o zs m p k (take k cs) → 3 ≤ p'.to - p'.from
    → Running w o zs m' p' (k + 1) (take (k + 1) (set cs k (p'.to - p'.from)))
run_counted {w} {o} {zs} {m' = m'} {p' = p'} {k} cs ho hk is l c r h =
    let n = p'.to - p'.from in
    let counted : take k cs ++ (n ∷ []) ≡ take (k + 1) (set cs k n) = sym (ap (λ (j : ℕ). take j (set cs k n)) (add-one k) ∙ take-suc-set cs k n l) in
    subst (Running w o zs m' p' (k + 1)) counted (run_more ho hk is c r h)

-- the first k sides in an order, of which none cuts: each leaves all corners
pub run_skipped : {w : Window} {o : ℕ} {zs : List ℤ} → OutlineOnTable zs → o ≤ 23 → (k : ℕ) → k ≤ 4
    → ((j : ℕ) → j < k → All (In (side_line w (side_in o j))) (corners_of zs))
    → Running w o zs (loaded_of zs) (places 0 (length zs / 2)) k (take k (replicate 4 (length zs / 2)))
run_skipped {zs = zs} t h zero l f = run_begun t (loaded_of_lem zs)
run_skipped {w} {o} {zs} t h (suc k) l f =
    let n = length zs / 2 in
    let r = run_skipped t h k (omega arith) (λ j b. f j (omega arith)) in
    let counted : take k (replicate 4 n) ++ (n ∷ []) ≡ take (suc k) (replicate 4 n) =
    sym (take-suc (replicate 4 n) k 0 (omega arith) ∙ ap (λ (c : ℕ). take k (replicate 4 n) ++ (c ∷ [])) (get_or-replicate 4 k n 0 (omega arith))) in
    transport (λ j. Running w o zs (loaded_of zs) (places 0 n) (add-one k j) ((ap (λ (c : ℕ). take k (replicate 4 n) ++ (c ∷ [])) (sub-zero n) ∙ counted) j))
    (run_more h (omega arith) refl (passed_over (side_in o k) (f k (omega arith)) r) r (omega (arith, t.corners.three)))

pub run_ended : {w : Window} {o : ℕ} {zs m : List ℤ} {p : Places} {cs : List ℕ} → o ≤ 23 → 2 * length zs + 16 ≤ length m → Running w o zs m p 4 cs
    → Ran w o zs m (record { places = p; counts = cs })
run_ended {w} {o} {zs} {m} {p} {cs} h size r =
    let n = p.to - p.from in
    let end : drop 4 (lines_in o w) ≡ [] = drop_of_length-le (lines_in o w) {i = 4} (omega (arith, lines_length o w h)) in
    area r.order (omega (arith, r.room)) (omega (arith, r.held.ring.three, ring_length m p.from n)) (omega (arith, r.room, corner-count zs))
    (subst (λ (ks : List ℕ). Passes (lines_in o w) (corners_of zs) ks (ring_at m p)) (append-nil cs)
    (r.so_far (ring_at m p) [] (subst (λ (hs : List Line). Passes hs (ring_at m p) [] (ring_at m p)) (sym end) no_pass)))
    (ring_all m p.from n (λ j a b. small_in r.held j a (omega arith)))

-- the first pass: the sides before the k-th in the order cut nothing off
module _ {w : Window} {o : ℕ} {zs m' : List ℤ} {p' : Places} {k : ℕ} {s : Side} (cs : List Bool) (t : OutlineOnTable zs) (ho : o ≤ 23) (hk : k ≤ 3) (cutting : Cutting w zs cs)
    (uncut : (j : ℕ) → j < k → get_or cs (place_of (side_in o j)) false ≡ false) (is : s ≡ side_in o k)
    (c : Passed w zs s (loaded_of zs) (places 0 (length zs / 2)) m' p') where
  skipped : Running w o zs (loaded_of zs) (places 0 (length zs / 2)) k (take k (replicate 4 (length zs / 2)))
  skipped = run_skipped t ho k (omega arith) (λ j l. cutting (side_in o j) (uncut j l))

  pub first_gone : p'.to - p'.from < 3 → Cuts (lines_in o w) (corners_of zs) none
  first_gone h = run_gone ho (omega arith) is c skipped h

  pub first_more : 3 ≤ p'.to - p'.from → Running w o zs m' p' (k + 1) (take (k + 1) (set (replicate 4 (length zs / 2)) k (p'.to - p'.from)))
  first_more h = run_counted (replicate 4 (length zs / 2)) ho (omega arith) is (omega arith) c skipped h
