-- A pass by places in memory: where the runs of a ring lie inside and outside, what is left of them stands in a row, and that is what the side leaves of it.
use mathlib.Core.Path.{◌≡◌, refl, sym, ap, ◌∙◌, subst, transport}
use mathlib.Core.List.{List, [], ◌∷◌, ◌++◌, append_assoc}
use Prim.Native.Nat.{ℕ, zero, suc, ◌+◌, ◌-◌, ◌<◌, ◌≤◌}
use native.Mathlib.Nat.{add-zero}
use native.Mathlib.Omega.{arith}
use borrow.Author.Tests.{eq-eqb, ne_eqb}
use lib.Dec.{eqb}
use lib.IntN.{ℤ}
use Rattle.whole.specs.Choice.{when◌then◌else◌}
use Rattle.grid.specs.declared.Window.{Window}
use Rattle.grid.specs.Sides.{Side}
use Rattle.rings.specs.Lists.{All, ∅, ◌◂◌, nothing}
use Rattle.rings.specs.Points.{Point, Line, In, Out}
use Rattle.rings.specs.Rings.{Ring}
use Rattle.rings.specs.Cuts.{CutBy}
use Rattle.rings.proofs.Theorems.{rest_inside, rest_outside, one_pass}
use Rattle.memory.specs.Memory.{point_in, ring_from, places}
use Rattle.limits.specs.Sides.{side_line}
use Rattle.limits.proofs.Sides.{side_line_real}
use Rattle.crossings.specs.Outlines.{OutlineOnTable}
use Rattle.memory.specs.Tagged.{Tagged, corner_in, corners_from, points_of}
use Rattle.remains.specs.Runs.{Traced, Goes, Comes, more}
use Rattle.remains.specs.Remains.{Held, Passed}
use Rattle.memory.proofs.Memories.{corners_points, corners_split, tagged_all, corners_final, ring_split, ring_all}
use Rattle.remains.proofs.Pieces.{next_of, cut_nothing, keep_none, cut_middle, keep_middle}

-- ---- a run that stays, and its last corner
goes_from : {w : Window} {zs : List ℤ} {s : Side} {t : List Tagged} (m : List ℤ) (i x : ℕ) → Goes w zs s (corner_in m (i + x)) [] t
    → Goes w zs s (corner_in m i) (corners_from m (suc i) x) (corners_from m i x ++ t)
unfolding corners_from
goes_from {w} {zs} {s} {t} m i zero g = subst (λ (k : ℕ). Goes w zs s (corner_in m k) [] t) (add-zero i) g
goes_from {w} {zs} {s} {t} m i (suc x) g = more (goes_from m (suc i) x (subst (λ (k : ℕ). Goes w zs s (corner_in m k) [] t) (omega arith) g))

-- ---- a ring in three runs
three : (m : List ℤ) (i x y z : ℕ)
    → corners_from m i (suc x + (suc y + z))
    ≡ corner_in m i ∷ (corners_from m (suc i) x ++ (corner_in m (i + suc x) ∷ (corners_from m (suc (i + suc x)) y ++ corners_from m (i + suc x + suc y) z)))
unfolding corners_from
three m i x y z = corners_split m i (suc x) (suc y + z) ∙ ap (λ (r : List Tagged). corners_from m i (suc x) ++ r) (corners_split m (i + suc x) (suc y) z)

three_points : (m : List ℤ) (i x y z : ℕ) → ring_from m i (suc x + (suc y + suc z))
    ≡ point_in m i ∷ (ring_from m (suc i) x ++ (point_in m (i + suc x) ∷ (ring_from m (suc (i + suc x)) y
    ++ (point_in m (i + suc x + suc y) ∷ ring_from m (suc (i + suc x + suc y)) z))))
unfolding ring_from
three_points m i x y z = ring_split m i (suc x) (suc y + suc z) ∙ ap (λ (r : List Point). ring_from m i (suc x) ++ r) (ring_split m (i + suc x) (suc y) (suc z))

all_corners : {P : Point → Type 0} (m : List ℤ) (i n : ℕ) → All P (ring_from m i n) → All (λ c. P c.point) (corners_from m i n)
unfolding ring_from corners_from
all_corners m i zero ∅ = ∅
all_corners m i (suc n) (p ◂ a) = p ◂ all_corners m (suc i) n a

-- four parts of a memory, one after the other
pub in_four : (m : List ℤ) (i x gc cc z : ℕ) {p t r : List Tagged} → corners_from m i x ≡ p → corners_from m (i + x) gc ≡ t
    → corners_from m (i + x + gc) (cc + z) ≡ r → corners_from m i (x + (gc + (cc + z))) ≡ (p ++ t) ++ r
in_four m i x gc cc z {p} {t} {r} first second rest =
    corners_split m i x (gc + (cc + z)) ∙ ap (λ (q : List Tagged). corners_from m i x ++ q) (corners_split m (i + x) gc (cc + z))
    ∙ (λ j. first j ++ (second j ++ rest j)) ∙ sym (append_assoc p t r)

-- what a pass promises, of corners
passed : {w : Window} {zs : List ℤ} {s : Side} (m m' : List ℤ) (i n i' n' : ℕ) {cs ls : List Tagged} → Ring (ring_from m i n)
    → corners_from m i n ≡ cs → corners_from m' i' n' ≡ ls → n' + i' ≤ suc (n + i)
    → CutBy (side_line w s) (points_of cs) (points_of ls) × Traced w zs ls → Passed w zs s m (places i (i + n)) m' (places i' (i' + n'))
passed {w} {zs} {s} m m' i n i' n' g e f l (c, t) =
    let a : i + n - i ≡ n = omega arith in
    let b : i' + n' - i' ≡ n' = omega arith in
    record {
      order = omega arith;
      end = omega arith;
      pass = one_pass (side_line_real w s) (subst (λ (k : ℕ). Ring (ring_from m i k)) (sym a) g)
          (transport (λ j. CutBy (side_line w s) ((ap points_of (sym e) ∙ corners_points m i n ∙ ap (ring_from m i) (sym a)) j)
          ((ap points_of (sym f) ∙ corners_points m' i' n' ∙ ap (ring_from m' i') (sym b)) j)) c);
      traced = subst (Traced w zs) (sym f ∙ ap (corners_from m' i') (sym b)) t;
    }

module _ (w : Window) {zs : List ℤ} (s : Side) (g : OutlineOnTable zs) where
  abbrev h : Line
  h = side_line w s

  -- ---- the first run lies inside, up to the place a, the second outside, up to b; the third then lies inside
  module _ (m : List ℤ) (from x y : ℕ) where
    abbrev a : ℕ
    a = from + suc x

    abbrev b : ℕ
    b = from + suc x + suc y

    third_in : (z : ℕ) → Ring (ring_from m from (suc x + (suc y + z))) → In h (point_in m from) → Out h (point_in m a) → (b < b + z → In h (point_in m b))
        → All (In h) (ring_from m b z)
    unfolding ring_from
    third_in zero r u n k = ∅
    third_in (suc z) r u n k =
        rest_inside h (point_in m a) (ring_from m (suc from) x) (ring_from m (suc a) y) (subst Ring (three_points m from x y z) r) u n (k (omega arith))

    next_point : (z : ℕ) → point_in m (when eqb b (b + z) then from else b) ≡ (next_of (corners_from m b z) (corner_in m from)).point
    unfolding corners_from
    next_point zero = simp (eq-eqb b (b + 0) (sym (add-zero b)))
    next_point (suc z) = simp (ne_eqb b (b + suc z) (λ (e : b ≡ b + suc z). absurd (omega arith)))

    -- what is left stands in a memory m' from the place at on: the first run up to its last corner, the corners t and c at the ends of the second, and the third
    pub cut_stands : (z : ℕ) → Held w zs m (places from (b + z)) → ((i : ℕ) → from ≤ i → i < a → In h (point_in m i))
        → ((i : ℕ) → a ≤ i → i < b → Out h (point_in m i)) → (b < b + z → In h (point_in m b))
        → {t c : List Tagged} → Goes w zs s (corner_in m (from + x)) [] t → Comes w zs s (corner_in m (a + y)) (point_in m (when eqb b (b + z) then from else b)) c
        → (m' : List ℤ) (at n' : ℕ) → corners_from m' at n' ≡ (corners_from m from x ++ t) ++ (c ++ corners_from m b z) → n' + at ≤ suc (b + z)
        → Passed w zs s m (places from (b + z)) m' (places at (at + n'))
    unfolding corners_from
    cut_stands z held inside outside back {t} {c} goes comes m' at n' stands few =
        let n = suc x + (suc y + z) in
        let size : b + z - from ≡ n = omega arith in
        let whole : from + n ≡ b + z = omega arith in
        let comes' = transport (λ j. Comes w zs s (sym (corners_final m a y) j) (next_point z j) c) comes in
        let ring = subst (λ (n : ℕ). Ring (ring_from m from n)) size held.ring in
        let all_in =
        all_corners m b z (third_in z ring (inside from (omega arith) (omega arith))
        (outside a (omega arith) (omega arith)) back) in
        let traced = subst (Traced w zs) (ap (corners_from m from) size ∙ three m from x y z) held.traced in
        subst (λ (k : ℕ). Passed w zs s m (places from k) m' (places at (at + n'))) whole
        (passed m m' from n at n' ring (three m from x y z) stands (omega arith)
        (cut_middle w s g traced (tagged_all m from (suc x) inside) (tagged_all m a (suc y) outside) all_in (goes_from m from x goes) comes'))

  -- ---- the first run lies outside, up to the place f, the second inside, up to e; the third then lies outside
  module _ (m : List ℤ) (from y x : ℕ) where
    abbrev f : ℕ
    f = from + suc y

    abbrev e : ℕ
    e = from + suc y + suc x

    third_out : (z : ℕ) → Ring (ring_from m from (suc y + (suc x + z))) → Out h (point_in m from) → In h (point_in m f) → (e < e + z → Out h (point_in m e))
        → All (Out h) (ring_from m e z)
    unfolding ring_from
    third_out zero r n u k = ∅
    third_out (suc z) r n u k =
        rest_outside h (point_in m f) (ring_from m (suc from) y) (ring_from m (suc f) x) (subst Ring (three_points m from y x z) r) n u (k (omega arith))

    -- what is left stands in a memory m' from the place at on: the corners c at the beginning of the second run, that run up to its last corner, and the
    -- corners t there
    pub keep_stands : (z : ℕ) → Held w zs m (places from (e + z)) → ((i : ℕ) → from ≤ i → i < f → Out h (point_in m i))
        → ((i : ℕ) → f ≤ i → i < e → In h (point_in m i)) → (e < e + z → Out h (point_in m e))
        → {c t : List Tagged} → Comes w zs s (corner_in m (from + y)) (point_in m f) c → Goes w zs s (corner_in m (f + x)) [] t
        → (m' : List ℤ) (at n' : ℕ) → corners_from m' at n' ≡ c ++ (corners_from m f x ++ t) → n' + at ≤ suc (e + z)
        → Passed w zs s m (places from (e + z)) m' (places at (at + n'))
    unfolding corners_from
    keep_stands z held outside inside back {c} comes goes m' at n' stands few =
        let n = suc y + (suc x + z) in
        let size : e + z - from ≡ n = omega arith in
        let whole : from + n ≡ e + z = omega arith in
        let comes' = subst (λ (q : Tagged). Comes w zs s q (point_in m f) c) (sym (corners_final m from y)) comes in
        let ring = subst (λ (n : ℕ). Ring (ring_from m from n)) size held.ring in
        let all_out =
        all_corners m e z (third_out z ring (outside from (omega arith) (omega arith))
        (inside f (omega arith) (omega arith)) back) in
        let traced = subst (Traced w zs) (ap (corners_from m from) size ∙ three m from y x z) held.traced in
        subst (λ (k : ℕ). Passed w zs s m (places from k) m' (places at (at + n'))) whole
        (passed m m' from n at n' ring (three m from y x z) stands (omega arith)
        (keep_middle w s g traced (tagged_all m from (suc y) outside) (tagged_all m f (suc x) inside) all_out comes' (goes_from m f x goes)))

-- ---- all corners lie inside, or all outside, of a limit whose line h is the side's
module _ {w : Window} {zs : List ℤ} {s : Side} {h : Line} (q : h ≡ side_line w s) {m : List ℤ} {i k : ℕ} (l : i ≤ k) where
  pub leaves_all : Held w zs m (places i k) → ((j : ℕ) → i ≤ j → j < k → In h (point_in m j)) → Passed w zs s m (places i k) m (places i k)
  leaves_all held f = record {
    order = l;
    end = omega arith;
    pass = one_pass (side_line_real w s) held.ring
        (subst (λ (h : Line). CutBy h (ring_from m i (k - i)) (ring_from m i (k - i))) q (cut_nothing (ring_all m i (k - i) (λ j a b. f j a (omega arith)))));
    traced = held.traced;
  }

  pub leaves_none : Held w zs m (places i k) → (m' : List ℤ) → ((j : ℕ) → i ≤ j → j < k → Out h (point_in m j))
      → Passed w zs s m (places i k) m' (places i i)
  unfolding corners_from points_of
  leaves_none held m' f =
      let e : i + (k - i) ≡ k = omega arith in
      let z : i + 0 ≡ i = add-zero i in
      let none : CutBy h (points_of (corners_from m i (k - i))) [] = keep_none (tagged_all m i (k - i) (λ j a b. f j a (omega arith))) in
      transport (λ j. Passed w zs s m (places i (e j)) m' (places i (z j)))
      (passed m m' i (k - i) i 0 held.ring refl refl (omega arith) (
        subst (λ (h : Line). CutBy h (points_of (corners_from m i (k - i))) []) q none,
        record { small = ∅; lies = nothing },
      ))
