-- The first pass in memory: what was brought of the outline and the crossings, one after the other, is what the side leaves of it.
use mathlib.Core.Path.{◌≡◌, sym, ap, ◌∙◌, subst}
use mathlib.Core.List.{List, [], ◌++◌}
use Prim.Native.Nat.{ℕ, suc, ◌+◌, ◌-◌, ◌<◌, ◌≤◌}
use native.Mathlib.Omega.{arith}
use lib.Dec.{eqb}
use lib.IntN.{ℤ}
use Rattle.whole.specs.Choice.{when◌then◌else◌}
use Rattle.grid.specs.declared.Window.{Window}
use Rattle.grid.specs.Sides.{Side}
use Rattle.rings.specs.Points.{Line, In, Out}
use Rattle.rings.specs.Cuts.{OnePass}
use Rattle.memory.specs.Memory.{point_in, ring_from, places}
use Rattle.memory.specs.Tagged.{Tagged, corner_in, corners_from, points_of, Brought}
use Rattle.memory.proofs.Memories.{corners_points, corners_split, corners_same}
use Rattle.limits.specs.Sides.{side_line}
use Rattle.crossings.specs.Outlines.{OutlineOnTable}
use Rattle.remains.specs.Runs.{Traced, Goes, Comes}
use Rattle.remains.specs.Remains.{Held, Passed}
use Rattle.remains.proofs.Ends.{Gone}
use Rattle.remains.proofs.Passing.{in_four, cut_stands, keep_stands, leaves_all}
use Rattle.first_pass.proofs.OwnEnds.{CameOwn}

module _ (w : Window) {zs : List ℤ} (s : Side) (g : OutlineOnTable zs) (m : List ℤ) where
  -- ---- of a limit's line h, which is the side's: the first run lies inside, up to the corner a, the second outside, up to b; the third then lies inside
  abbrev FirstCut : Line → ℕ → ℕ → ℕ → Type 0
  FirstCut h a b to =
      Held w zs m (places 0 to) → ((i : ℕ) → 0 ≤ i → i < a → In h (point_in m i)) → ((i : ℕ) → a ≤ i → i < b → Out h (point_in m i)) → (b < to → In h (point_in m b))
      → (m₀ m₁ m₂ m₃ m₄ : List ℤ) (first second : ℕ) → Brought m m₀ m₁ 0 a 0 → Gone w zs s m₁ (a - 1) m₂ first
      → CameOwn w zs s m (b - 1) (point_in m (when eqb b to then 0 else b)) m₂ first m₃ second
      → Brought m m₃ m₄ b to second → Passed w zs s m (places 0 to) m₄ (places 0 (second + (to - b)))

  cut_first : (x y z : ℕ) → FirstCut (side_line w s) (0 + suc x) (0 + suc x + suc y) (0 + suc x + suc y + z)
  cut_first x y z held inside outside back m₀ m₁ m₂ m₃ m₄ first second front g' c behind =
      let a = 0 + suc x in
      let b = 0 + suc x + suc y in
      let gc = g'.count in
      let cc = c.count in
      let n' = x + (gc + (cc + z)) in
      let i₀ : a - 1 ≡ 0 + x = omega arith in
      let i₁ : first ≡ 0 + x + gc = omega (arith, g'.end) in
      let i₂ : second ≡ 0 + x + gc + cc = omega (arith, c.end) in
      let end : 0 + n' ≡ second + (b + z - b) = omega arith in
      let last : corner_in m₁ (a - 1) ≡ corner_in m (0 + x) = ap (corner_in m₁) i₀ ∙ front.brought x (omega arith) in
      let goes = subst (λ (q : Tagged). Goes w zs s q [] g'.t) last g'.goes in
      let o : b - 1 ≡ a + y = omega arith in
      let comes = subst (λ (q : Tagged). Comes w zs s q (point_in m (when eqb b (b + z) then 0 else b)) c.c) (ap (corner_in m) o) c.comes in
      let stays : corners_from m₄ 0 x ≡ corners_from m 0 x =
      corners_same m m₄ 0 0 x (λ i l. behind.before (0 + i) (omega arith) ∙ c.before (0 + i) (omega arith) ∙ g'.before (0 + i) (omega arith)
      ∙ front.brought i (omega arith)) in
      let kept : corners_from m₄ (0 + x) gc ≡ g'.t =
      corners_same m₂ m₄ (a - 1) (0 + x) gc (λ j l. behind.before (0 + x + j) (omega arith) ∙ c.before (0 + x + j) (omega arith)
      ∙ ap (λ (i : ℕ). corner_in m₂ (i + j)) (sym i₀)) ∙ g'.stands in
      let came : corners_from m₄ (0 + x + gc) cc ≡ c.c =
      corners_same m₃ m₄ first (0 + x + gc) cc (λ j l. behind.before (0 + x + gc + j) (omega arith) ∙ ap (λ (i : ℕ). corner_in m₃ (i + j)) (sym i₁)) ∙ c.stands in
      let tail : corners_from m₄ (0 + x + gc + cc) z ≡ corners_from m b z =
      corners_same m m₄ b (0 + x + gc + cc) z (λ j l. ap (λ (i : ℕ). corner_in m₄ (i + j)) (sym i₂) ∙ behind.brought j (omega arith)) in
      subst (λ (k : ℕ). Passed w zs s m (places 0 (b + z)) m₄ (places 0 k)) end
      (cut_stands w s g m 0 x y z held inside outside back goes comes m₄ 0 n'
      (in_four m₄ 0 x gc cc z stays kept (corners_split m₄ (0 + x + gc) cc z ∙ (λ j. came j ++ tail j))) (omega (arith, g'.few, c.few)))

  pub first_cut : {h : Line} → h ≡ side_line w s → {a b to : ℕ} → 0 < a → a < b → b ≤ to → FirstCut h a b to
  first_cut q {a} {b} {to} l k j =
      let x = a - 1 in
      let y = b - suc a in
      let z = to - b in
      let a' : 0 + suc x ≡ a = omega arith in
      let b' : a + suc y ≡ b = omega arith in
      let to' : b + z ≡ to = omega arith in
      subst (λ (h : Line). FirstCut h a b to) (sym q)
      (subst (FirstCut (side_line w s) a b) to'
      (subst (λ (b : ℕ). FirstCut (side_line w s) a b (b + z)) b'
      (subst (λ (a : ℕ). FirstCut (side_line w s) a (a + suc y) (a + suc y + z)) a' (cut_first x y z))))

  -- ---- the first run lies outside, up to the corner f, the second inside, up to e; the third then lies outside
  abbrev FirstKeep : Line → ℕ → ℕ → ℕ → Type 0
  FirstKeep h f e to =
      Held w zs m (places 0 to) → ((i : ℕ) → 0 ≤ i → i < f → Out h (point_in m i)) → ((i : ℕ) → f ≤ i → i < e → In h (point_in m i)) → (e < to → Out h (point_in m e))
      → (m₀ m₁ m₂ m₃ : List ℤ) (start end : ℕ) → CameOwn w zs s m (f - 1) (point_in m f) m₀ 0 m₁ start → Brought m m₁ m₂ f e start
      → Gone w zs s m₂ (start + (e - f) - 1) m₃ end
      → Passed w zs s m (places 0 to) m₃ (places 0 end)

  keep_first : (y x z : ℕ) → FirstKeep (side_line w s) (0 + suc y) (0 + suc y + suc x) (0 + suc y + suc x + z)
  keep_first y x z held outside inside back m₀ m₁ m₂ m₃ start end c mid g' =
      let f = 0 + suc y in
      let e = 0 + suc y + suc x in
      let gc = g'.count in
      let cc = c.count in
      let n' = cc + (x + gc) in
      let i₀ : start + (e - f) - 1 ≡ start + x = omega arith in
      let i₁ : start ≡ 0 + cc = c.end in
      let is : 0 + n' ≡ end = omega (arith, g'.end) in
      let o : f - 1 ≡ 0 + y = omega arith in
      let comes = subst (λ (q : Tagged). Comes w zs s q (point_in m f) c.c) (ap (corner_in m) o) c.comes in
      let last : corner_in m₂ (start + (e - f) - 1) ≡ corner_in m (f + x) = ap (corner_in m₂) i₀ ∙ mid.brought x (omega arith) in
      let goes = subst (λ (q : Tagged). Goes w zs s q [] g'.t) last g'.goes in
      let came : corners_from m₃ 0 cc ≡ c.c = corners_same m₁ m₃ 0 0 cc (λ j l. g'.before (0 + j) (omega arith) ∙ mid.before (0 + j) (omega arith)) ∙ c.stands in
      let stays : corners_from m₃ (0 + cc) x ≡ corners_from m f x =
      corners_same m m₃ f (0 + cc) x (λ j l. ap (λ (i : ℕ). corner_in m₃ (i + j)) (sym i₁) ∙ g'.before (start + j) (omega arith) ∙ mid.brought j (omega arith)) in
      let i₂ : 0 + cc + x ≡ start + (e - f) - 1 = omega arith in
      let kept : corners_from m₃ (0 + cc + x) gc ≡ g'.t = ap (λ (i : ℕ). corners_from m₃ i gc) i₂ ∙ g'.stands in
      let stands : corners_from m₃ 0 n' ≡ c.c ++ (corners_from m f x ++ g'.t) =
      corners_split m₃ 0 cc (x + gc) ∙ (λ j. came j ++ (corners_split m₃ (0 + cc) x gc ∙ (λ i. stays i ++ kept i)) j) in
      subst (λ (k : ℕ). Passed w zs s m (places 0 (e + z)) m₃ (places 0 k)) is (keep_stands w s g m 0 y x z held outside inside back comes goes m₃ 0 n' stands
      (omega (arith, g'.few, c.few)))

  pub first_keep : {h : Line} → h ≡ side_line w s → {f e to : ℕ} → 0 < f → f < e → e ≤ to → FirstKeep h f e to
  first_keep q {f} {e} {to} l k j =
      let y = f - 1 in
      let x = e - suc f in
      let z = to - e in
      let f' : 0 + suc y ≡ f = omega arith in
      let e' : f + suc x ≡ e = omega arith in
      let to' : e + z ≡ to = omega arith in
      subst (λ (h : Line). FirstKeep h f e to) (sym q)
      (subst (FirstKeep (side_line w s) f e) to'
      (subst (λ (e : ℕ). FirstKeep (side_line w s) f e (e + z)) e'
      (subst (λ (f : ℕ). FirstKeep (side_line w s) f (f + suc x) (f + suc x + z)) f' (keep_first y x z))))

  -- ---- all corners lie inside
  pub first_all : {h : Line} → h ≡ side_line w s → {to : ℕ} → Held w zs m (places 0 to) → ((i : ℕ) → 0 ≤ i → i < to → In h (point_in m i))
      → (m₀ m₁ : List ℤ) → Brought m m₀ m₁ 0 to 0 → Passed w zs s m (places 0 to) m₁ (places 0 to)
  first_all q {to} held inside m₀ m₁ b =
      let e : corners_from m 0 (to - 0) ≡ corners_from m₁ 0 (to - 0) = sym (corners_same m m₁ 0 0 (to - 0) (λ k l. b.brought k (omega arith))) in
      let r : ring_from m 0 (to - 0) ≡ ring_from m₁ 0 (to - 0) = sym (corners_points m 0 (to - 0)) ∙ ap points_of e ∙ corners_points m₁ 0 (to - 0) in
      let p = leaves_all {s = s} q (omega arith) held inside in
      record {
        order = p.order;
        end = p.end;
        pass = subst (OnePass (side_line w s) (ring_from m 0 (to - 0))) r p.pass;
        traced = subst (Traced w zs) e p.traced;
      }
