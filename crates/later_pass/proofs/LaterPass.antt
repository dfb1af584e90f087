-- A pass over a ring in memory: the run that stays, the crossings where they were put and what was moved are, by their places, what the side leaves of the ring.
use mathlib.Core.Path.{◌≡◌, sym, ap, ◌∙◌, subst}
use mathlib.Core.List.{List, [], ◌++◌}
use mathlib.Core.Logic.{inl, inr}
use Prim.Native.Nat.{ℕ, suc, ◌+◌, ◌-◌, ◌<◌, ◌≤◌}
use native.Mathlib.Omega.{arith}
use lib.Dec.{eqb}
use lib.IntN.{ℤ}
use Rattle.whole.specs.Choice.{when◌then◌else◌}
use Rattle.grid.specs.declared.Window.{Window}
use Rattle.grid.specs.Sides.{Side}
use Rattle.rings.specs.Points.{Line, In, Out}
use Rattle.memory.specs.Memory.{point_in, places}
use Rattle.memory.specs.Tagged.{Tagged, corner_in, corners_from, Brought}
use Rattle.memory.proofs.Memories.{corners_split, corners_same}
use Rattle.limits.specs.Sides.{side_line}
use Rattle.crossings.specs.Outlines.{OutlineOnTable}
use Rattle.remains.specs.Runs.{Goes, Comes}
use Rattle.remains.specs.Remains.{Held, Passed}
use Rattle.remains.proofs.Ends.{Gone}
use Rattle.remains.proofs.Passing.{in_four, cut_stands, keep_stands}
use Rattle.later_pass.proofs.Entering.{Come}

module _ (w : Window) {zs : List ℤ} (s : Side) (g : OutlineOnTable zs) where
  -- ---- of a limit's line h, which is the side's: the first run lies inside, up to the place a, the second outside, up to b; the third then lies inside
  abbrev CutOut : Line → List ℤ → ℕ → ℕ → ℕ → ℕ → Type 0
  CutOut h m from a b to =
      Held w zs m (places from to) → ((i : ℕ) → from ≤ i → i < a → In h (point_in m i)) → ((i : ℕ) → a ≤ i → i < b → Out h (point_in m i)) → (b < to → In h (point_in m b))
      → (m₁ m₂ m₃ m₄ : List ℤ) (k second first : ℕ) → a < b - 1 + k → Brought m m m₁ a to (a + k)
      → Come w zs s m₁ (b - 1 + k) (point_in m (when eqb b to then from else b)) m₂ second
      → Gone w zs s m₂ (a - 1) m₃ first → Brought m₃ m₃ m₄ second (to + k) first → Passed w zs s m (places from to) m₄ (places from (first + (to + k - second)))

  module _ (m : List ℤ) (from x y : ℕ) where
    abbrev a : ℕ
    a = from + suc x

    abbrev b : ℕ
    b = from + suc x + suc y

    cut_runs : (z : ℕ) → CutOut (side_line w s) m from a b (b + z)
    cut_runs z held inside outside back m₁ m₂ m₃ m₄ k second first two up c g' down =
        let bs = corners_from m b z in
        let gc = g'.count in
        let cc = c.count in
        let low : first ≤ second = omega (arith, g'.end, g'.few, c.start, c.few) in
        let n' = x + (gc + (cc + z)) in
        let end : from + n' ≡ first + (b + z + k - second) = omega (arith, g'.end, c.start) in
        let i₀ : a - 1 ≡ from + x = omega arith in
        let stays : corners_from m₄ from x ≡ corners_from m from x =
        corners_same m m₄ from from x
        (λ i l. down.before (from + i) (omega (arith, g'.end)) ∙ g'.before (from + i) (omega arith) ∙ c.others (from + i) (inl (omega arith))
        ∙ up.before (from + i) (omega arith)) in
        let last : corner_in m₂ (a - 1) ≡ corner_in m (from + x) = c.others (a - 1) (inl (omega arith)) ∙ up.before (a - 1) (omega arith) ∙ ap (corner_in m) i₀ in
        let goes = subst (λ (c : Tagged). Goes w zs s c [] g'.t) last g'.goes in
        let o : b - 1 + k ≡ a + k + y = omega arith in
        let outer : corner_in m₁ (b - 1 + k) ≡ corner_in m (a + y) = ap (corner_in m₁) o ∙ up.brought y (omega arith) in
        let comes = subst (λ (q : Tagged). Comes w zs s q (point_in m (when eqb b (b + z) then from else b)) c.c) outer c.comes in
        let tail : corners_from m₂ (second + cc) z ≡ bs =
        corners_same m m₂ b (second + cc) z
        (λ j l. let i : second + cc + j ≡ a + k + (suc y + j) = omega (arith, c.start) in let i' : a + (suc y + j) ≡ b + j = omega arith in
        c.others (second + cc + j) (inr (omega (arith, c.start))) ∙ ap (corner_in m₁) i ∙ up.brought (suc y + j) (omega arith) ∙ ap (corner_in m) i') in
        let i₁ : first ≡ from + x + gc = omega (arith, g'.end) in
        let moved : corners_from m₄ (from + x + gc) (cc + z) ≡ c.c ++ bs =
        corners_same m₂ m₄ second (from + x + gc) (cc + z) (λ j l. ap (λ (i : ℕ). corner_in m₄ (i + j)) (sym i₁) ∙ down.brought j (omega (arith, c.start))
        ∙ g'.after (second + j) (omega arith))
        ∙ corners_split m₂ second cc z ∙ (λ j. c.stands j ++ tail j) in
        let kept : corners_from m₄ (from + x) gc ≡ g'.t =
        corners_same m₃ m₄ (a - 1) (from + x) gc (λ j l. down.before (from + x + j) (omega (arith, g'.end)) ∙ ap (λ (i : ℕ). corner_in m₃ (i + j)) (sym i₀))
        ∙ g'.stands in
        subst (λ (k : ℕ). Passed w zs s m (places from (b + z)) m₄ (places from k)) end
        (cut_stands w s g m from x y z held inside outside back goes comes m₄ from n' (in_four m₄ from x gc cc z stays kept moved) (omega (arith, g'.few, c.few)))

  pub cut_out : {h : Line} → h ≡ side_line w s → (m : List ℤ) {from a b to : ℕ} → from < a → a < b → b ≤ to → CutOut h m from a b to
  cut_out q m {from} {a} {b} {to} l h k =
      let y = b - suc a in
      let z = to - b in
      let a' : from + suc (a - suc from) ≡ a = omega arith in
      let b' : a + suc y ≡ b = omega arith in
      let to' : b + z ≡ to = omega arith in
      subst (λ (h : Line). CutOut h m from a b to) (sym q)
      (subst (CutOut (side_line w s) m from a b) to'
      (subst (λ (b : ℕ). CutOut (side_line w s) m from a b (b + z)) b'
      (subst (λ (a : ℕ). CutOut (side_line w s) m from a (a + suc y) (a + suc y + z)) a' (cut_runs m from (a - suc from) y z))))

  -- ---- the first run lies outside, up to the place f, the second inside, up to e; the third then lies outside
  abbrev KeepRun : Line → List ℤ → ℕ → ℕ → ℕ → ℕ → Type 0
  KeepRun h m from f e to =
      Held w zs m (places from to) → ((i : ℕ) → from ≤ i → i < f → Out h (point_in m i)) → ((i : ℕ) → f ≤ i → i < e → In h (point_in m i))
      → (e < to → Out h (point_in m e))
      → (m₁ m₂ : List ℤ) (start end : ℕ) → Come w zs s m (f - 1) (point_in m f) m₁ start → Gone w zs s m₁ (e - 1) m₂ end
      → Passed w zs s m (places from to) m₂ (places start end)

  module _ (m : List ℤ) (from y x : ℕ) where
    abbrev f : ℕ
    f = from + suc y

    abbrev e : ℕ
    e = from + suc y + suc x

    keep_runs : (z : ℕ) → KeepRun (side_line w s) m from f e (e + z)
    keep_runs z held outside inside back m₁ m₂ start end c g' =
        let gc = g'.count in
        let cc = c.count in
        let n' = cc + (x + gc) in
        let is : start + n' ≡ end = omega (arith, g'.end, c.start) in
        let i₀ : e - 1 ≡ f + x = omega arith in
        let o : f - 1 ≡ from + y = omega arith in
        let stays : corners_from m₂ f x ≡ corners_from m f x =
        corners_same m m₂ f f x (λ i l. g'.before (f + i) (omega arith) ∙ c.others (f + i) (inr (omega arith))) in
        let last : corner_in m₁ (e - 1) ≡ corner_in m (f + x) = c.others (e - 1) (inr (omega arith)) ∙ ap (corner_in m) i₀ in
        let goes = subst (λ (c : Tagged). Goes w zs s c [] g'.t) last g'.goes in
        let comes = subst (λ (q : Tagged). Comes w zs s q (point_in m f) c.c) (ap (corner_in m) o) c.comes in
        let came : corners_from m₂ start cc ≡ c.c = corners_same m₁ m₂ start start cc (λ j l. g'.before (start + j) (omega (arith, c.start))) ∙ c.stands in
        let next : start + cc ≡ f = omega (arith, c.start) in
        let kept : corners_from m₂ (f + x) gc ≡ g'.t = ap (λ (i : ℕ). corners_from m₂ i gc) (sym i₀) ∙ g'.stands in
        let stands : corners_from m₂ start n' ≡ c.c ++ (corners_from m f x ++ g'.t) =
        corners_split m₂ start cc (x + gc) ∙ (λ j. came j ++ (ap (λ (i : ℕ). corners_from m₂ i (x + gc)) next ∙ corners_split m₂ f x gc ∙ (λ j. stays j ++ kept j)) j) in
        subst (λ (k : ℕ). Passed w zs s m (places from (e + z)) m₂ (places start k)) is
        (keep_stands w s g m from y x z held outside inside back comes goes m₂ start n' stands (omega (arith, g'.few, c.start)))

  pub keep_run : {h : Line} → h ≡ side_line w s → (m : List ℤ) {from f e to : ℕ} → from < f → f < e → e ≤ to → KeepRun h m from f e to
  keep_run q m {from} {f} {e} {to} l h k =
      let x = e - suc f in
      let z = to - e in
      let f' : from + suc (f - suc from) ≡ f = omega arith in
      let e' : f + suc x ≡ e = omega arith in
      let to' : e + z ≡ to = omega arith in
      subst (λ (h : Line). KeepRun h m from f e to) (sym q)
      (subst (KeepRun (side_line w s) m from f e) to'
      (subst (λ (e : ℕ). KeepRun (side_line w s) m from f e (e + z)) e'
      (subst (λ (f : ℕ). KeepRun (side_line w s) m from f (f + suc x) (f + suc x + z)) f' (keep_runs m from (f - suc from) x z))))
