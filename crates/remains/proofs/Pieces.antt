-- What a side leaves of a ring in runs, from the last corner back to the first: a run inside stays, a run outside goes, the crossings lie on the lines that the
-- tags name, and the edge from the crossing out to the crossing in lies on the side.
use mathlib.Core.Path.{◌≡◌, refl, sym, ap, ◌∙◌, subst}
use mathlib.Core.List.{List, [], ◌∷◌, ◌++◌, append-nil}
use Prim.Native.Nat.{ℕ, ◌+◌, ◌-◌, ◌≤◌}
use native.Mathlib.Omega.{arith}
use borrow.Author.Tests.{lt-ltb, le-ltb}
use lib.Dec.{ltb}
use lib.IntN.{ℤ, nat_abs}
use lib.ListN.{length}
use Rattle.whole.specs.Choice.{when◌then◌else◌}
use Rattle.whole.proofs.Order.{zarith, <→≤, ≡→≤}
use Rattle.grid.specs.declared.Window.{Window}
use Rattle.grid.specs.declared.Stroke.{Stroke}
use Rattle.grid.specs.Sides.{Side, place_of, side_at}
use Rattle.rings.specs.Lists.{All, ∅, ◌◂◌, Walk, last, step, Edges, nothing, closed}
use Rattle.rings.specs.Points.{Point, Line, In, Over, Out, Under, On, Proper}
use Rattle.rings.specs.Cuts.{Crossing, Across, leaves, enters, Kept, stays, goes, Added, crossed, uncrossed, Pass, ends, goes_on, CutBy, empty, round}
use Rattle.rings.proofs.Lists.{all_head, final}
use Rattle.rings.proofs.Theorems.{line_crossing}
use Rattle.memory.specs.Memory.{Small}
use Rattle.limits.specs.Sides.{side_line}
use Rattle.crossings.specs.Outlines.{OutlineOnTable}
use Rattle.crossings.specs.Tags.{line_of, edge_of, side_stroke, side_tag, Names, edge, side, Lies}
use Rattle.crossings.specs.Meetings.{Meets, Meeting}
use Rattle.memory.specs.Tagged.{Tagged, points_of}
use Rattle.remains.specs.Runs.{Traced, Goes, Comes, on_line, crosses, more}
use Rattle.limits.proofs.Sides.{side_place}
use Rattle.crossings.proofs.SideStrokes.{side_on}
use Rattle.crossings.proofs.Outlines.{named_real}
use Rattle.crossings.proofs.Meetings.{not_along}

not_across : {h : Line} {u v : Point} → (Over h u → Out h v → ⊥) → (Out h u → Over h v → ⊥) → Across h u v → ⊥
not_across f g (leaves a b) = f a b
not_across f g (enters a b) = g a b

-- ---- a line with every corner inside cuts nothing off
module _ {h : Line} where
  uncut : {u v : Point} → In h u → In h v → Added h u v []
  uncut i j = uncrossed (not_across (λ x y. omega zarith) (λ x y. omega zarith))

  pass_nothing : {u z : Point} {r : List Point} → In h u → All (In h) r → In h z → Pass h u r z (u ∷ r)
  pass_nothing i ∅ j = ends (stays i) (uncut i j)
  pass_nothing i (k ◂ a) j = goes_on (stays i) (uncut i k) (pass_nothing k a j)

  pub cut_nothing : {r : List Point} → All (In h) r → CutBy h r r
  cut_nothing ∅ = empty
  cut_nothing (i ◂ a) = round (pass_nothing i a i)

-- ---- a tag names one stroke
naming : Window → List ℤ → ℕ → Stroke
naming w zs k = when ltb k 64 then edge_of zs k else side_stroke w (side_at (k - 64))

names_are : {w : Window} {zs : List ℤ} {t : ℤ} {e : Stroke} → length zs ≤ 128 → Names w zs t e → e ≡ naming w zs (nat_abs t)
unfolding naming
names_are l (edge k h) = rw (lt-ltb k 64 (omega arith))
names_are {w} l (side k) =
    let e : place_of k ≡ 64 + place_of k - 64 = omega arith in
    rw (le-ltb (64 + place_of k) 64 (omega arith)) (ap (side_stroke w) (sym (side_place k) ∙ ap side_at e))

names_same : {w : Window} {zs : List ℤ} {t : ℤ} {e e' : Stroke} → length zs ≤ 128 → Names w zs t e → Names w zs t e' → e ≡ e'
names_same l n n' = names_are l n ∙ sym (names_are l n')

-- ---- where the line of u and v meets the side's line between them
record Found (h : Line) (e : Stroke) (u v p : Point) : Type 0 where
  small : Small p
  crossing : Crossing h u v p
  on_stroke : On (line_of e) p

found : {w : Window} {zs : List ℤ} (s : Side) {a : ℤ} {u v p : Point} → OutlineOnTable zs → (l : Lies w zs a u v) → Meeting w zs (side_line w s) a p → Proper u
    → Proper v → Across (side_line w s) u v → Found (side_line w s) l.stroke u v p
found {w} s {u = u} {v} {p} g l m pu pv x =
    let e = l.stroke in
    let real = named_real (g) l.named in
    let meets = subst (λ (e : Stroke). Meets (side_line w s) e p) (names_same g.corners.few m.named l.named) m.meets in
    let not = not_along (side_line w s) e u v pu pv real l.from l.to x in
    let on = meets.on_stroke not in
    let small = meets.small not in
    record { small = small; crossing = line_crossing (line_of e) real l.from l.to on pu pv small.positive x meets.on_side; on_stroke = on }

-- ---- what a line leaves of corners that lead to z
abbrev pub InC : Line → Tagged → Type 0
InC h c = In h c.point

abbrev pub OutC : Line → Tagged → Type 0
OutC h c = Out h c.point

-- where corners that lead to z go first
abbrev pub next_of : {A : Type 0} → List A → A → A
next_of [] z = z
next_of (v ∷ r) z = v

next_all : {A : Type 0} {P : A → Type 0} {r : List A} (z : A) → All P r → P z → P (next_of r z)
next_all z ∅ p = p
next_all z (q ◂ a) p = q

data Leaves (h : Line) (z : Tagged) : List Tagged → List Tagged → Type 0 where
  none : Leaves h z [] []
  some : {u : Tagged} {cs ls : List Tagged} → Pass h u.point (points_of cs) z.point (points_of ls) → Leaves h z (u ∷ cs) ls

module _ {h : Line} {z : Tagged} where
  pass_more : {u : Point} {cs ls : List Tagged} {a b : List Point} → Kept h u a → Added h u (next_of cs z).point b → Leaves h z cs ls
      → Pass h u (points_of cs) z.point (a ++ (b ++ points_of ls))
  unfolding points_of
  pass_more {u} {a = a} {b} k d none = subst (λ (l : List Point). Pass h u [] z.point (a ++ l)) (sym (append-nil b)) (ends k d)
  pass_more k d (some p) = goes_on k d p

  all_stay : {cs : List Tagged} → All (InC h) cs → InC h z → Leaves h z cs cs
  unfolding points_of
  all_stay ∅ i = none
  all_stay (j ◂ a) i = some (pass_more (stays j) (uncut j (next_all z a i)) (all_stay a i))

  one_goes : {u : Tagged} {cs ls : List Tagged} → OutC h u → Under h (next_of cs z).point → Leaves h z cs ls → Leaves h z (u ∷ cs) ls
  one_goes o k l = some (pass_more (goes o) (uncrossed (not_across (λ x y. omega zarith) (λ x y. omega zarith))) l)

  all_go : {cs : List Tagged} → All (OutC h) cs → OutC h z → Leaves h z cs []
  all_go ∅ o = none
  all_go (k ◂ a) o = one_goes k (<→≤ (next_all z a o)) (all_go a o)

cut_left : {h : Line} {u : Tagged} {cs ls : List Tagged} → Leaves h u (u ∷ cs) ls → CutBy h (points_of (u ∷ cs)) (points_of ls)
unfolding points_of
cut_left (some p) = round p

pub keep_none : {h : Line} {cs : List Tagged} → All (OutC h) cs → CutBy h (points_of cs) []
unfolding points_of
keep_none ∅ = empty
keep_none {cs = u ∷ cs} (o ◂ a) = cut_left {u = u} (all_go (o ◂ a) o)

-- ---- corners that lead to z, each small and with the next on the line that its tag names
abbrev Linked : Window → List ℤ → Tagged → Tagged → Type 0
Linked w zs a b = Lies w zs a.tag a.point b.point

data Trail (w : Window) (zs : List ℤ) (z : Tagged) : List Tagged → Type 0 where
  arrives : Trail w zs z []
  leads : {u : Tagged} {cs : List Tagged} → Small u.point → Linked w zs u (next_of cs z) → Trail w zs z cs → Trail w zs z (u ∷ cs)

module _ {w : Window} {zs : List ℤ} where
  walk_trail : {u z : Tagged} {cs : List Tagged} → All (λ c. Small c.point) (u ∷ cs) → Walk (Linked w zs) u cs z → Trail w zs z (u ∷ cs)
  walk_trail (p ◂ ∅) (last l) = leads p l arrives
  walk_trail (p ◂ a) (step l k) = leads p l (walk_trail a k)

  ring_trail : {u : Tagged} {cs : List Tagged} → All (λ c. Small c.point) (u ∷ cs) → Edges (Linked w zs) (u ∷ cs) → Trail w zs u (u ∷ cs)
  ring_trail a (closed k) = walk_trail a k

  trail_small : {z : Tagged} {cs : List Tagged} → Trail w zs z cs → All (λ c. Small c.point) cs
  trail_small arrives = ∅
  trail_small (leads p l k) = p ◂ trail_small k

  trail_walk : {z u y : Tagged} {cs : List Tagged} → Trail w zs z (u ∷ cs) → z.point ≡ y.point → Walk (Linked w zs) u cs y
  trail_walk {u = u} (leads p l arrives) e = last (subst (Lies w zs u.tag u.point) e l)
  trail_walk (leads p l (leads p' l' k)) e = step l (trail_walk (leads p' l' k) e)

  trail_ring : {z : Tagged} {cs : List Tagged} → Trail w zs z cs → z.point ≡ (next_of cs z).point → Edges (Linked w zs) cs
  trail_ring arrives e = nothing
  trail_ring (leads p l k) e = closed (trail_walk (leads p l k) e)

  trail_after : {z : Tagged} (cs : List Tagged) {ds : List Tagged} → Trail w zs z (cs ++ ds) → Trail w zs z ds
  trail_after [] k = k
  trail_after (u ∷ cs) (leads p l k) = trail_after cs k

  next_proper : {z : Tagged} {cs : List Tagged} → Trail w zs z cs → Small z.point → Proper (next_of cs z).point
  next_proper {z} k p = (next_all {P = λ c. Small c.point} z (trail_small k) p).positive

-- ---- what a side leaves of a piece of the ring: of the corners cs, which lead to z, the corners ls, which lead to e
record Piece (w : Window) (zs : List ℤ) (s : Side) (z e : Tagged) (cs ls : List Tagged) : Type 0 where
  left : Leaves (side_line w s) z cs ls
  trail : Trail w zs e ls

module _ {w : Window} {zs : List ℤ} {s : Side} where
  piece_round : {u e : Tagged} {cs ls : List Tagged} → Piece w zs s u e (u ∷ cs) ls → e.point ≡ (next_of ls e).point
      → CutBy (side_line w s) (points_of (u ∷ cs)) (points_of ls) × Traced w zs ls
  piece_round b f = (cut_left b.left, record { small = trail_small b.trail; lies = trail_ring b.trail f })

  -- what is left of corners inside starts where they do
  goes_first : {u : Tagged} {r t : List Tagged} (ls : List Tagged) (e : Tagged) → Goes w zs s u r t → u.point ≡ (next_of (t ++ ls) e).point
  goes_first ls e (on_line i) = refl
  goes_first ls e (crosses i m) = refl
  goes_first ls e (more q) = refl

  -- and of corners outside and the next inside, on the side's line
  comes_first : {o : Tagged} {p : Point} {c : List Tagged} (ls : List Tagged) (e : Tagged) → Comes w zs s o p c → p ≡ (next_of ls e).point
      → On (side_line w s) (next_of (c ++ ls) e).point
  comes_first ls e (on_line i) f = subst (On (side_line w s)) f i
  comes_first ls e (crosses i m) f = m.meets.on_side

module _ (w : Window) {zs : List ℤ} (s : Side) (g : OutlineOnTable zs) where
  along_side : {p q : Point} → On (side_line w s) p → On (side_line w s) q → Lies w zs (side_tag s) p q
  along_side {p} {q} i j = record { stroke = side_stroke w s; named = side s; from = side_on w s p i; to = side_on w s q j }

  -- a run inside, with the next corner outside
  goes_out : (r : List Tagged) {z e u : Tagged} {t cs ls : List Tagged} → Small z.point → Trail w zs z (u ∷ (r ++ cs)) → All (InC (side_line w s)) (u ∷ r)
      → OutC (side_line w s) (next_of cs z) → Goes w zs s u r t
      → On (side_line w s) (next_of ls e).point → Piece w zs s z e cs ls → Piece w zs s z e (u ∷ (r ++ cs)) (t ++ ls)
  unfolding points_of
  goes_out [] sz (leads p l k) (i ◂ a) o (on_line j) f b = record {
    left = some (pass_more (stays i) (uncrossed (not_across (λ x y. omega zarith) (λ x y. omega zarith))) b.left);
    trail = leads p (along_side j f) b.trail;
  }
  goes_out [] sz (leads p l k) (i ◂ a) o (crosses j m) f b =
      let x = found s g l m p.positive (next_proper k sz) (leaves j o) in
      record {
        left = some (pass_more (stays i) (crossed (leaves j o) x.crossing) b.left);
        trail = leads p (record { stroke = l.stroke; named = l.named; from = l.from; to = x.on_stroke })
            (leads x.small (along_side x.crossing.on f) b.trail);
      }
  goes_out (v ∷ r) {e = e} {u = u} {ls = ls} sz (leads p l k) (i ◂ (j ◂ a)) o (more q) f b =
      let y = goes_out r sz k (j ◂ a) o q f b in
      record { left = some (pass_more (stays i) (uncut i j) y.left); trail = leads p (subst (Lies w zs u.tag u.point) (goes_first ls e q) l) y.trail }

  -- a run outside, with the next corner inside
  comes_in : (ns : List Tagged) {z e n : Tagged} {cs c ls : List Tagged} → Small z.point → Trail w zs z (n ∷ (ns ++ cs)) → All (OutC (side_line w s)) (n ∷ ns)
      → Comes w zs s (final n ns) (next_of cs z).point c
      → (next_of cs z).point ≡ (next_of ls e).point → Piece w zs s z e cs ls → Piece w zs s z e (n ∷ (ns ++ cs)) (c ++ ls)
  unfolding points_of
  comes_in [] sz (leads p l k) (o ◂ ∅) (on_line j) f b = record { left = one_goes o (≡→≤ j) b.left; trail = b.trail }
  comes_in [] sz (leads p l k) (o ◂ ∅) (crosses j m) f b =
      let x = found s g l m p.positive (next_proper k sz) (enters o j) in
      record {
        left = some (pass_more (goes o) (crossed (enters o j) x.crossing) b.left);
        trail = leads x.small (record { stroke = l.stroke; named = l.named; from = x.on_stroke; to = subst (On (line_of l.stroke)) f l.to }) b.trail;
      }
  comes_in (v ∷ ns) sz (leads p l k) (o ◂ (i ◂ a)) q f b = let y = comes_in ns sz k (i ◂ a) q f b in record { left = one_goes o (<→≤ i) y.left; trail = y.trail }

  -- ---- a ring that starts inside, and one that starts outside
  pub cut_middle : {u n : Tagged} {r ns b t c : List Tagged}
      → Traced w zs (u ∷ (r ++ (n ∷ (ns ++ b))))
      → All (InC (side_line w s)) (u ∷ r) → All (OutC (side_line w s)) (n ∷ ns) → All (InC (side_line w s)) b
      → Goes w zs s u r t → Comes w zs s (final n ns) (next_of b u).point c
      → CutBy (side_line w s) (points_of (u ∷ (r ++ (n ∷ (ns ++ b))))) (points_of (t ++ (c ++ b))) × Traced w zs (t ++ (c ++ b))
  cut_middle {u} {n} {r} {ns} {b} {c = c} k i o j q v =
      let sz = all_head k.small in
      let first = ring_trail k.small k.lies in
      let second = trail_after (u ∷ r) first in
      let third = trail_after (n ∷ ns) second in
      let rest = comes_in ns sz second o v refl (record { left = all_stay j (all_head i); trail = third }) in
      piece_round (goes_out r sz first i (all_head o) q (comes_first b u v refl) rest) (goes_first (c ++ b) u q)

  pub keep_middle : {n u : Tagged} {ns r o c t : List Tagged}
      → Traced w zs (n ∷ (ns ++ (u ∷ (r ++ o))))
      → All (OutC (side_line w s)) (n ∷ ns) → All (InC (side_line w s)) (u ∷ r) → All (OutC (side_line w s)) o
      → Comes w zs s (final n ns) u.point c → Goes w zs s u r t
      → CutBy (side_line w s) (points_of (n ∷ (ns ++ (u ∷ (r ++ o))))) (points_of (c ++ t)) × Traced w zs (c ++ t)
  keep_middle {n} {u} {ns} {r} {o} {c} {t} k a i b v q =
      let sz = all_head k.small in
      let first = ring_trail k.small k.lies in
      let second = trail_after (n ∷ ns) first in
      let e = next_of (c ++ (t ++ [])) u in
      let rest =
      goes_out r {e = e} sz second i (next_all n b (all_head a)) q (comes_first (t ++ []) u v (goes_first [] u q))
      (record { left = all_go b (all_head a); trail = arrives }) in
      subst (λ (t : List Tagged). CutBy (side_line w s) (points_of (n ∷ (ns ++ (u ∷ (r ++ o))))) (points_of (c ++ t)) × Traced w zs (c ++ t)) (append-nil t)
      (piece_round (comes_in ns sz first a v (goes_first [] e q) rest) (again (c ++ (t ++ []))))
    where
      again : (cs : List Tagged) → (next_of cs u).point ≡ (next_of cs (next_of cs u)).point
      again [] = refl
      again (v ∷ cs) = refl
