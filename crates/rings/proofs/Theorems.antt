-- The statements that other crates use, in the order of the argument; each is proved where it is cited from.
use mathlib.Core.Path.{◌≡◌}
use mathlib.Core.List.{List, ◌∷◌, ◌++◌, Permᴰ}
use mathlib.Core.Logic.{◌↔◌}
use mathlib.Core.Option.{Option, some}
use Prim.Native.Nat.{ℕ, ◌+◌, ◌≤◌, ◌<◌}
use lib.ListN.{length}
use lib.IntN.{ℤ}
use Rattle.rings.specs.Lists.{All, Turned}
use Rattle.rings.specs.Points.{Point, Line, Left, In, Over, Out, Under, On, Real, Proper, Same, Alike, Before}
use Rattle.rings.specs.Rings.{at, Edge, StrictlyConvex, Ring, InRing, Starts}
use Rattle.rings.specs.Cuts.{Crossing, Across, Pass, CutBy, OneCut, OnePass, Inside, Cuts, Passes, Remainder, NoArea, Outcome, Result, Agree}
use Rattle.rings.specs.Windows.{side_lines, InWindow}
use Rattle.rings.proofs.Convex.{CCW}
use Rattle.rings.proofs.Linear as linear
use Rattle.rings.proofs.Fan as fans
use Rattle.rings.proofs.Arcs as arcs
use Rattle.rings.proofs.Passes as passes
use Rattle.rings.proofs.OneCut as cut
use Rattle.rings.proofs.Same as same
use Rattle.rings.proofs.Alike as alike
use Rattle.rings.proofs.Unique as unique
use Rattle.rings.proofs.Start as starts
use Rattle.rings.proofs.Valley as valleys
use Rattle.rings.proofs.Counts as counts
use Rattle.rings.proofs.Orders as orders
use Rattle.rings.proofs.Windows as windows

-- ---- strict convexity, for lists of any length: every three corners turn left in the list's order (walked round, and counted, in Tours)
pub convex_ccw : (r : List Point) → StrictlyConvex r ↔ CCW r
convex_ccw r = (linear.ccw_of_convex, linear.convex_of_ccw)

pub place_ccw : {r : List Point} → CCW r → (i j k : ℕ) → i < j → j < k → k < length r → Left (at r i) (at r j) (at r k)
place_ccw = linear.place_ccw

-- ---- the fan: a line with every corner of a ring inside has every point of the ring inside
pub fan : (h : Line) (p : Point) (r : List Point) → Ring r → InRing r p → All (In h) r → In h p
fan h p r g = fans.fan h p r g.three (linear.ccw_of_convex g.convex)

-- ---- a line goes through a ring once: of the corners only one run lies outside, and only one inside
pub rest_inside : (h : Line) {u f : Point} (n : Point) (r ns : List Point) {q : List Point} → Ring (u ∷ (r ++ (n ∷ (ns ++ (f ∷ q))))) → In h u
    → Out h n → In h f → All (In h) (f ∷ q)
rest_inside h n r ns g = arcs.rest_inside h n r ns (linear.ccw_of_convex g.convex)

pub rest_outside : (h : Line) {n m : Point} (u : Point) (ns r : List Point) {q : List Point} → Ring (n ∷ (ns ++ (u ∷ (r ++ (m ∷ q))))) → Out h n
    → In h u → Out h m → All (Out h) (m ∷ q)
rest_outside h u ns r g = arcs.rest_outside h u ns r (linear.ccw_of_convex g.convex)

-- ---- one cut: what is so of each, that there is one, and that a pass is made of passes over its parts
pub one_cut : {h : Line} {r s : List Point} → Real h → Ring r → CutBy h r s → OneCut h r s
one_cut = cut.one_cut

pub one_pass : {h : Line} {r s : List Point} → Real h → Ring r → CutBy h r s → OnePass h r s
one_pass = counts.one_pass

pub some_cut : (h : Line) (r : List Point) → (s : List Point) × CutBy h r s
some_cut = passes.some_cut

pub pass_join : {h : Line} {u v z : Point} {xs ys a b : List Point} → Pass h u xs v a → Pass h v ys z b → Pass h u (xs ++ (v ∷ ys)) z (a ++ b)
pass_join = passes.pass_join

-- ---- several cuts
pub all_cuts : {hs : List Line} {r : List Point} {o : Option (List Point)} → All Real hs → Ring r → Cuts hs r o → Outcome hs r o
all_cuts = orders.all_cuts

pub cuts_length : {hs : List Line} {r t : List Point} → Cuts hs r (some t) → length t ≤ length r + length hs
cuts_length = orders.cuts_length

-- ---- one pass a line
pub passes_cuts : {hs : List Line} {r t : List Point} {ns : List ℕ} → Passes hs r ns t → Cuts hs r (some t)
passes_cuts = counts.passes_cuts

pub counts_unique : {hs : List Line} {r r' t t' : List Point} {ns ns' : List ℕ} → Alike r r' → Passes hs r ns t → Passes hs r' ns' t'
    → ns ≡ ns'
counts_unique = counts.counts_unique

-- ---- the same point in other numbers
module _ {p q : Point} (s : Same p q) (h : Line) where
  pub same_in : In h p → In h q
  same_in = same.same_in s h

  pub same_over : Over h p → Over h q
  same_over = same.same_over s h

  pub same_out : Out h p → Out h q
  same_out = same.same_out s h

  pub same_under : Under h p → Under h q
  same_under = same.same_under s h

  pub same_on : On h p → On h q
  same_on = same.same_on s h

pub same_crossing : {h : Line} {u u' v v' c c' : Point} → Same u u' → Same v v' → Same c c' → Crossing h u v c → Crossing h u' v' c'
same_crossing s t r = same.same_crossing s t r

pub crossings_same : {h : Line} {u v c d : Point} → Proper u → Proper v → Across h u v → Crossing h u v c → Crossing h u v d → Same c d
crossings_same = same.crossings_same

-- a crossing found on any real line that holds u and v
pub line_crossing : {h : Line} (l : Line) {u v c : Point} → Real l → On l u → On l v → On l c → Proper u → Proper v → Proper c → Across h u v → On h c → Crossing h u v c
line_crossing = same.line_crossing

-- ---- alike rings
pub alike_refl : {r : List Point} → All Proper r → Alike r r
alike_refl = alike.alike_refl

pub alike_sym : {r s : List Point} → Alike r s → Alike s r
alike_sym = alike.alike_sym

pub alike_length : {r s : List Point} → Alike r s → length r ≡ length s
alike_length = alike.alike_length

pub alike_ccw : {r s : List Point} → Alike r s → CCW r → CCW s
alike_ccw = alike.alike_ccw

pub alike_ring : {r s : List Point} → Alike r s → Ring r → Ring s
alike_ring = alike.alike_ring

pub alike_points : {p : Point} {r s : List Point} → Alike r s → InRing r p ↔ InRing s p
alike_points = alike.alike_points

pub alike_cut : {h : Line} {r r' s s' : List Point} → Alike r r' → CutBy h r s → CutBy h r' s' → Alike s s'
alike_cut = alike.alike_cut

-- ---- same points, same ring; where it starts
pub same_points_alike : (r s : List Point) → Ring r → Ring s → Starts r → Starts s → ((p : Point) → Proper p → InRing r p ↔ InRing s p) → Alike r s
same_points_alike = unique.same_points_alike

pub start : (r : List Point) → Ring r → (s : List Point) × Turned r s × Starts s
start = starts.start

-- from a corner that no other comes before (the laws of that order are in Before)
pub starts_at : (v : Point) (vs : List Point) → Ring (v ∷ vs) → All (λ q. Before q v → ⊥) vs → Starts (v ∷ vs)
starts_at = starts.starts_at

-- and a corner that neither neighbour comes before is one
pub valley : {r : List Point} {h i k : ℕ} → Ring r → Edge (length r) h i → Edge (length r) i k → (Before (at r h) (at r i) → ⊥)
    → (Before (at r k) (at r i) → ⊥) → (j : ℕ) → j < length r → Before (at r j) (at r i) → ⊥
valley = valleys.valley

pub starts_alike : {r s t : List Point} → Ring r → Turned r s → Turned r t → Starts s → Starts t → Alike s t
starts_alike = starts.starts_alike

-- ---- what lines leave is determined by what they ask of a point; so their order does not matter
pub remainders_alike : {hs ks : List Line} {r t u : List Point} → ((p : Point) → Inside hs p ↔ Inside ks p) → Remainder hs r t → Remainder ks r u
    → Starts t → Starts u → Alike t u
remainders_alike = orders.remainders_alike

pub not_both : {hs ks : List Line} {r t : List Point} → ((p : Point) → Inside hs p → Inside ks p) → Remainder hs r t → NoArea ks r → ⊥
not_both = orders.not_both

pub some_result : (hs : List Line) (r : List Point) → All Real hs → Ring r → (o : Option (List Point)) × Result hs r o
some_result = orders.some_result

pub result_outcome : {hs : List Line} {r : List Point} {o : Option (List Point)} → All Real hs → Ring r → Result hs r o → Outcome hs r o
result_outcome = orders.result_outcome

pub any_order : {hs ks : List Line} {r : List Point} {a b : Option (List Point)} → Permᴰ hs ks → All Real hs → Ring r → Result hs r a → Result ks r b → Agree a b
any_order = orders.any_order

-- ---- a window's sides
module _ (l b r t : ℤ) where
  pub sides_real : All Real (side_lines l b r t)
  sides_real = windows.sides_real l b r t

  pub in_window : (p : Point) → Inside (side_lines l b r t) p ↔ InWindow l b r t p
  in_window = windows.in_window l b r t

  pub sides_agree : {hs ks : List Line} {o : List Point} {x y : Option (List Point)} → Permᴰ (side_lines l b r t) hs → Permᴰ (side_lines l b r t) ks
      → Ring o → Result hs o x → Result ks o y → Agree x y
  sides_agree = windows.sides_agree l b r t
