-- The call as functions, so that examples compute: the passes, the start, the numbers; and that every right answer is the computed one.
use mathlib.Core.Path.{◌≡◌, refl, ap}
use mathlib.Core.Bool.{Bool, true, false}
use mathlib.Core.List.{List, [], ◌∷◌, ◌++◌}
use mathlib.Core.Option.{Option, none, some}
use Prim.Native.Nat.{ℕ, ◌≤◌}
use native.Mathlib.Omega.{arith}
use borrow.Author.Tests.{eqb-true, eqb-false, leb-true, leb-false}
use lib.Dec.{eqb, leb}
use lib.IntN.{ℤ, pos, ◌*ℤ◌}
use lib.ListN.{length}
use lib.Signed.{◌≤ℤ◌, ◌<ℤ◌, lt_z, clash_ℤ}
use Rattle.whole.specs.Choice.{when◌then◌else◌, Decides}
use Rattle.whole.proofs.Comparisons.{by-test, lt_yes, lt_no, ff_tt, tt_ff}
use Rattle.whole.proofs.Order.{zarith, <→≤, ≤_antisym}
use Rattle.grid.specs.Calls.{answered_by, written}
use Rattle.grid.specs.Table.{NumbersOnTable}
use Rattle.grid.specs.declared.Refusal.{Refusal}
use Rattle.grid.specs.declared.Window.{Window}
use Rattle.grid.proofs.Calls.{lent_refused, lent_done}
use Rattle.rings.specs.Lists.{All, ∅, ◌◂◌, Turned}
use Rattle.rings.specs.Points.{Point, Line, value, In, Over, Out, Real, Proper, Before, lower, level}
use Rattle.rings.specs.Rings.{Ring, Starts}
use Rattle.rings.specs.Cuts.{Across, leaves, enters, Kept, stays, goes, Added, crossed, uncrossed, Pass, ends, goes_on, CutBy, empty, round}
use Rattle.rings.specs.Cuts.{OnePass, Cuts, cut, gone, Passes, no_pass, pass}
use Rattle.rings.proofs.Before.{before_asym, before_trans}
use Rattle.rings.proofs.Lists.{all_zip, all_tail, turned_all}
use Rattle.rings.proofs.Passes.{meet, meet_crossing, flip_crossing}
use Rattle.rings.proofs.Start.{turned_ring}
use Rattle.rings.proofs.Theorems.{starts_at, one_pass, passes_cuts}
use Rattle.convex.specs.Corners.{corners_of}
use Rattle.passes.specs.Orders.{lines_in}
use Rattle.passes.specs.Passes.{no_corners}
use Rattle.outlines.specs.Outlines.{outline_refusal, OutlineClipped, refused_outline, gave_outline, Outline}
use Rattle.outlines.specs.declared.OutlineAnswer.{OutlineAnswer}
use Rattle.lowest.proofs.Lowest.{by_width}
use Rattle.outlines.proofs.Passes.{lines_real, cuts_ring}
use Rattle.outlines.proofs.Promised.{ring_passed, none_passed}
use Rattle.outlines.proofs.Refusals.{nothing_refused}
use Rattle.outlines.proofs.Theorems.{one_outline_answer}
use Rattle.writing.proofs.Numbers.{numbers_of, numbers_of_lem}

-- ---- one pass
unfoldable pub kept_of : Line → Point → List Point
kept_of h u = when lt_z (value h u) (pos 0) then [] else u ∷ []

kept_of_lem : (h : Line) (u : Point) → Kept h u (kept_of h u)
unfolding kept_of
kept_of_lem h u = by-test (lt_z (value h u) (pos 0)) (Kept h u) (λ e. goes (lt_yes refl refl e)) (λ e. stays (lt_no refl refl e))

unfoldable pub added_of : Line → Point → Point → List Point
added_of h u v =
    when lt_z (pos 0) (value h u)
    then (when lt_z (value h v) (pos 0) then meet h u v ∷ [] else [])
    else (when lt_z (value h u) (pos 0) then (when lt_z (pos 0) (value h v) then meet h v u ∷ [] else []) else [])

added_of_lem : (h : Line) (u v : Point) → Added h u v (added_of h u v)
unfolding added_of
added_of_lem h u v =
    by-test (lt_z (pos 0) (value h u)) (Added h u v)
    (λ a.
    let i : Over h u = lt_yes refl refl a in
    by-test (lt_z (value h v) (pos 0)) (Added h u v)
    (λ b. let o : Out h v = lt_yes refl refl b in crossed (leaves i o) (meet_crossing h u v i o))
    (λ b. let j : In h v = lt_no refl refl b in uncrossed (λ k. over_in i j k)))
    (λ a.
    let i : value h u ≤ℤ pos 0 = lt_no refl refl a in
    by-test (lt_z (value h u) (pos 0)) (Added h u v)
    (λ b.
    let o : Out h u = lt_yes refl refl b in
    by-test (lt_z (pos 0) (value h v)) (Added h u v)
    (λ c. let j : Over h v = lt_yes refl refl c in crossed (enters o j) (flip_crossing (meet_crossing h v u j o)))
    (λ c. let j : value h v ≤ℤ pos 0 = lt_no refl refl c in uncrossed (λ k. under_under i j k)))
    (λ b. let o : In h u = lt_no refl refl b in uncrossed (λ k. on_any i o k)))
  where
    over_in : Over h u → In h v → Across h u v → ⊥
    over_in i j (leaves a b) = clash_ℤ b j
    over_in i j (enters a b) = clash_ℤ i (<→≤ a)

    under_under : value h u ≤ℤ pos 0 → value h v ≤ℤ pos 0 → Across h u v → ⊥
    under_under i j (leaves a b) = clash_ℤ a i
    under_under i j (enters a b) = clash_ℤ b j

    on_any : value h u ≤ℤ pos 0 → In h u → Across h u v → ⊥
    on_any i o (leaves a b) = clash_ℤ a i
    on_any i o (enters a b) = clash_ℤ a o

unfoldable pub pass_of : Line → Point → List Point → Point → List Point
pass_of h u [] z = kept_of h u ++ added_of h u z
pass_of h u (v ∷ r) z = kept_of h u ++ (added_of h u v ++ pass_of h v r z)

pass_of_lem : (h : Line) (u : Point) (r : List Point) (z : Point) → Pass h u r z (pass_of h u r z)
unfolding pass_of
pass_of_lem h u [] z = ends (kept_of_lem h u) (added_of_lem h u z)
pass_of_lem h u (v ∷ r) z = goes_on (kept_of_lem h u) (added_of_lem h u v) (pass_of_lem h v r z)

unfoldable pub cut_of : Line → List Point → List Point
cut_of h [] = []
cut_of h (v ∷ r) = pass_of h v r v

cut_of_lem : (h : Line) (r : List Point) → CutBy h r (cut_of h r)
unfolding cut_of
cut_of_lem h [] = empty
cut_of_lem h (v ∷ r) = round (pass_of_lem h v r v)

-- ---- all passes
unfoldable pub cuts_of : List Line → List Point → Option (List Point)
cuts_of [] r = some r
cuts_of (h ∷ hs) r = when leb 3 (length (cut_of h r)) then cuts_of hs (cut_of h r) else none

-- ---- the start
unfoldable pub is_before : Point → Point → Bool
is_before p q =
    when lt_z (p.Y *ℤ q.W) (q.Y *ℤ p.W)
    then true
    else (when lt_z (q.Y *ℤ p.W) (p.Y *ℤ q.W) then false else lt_z (p.X *ℤ q.W) (q.X *ℤ p.W))

before_of : (p q : Point) → Decides (is_before p q) (Before p q)
unfolding is_before
before_of p q =
    by-test (lt_z (p.Y *ℤ q.W) (q.Y *ℤ p.W)) Tells
    (λ a. record { yes = λ _. lower (lt_yes refl refl a); no = λ e. absurd (tt_ff e) })
    (λ a.
    by-test (lt_z (q.Y *ℤ p.W) (p.Y *ℤ q.W)) Tells
    (λ b. record { yes = λ e. absurd (ff_tt e); no = λ _. higher (lt_yes refl refl b) })
    (λ b. by_width (≤_antisym (lt_no refl refl b) (lt_no refl refl a)) refl refl))
  where
    Tells : Bool → Type 0
    Tells b = Decides b (Before p q)

    higher : (q.Y *ℤ p.W) <ℤ (p.Y *ℤ q.W) → Before p q → ⊥
    higher h (lower l) = omega zarith
    higher h (level l k) = omega zarith

-- a list split at a corner that no other comes before
pub record Split : Type 0 where
  pub front : List Point
  pub v : Point
  pub back : List Point

record Least (r : List Point) (m : Split) : Type 0 where
  is : r ≡ m.front ++ (m.v ∷ m.back)
  proper : Proper m.v
  least : All (λ q. Before q m.v → ⊥) r

unfoldable pub least_of : Point → List Point → Split
least_of v [] = record { front = []; v = v; back = [] }
least_of v (w ∷ vs) =
    let m = least_of w vs in
    when is_before v m.v then record { front = []; v = v; back = w ∷ vs } else record { front = v ∷ m.front; v = m.v; back = m.back }

least_of_lem : (v : Point) (vs : List Point) → All Proper (v ∷ vs) → Least (v ∷ vs) (least_of v vs)
unfolding least_of
least_of_lem v [] (h ◂ ∅) = record { is = refl; proper = h; least = (λ k. before_asym k k) ◂ ∅ }
least_of_lem v (w ∷ vs) (h ◂ a) =
    let m = least_of w vs in
    let l = least_of_lem w vs a in
    let d = before_of v m.v in
    by-test (is_before v m.v) (Least (v ∷ w ∷ vs))
    (λ e. record { is = refl; proper = h; least = (λ k. before_asym k k) ◂ all_zip (λ q hq n k. n (before_trans hq h l.proper k (d.yes e))) a l.least })
    (λ e. record { is = ap (λ (r : List Point). v ∷ r) l.is; proper = l.proper; least = d.no e ◂ l.least })

unfoldable pub start_of : List Point → List Point
start_of [] = []
start_of (v ∷ vs) = let m = least_of v vs in m.v ∷ (m.back ++ m.front)

start_of_lem : (r : List Point) → Ring r → Turned r (start_of r) × Starts (start_of r)
unfolding start_of
start_of_lem [] g = let l = g.three in absurd (omega arith)
start_of_lem (a ∷ r) g =
    let m = least_of a r in
    let l = least_of_lem a r g.proper in
    let t : Turned (a ∷ r) (m.v ∷ (m.back ++ m.front)) = record { front = m.front; back = m.v ∷ m.back; was = l.is; now = refl } in
    (t, starts_at m.v (m.back ++ m.front) (turned_ring t g) (all_tail (turned_all t l.least)))

-- ---- the list that is given
unfoldable pub ring_of : Option (List Point) → List ℤ
ring_of none = []
ring_of (some t) = numbers_of (start_of t)

unfoldable pub outline_of : Window → ℕ → List ℤ → List ℤ
outline_of w o zs = ring_of (cuts_of (lines_in o w) (corners_of zs))

-- ---- how many corners each pass leaves
unfoldable pub counts_of : List Line → List Point → List ℕ
counts_of [] r = []
counts_of (h ∷ hs) r = length (cut_of h r) ∷ counts_of hs (cut_of h r)

-- what the passes leave, and where that is a ring, how many corners each of them left
data Counted (hs : List Line) (r : List Point) (ns : List ℕ) : Option (List Point) → Type 0 where
  none_left : Cuts hs r none → Counted hs r ns none
  ring_left : {t : List Point} → Passes hs r ns t → Counted hs r ns (some t)

more_counted : {h : Line} {hs : List Line} {r s : List Point} {ns : List ℕ} {o : Option (List Point)} → OnePass h r s → 3 ≤ length s
    → Counted hs s ns o
    → Counted (h ∷ hs) r (length s ∷ ns) o
more_counted p l (none_left c) = none_left (cut p l c)
more_counted p l (ring_left q) = ring_left (pass p l q)

counts_of_lem : (hs : List Line) (r : List Point) → All Real hs → Ring r → Counted hs r (counts_of hs r) (cuts_of hs r)
unfolding counts_of cuts_of
counts_of_lem [] r a g = ring_left no_pass
counts_of_lem (h ∷ hs) r (real ◂ a) g =
    let s = cut_of h r in
    let p = one_pass real g (cut_of_lem h r) in
    by-test (leb 3 (length s)) (Counted (h ∷ hs) r (length s ∷ counts_of hs s))
    (λ e. let l = leb-true 3 (length s) e in more_counted p l (counts_of_lem hs s a (p.promise.ring l)))
    (λ e. none_left (gone p (omega (arith, leb-false 3 (length s) e))))

unfoldable pub passed_of : Option (List Point) → List ℕ → List ℕ
passed_of none ns = no_corners
passed_of (some t) ns = ns

unfoldable pub passes_of : Window → ℕ → List ℤ → List ℕ
passes_of w o zs = passed_of (cuts_of (lines_in o w) (corners_of zs)) (counts_of (lines_in o w) (corners_of zs))

outline_of_lem : (w : Window) (o : ℕ) (zs : List ℤ) → o ≤ 23 → NumbersOnTable zs → Ring (corners_of zs)
    → OutlineClipped w o zs (outline_of w o zs) (passes_of w o zs)
unfolding outline_of ring_of passes_of passed_of
outline_of_lem w o zs h on g = go (counts_of_lem (lines_in o w) (corners_of zs) (lines_real w h) g)
  where
    go : {k : Option (List Point)} {ns : List ℕ} → Counted (lines_in o w) (corners_of zs) ns k → OutlineClipped w o zs (ring_of k) (passed_of k ns)
    go (none_left c) = none_passed w h zs g c
    go (ring_left {t} c) =
        let k = cuts_ring w h zs g (passes_cuts c) in
        let s = start_of_lem t k in
        ring_passed w h zs g on c s.0 s.1 (numbers_of_lem (turned_all s.0 k.proper))

-- ---- the answer and the output
unfoldable pub answer_of : Window → ℕ → List ℤ → ℕ → OutlineAnswer
answer_of w o zs room =
    let r = outline_refusal w o zs in
    when eqb r.number 0 then answered_by refused_outline (gave_outline (passes_of w o zs)) (outline_of w o zs) room else refused_outline r

unfoldable pub output_of : Window → ℕ → List ℤ → List ℤ → List ℤ
output_of w o zs before = when eqb (outline_refusal w o zs).number 0 then written (outline_of w o zs) before else before

pub answer_is : (w : Window) (o : ℕ) (zs before : List ℤ) → Outline w o zs (answer_of w o zs (length before)) before (output_of w o zs before)
unfolding answer_of output_of
answer_is w o zs before = go (eqb (outline_refusal w o zs).number 0) refl
  where
    r : Refusal
    r = outline_refusal w o zs

    full : OutlineAnswer
    full = answered_by refused_outline (gave_outline (passes_of w o zs)) (outline_of w o zs) (length before)

    go : (b : Bool) → eqb r.number 0 ≡ b
        → Outline w o zs (when b then full else refused_outline r) before (when b then written (outline_of w o zs) before else before)
    go true e =
        let z = eqb-true r.number 0 e in
        let k = nothing_refused w o zs z in
        lent_done z (record {
          counts = passes_of w o zs;
          given = record { numbers = outline_of w o zs; gives = outline_of_lem w o zs k.order k.corners.on k.ring; answer = refl; output = refl };
        })
    go false e = lent_refused refl (eqb-false r.number 0 e)

pub computed : {w : Window} {o : ℕ} {zs : List ℤ} {a : OutlineAnswer} {before after : List ℤ} → Outline w o zs a before after
    → (a ≡ answer_of w o zs (length before)) × (after ≡ output_of w o zs before)
computed {w} {o} {zs} {a} {before} {after} h = one_outline_answer w o zs a _ before after _ h (answer_is w o zs before)
