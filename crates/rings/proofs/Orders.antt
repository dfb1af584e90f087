-- Several cuts: what the lines leave does not depend on their order, for it is the ring of the points inside them all.
use mathlib.Core.Path.{subst}
use mathlib.Core.List.Permᴰ
use mathlib.Core.List.{List, [], ◌∷◌, Permᴰ}
use mathlib.Core.Logic.{◌↔◌}
use mathlib.Core.Option.{Option, none, some}
use Prim.Native.Nat.{◌+◌, ◌≤◌}
use native.Mathlib.Omega.{arith}
use native.Mathlib.Decide.{dec_le}
use lib.ListN.{length}
use Rattle.rings.specs.Lists.{All, ∅, ◌◂◌, Turned}
use Rattle.rings.specs.Points.{Point, Line, In, Real, Alike}
use Rattle.rings.specs.Rings.{Ring, InRing, Starts}
use Rattle.rings.specs.Cuts.{OnePass, Inside, Cuts, no_more, cut, gone, Remainder, NoArea, Outcome, area, without_area}
use Rattle.rings.specs.Cuts.{Result, none_left, started, Agree, neither, both}
use Rattle.rings.proofs.Lists.{all_head, all_tail, all_map, edges_turned, turned_back}
use Rattle.rings.proofs.Linear.{ccw_of_convex}
use Rattle.rings.proofs.Fan.{corners_in}
use Rattle.rings.proofs.Passes.{some_cut}
use Rattle.rings.proofs.OneCut.{few_on}
use Rattle.rings.proofs.Counts.{one_pass}
use Rattle.rings.proofs.Unique.{same_points_alike}
use Rattle.rings.proofs.Start.{turned_ring, start}

-- ---- what several cuts leave
further : (h : Line) {hs : List Line} {r s : List Point} {o : Option (List Point)} → ((p : Point) → InRing s p ↔ (InRing r p × In h p))
    → Outcome hs s o → Outcome (h ∷ hs) r o
further h k (without_area n) = without_area (record { line = n.line; real = n.real; flat = λ p i a. n.flat p ((k p).1 (i, all_head a)) (all_tail a) })
further h k (area l) =
    area
    (record {
      ring = l.ring;
      points = λ p. (
        λ i. let a = (l.points p).0 i in let b = (k p).0 a.0 in (b.0, b.1 ◂ a.1),
        λ c. (l.points p).1 ((k p).1 (c.0, all_head c.1), all_tail c.1),
      );
    })

pub all_cuts : {hs : List Line} {r : List Point} {o : Option (List Point)} → All Real hs → Ring r → Cuts hs r o → Outcome hs r o
all_cuts q g no_more = area (record { ring = g; points = λ p. (λ i. (i, ∅), λ k. k.0) })
all_cuts (q ◂ qs) g (cut {h} c l m) = let k = c.promise in further h (k.points l) (all_cuts qs (k.ring l) m)
all_cuts (q ◂ qs) g (gone {h} c l) = without_area (record { line = h; real = q; flat = λ p i a. c.promise.flat l p i (all_head a) })

-- at most one corner more a line
pub cuts_length : {hs : List Line} {r t : List Point} → Cuts hs r (some t) → length t ≤ length r + length hs
cuts_length no_more = omega arith
cuts_length (cut c l m) = let a = c.promise.short in let b = cuts_length m in omega arith

remainder : {hs : List Line} {r t : List Point} → Outcome hs r (some t) → Remainder hs r t
remainder (area l) = l

flatness : {hs : List Line} {r : List Point} → Outcome hs r none → NoArea hs r
flatness (without_area n) = n

-- ---- there is a result
some_cuts : (hs : List Line) (r : List Point) → All Real hs → Ring r → (o : Option (List Point)) × Cuts hs r o
some_cuts [] r q g = (some r, no_more)
some_cuts (h ∷ hs) r (q ◂ qs) g = let c = some_cut h r in go c.0 (one_pass q g c.1) (some_cuts hs c.0 qs) (dec_le 3 (length c.0))
  where
    go : (s : List Point) → OnePass h r s → (Ring s → (o : Option (List Point)) × Cuts hs s o) → Dec (3 ≤ length s)
        → (o : Option (List Point)) × Cuts (h ∷ hs) r o
    go s c more (yes l) = let m = more (c.promise.ring l) in (m.0, cut c l m.1)
    go s c more (no l) = (none, gone c (omega arith))

pub some_result : (hs : List Line) (r : List Point) → All Real hs → Ring r → (o : Option (List Point)) × Result hs r o
some_result hs r q g = let c = some_cuts hs r q g in go c.0 c.1
  where
    go : (o : Option (List Point)) → Cuts hs r o → (o : Option (List Point)) × Result hs r o
    go none c = (none, none_left c)
    go (some t) c = let s = start t (remainder (all_cuts q g c)).ring in (some s.0, started c s.1 s.2)

-- the ring that is left, started, still holds exactly these points
remainder_turned : {hs : List Line} {r t s : List Point} → Turned t s → Remainder hs r t → Remainder hs r s
remainder_turned t l = record {
  ring = turned_ring t l.ring;
  points = λ p. (λ i. (l.points p).0 (edges_turned (turned_back t) i), λ k. edges_turned t ((l.points p).1 k));
}

pub result_outcome : {hs : List Line} {r : List Point} {o : Option (List Point)} → All Real hs → Ring r → Result hs r o → Outcome hs r o
result_outcome q g (none_left c) = all_cuts q g c
result_outcome q g (started c t s) = area (remainder_turned t (remainder (all_cuts q g c)))

-- ---- two lists of lines that ask the same of a point
-- a ring's corners lie on no common line
pub not_both : {hs ks : List Line} {r t : List Point} → ((p : Point) → Inside hs p → Inside ks p) → Remainder hs r t → NoArea ks r → ⊥
not_both {t} ask l n =
    let c = ccw_of_convex l.ring.convex in
    let z = few_on n.line n.real t c (all_map (λ v i. let k = (l.points v).0 i in n.flat v k.0 (ask v k.1)) (corners_in c)) in
    let y = l.ring.three in
    omega arith

pub remainders_alike : {hs ks : List Line} {r t u : List Point} → ((p : Point) → Inside hs p ↔ Inside ks p) → Remainder hs r t → Remainder ks r u
    → Starts t → Starts u → Alike t u
remainders_alike {t} {u} ask l m st su =
    same_points_alike t u l.ring m.ring st su
    (λ p w. (λ i. let k = (l.points p).0 i in (m.points p).1 (k.0, (ask p).0 k.1), λ i. let k = (m.points p).0 i in (l.points p).1 (k.0, (ask p).1 k.1)))

lines_agree : {hs ks : List Line} {r : List Point} {a b : Option (List Point)} → ((p : Point) → Inside hs p ↔ Inside ks p) → All Real hs → All Real ks
    → Ring r → Result hs r a → Result ks r b → Agree a b
lines_agree ask qh qk g (none_left c) (none_left d) = neither
lines_agree ask qh qk g (none_left c) (started d t s) = absurd (not_both (λ p. (ask p).1) (remainder (all_cuts qk g d)) (flatness (all_cuts qh g c)))
lines_agree ask qh qk g (started c t s) (none_left d) = absurd (not_both (λ p. (ask p).0) (remainder (all_cuts qh g c)) (flatness (all_cuts qk g d)))
lines_agree ask qh qk g (started c t s) (started d t' s') =
    both (remainders_alike ask (remainder_turned t (remainder (all_cuts qh g c))) (remainder_turned t' (remainder (all_cuts qk g d))) s s')

-- ---- the same lines in another order
pub all_order : {P : Line → Type 0} {hs ks : List Line} → Permᴰ hs ks → All P hs → All P ks
all_order Permᴰ.nil ∅ = ∅
all_order {P} (Permᴰ.cons e d) (p ◂ a) = subst P e p ◂ all_order d a
all_order {P} (Permᴰ.swap e f) (p ◂ (k ◂ a)) = subst P f k ◂ (subst P e p ◂ a)
all_order (Permᴰ.trans d e) a = all_order e (all_order d a)

pub any_order : {hs ks : List Line} {r : List Point} {a b : Option (List Point)} → Permᴰ hs ks → All Real hs → Ring r → Result hs r a → Result ks r b → Agree a b
any_order d q g = lines_agree (λ p. (all_order d, all_order (Permᴰ.symm d))) q (all_order d q) g
