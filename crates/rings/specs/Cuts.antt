-- Cutting a ring along a line, and along several in turn, as Sutherland and Hodgman do.
--   Between u v c     c lies strictly between u and v: k·c = α·u + β·v with positive factors
--   Crossing h u v c  c lies strictly between u and v and on the line h
--   Across h u v      of u and v one lies strictly inside h, the other strictly outside
--   Kept h u s        s is what h leaves of the corner u: itself, unless it lies strictly outside
--   Added h u v s     s is what h adds between u and v: a crossing if they lie across h, else nothing
--   Pass h u r z s    s is what h leaves of the walk from u, by way of r, to z, not counting z
--   CutBy h r s       s is what h leaves of the closed list r
--   OneCut h r s      what one cut promises of what it leaves; where r is a ring and h is real, it follows from CutBy
--   OnePass h r s     s is what one pass along h leaves of r: by the rule, and as one cut promises
--   Inside hs p       p lies inside each of the lines hs or on it
--   Cuts hs r o       o is what a pass along each of the lines hs in turn leaves of r: none as soon as one leaves fewer than three corners
--   Passes hs r ns t  the same where a ring t is left in the end; ns says how many corners each pass left
--   Remainder hs r t  t is a ring, of exactly the points of r that lie inside hs
--   NoArea hs r       the points of r that lie inside hs all lie on one line
--   Outcome hs r o    o is a ring, the remainder, or none and there is no area
--   Result hs r o     o is what is left in the end: none, or the ring started at its lowest corner, of those the leftmost
--   Agree x y         x and y are both none, or both rings and alike
use Rattle.std.specs.Prelude.{◌≡◌, List, [], ◌∷◌, ◌++◌, ◌↔◌, ℕ, suc, ◌≤◌, length, ℤ, pos, ◌+ℤ◌, ◌*ℤ◌, ◌<ℤ◌}
use Rattle.std.proofs.Math.Option.{Option, none, some}
use Rattle.rings.specs.Lists.{All, Turned}
use Rattle.rings.specs.Points.{Point, Line, In, Over, Out, Under, On, Real, Alike}
use Rattle.rings.specs.Rings.{Ring, InRing, Starts}

pub record Between (u v c : Point) : Type 0 where
  pub k : ℤ
  pub α : ℤ
  pub β : ℤ
  pub k⁺ : pos 0 <ℤ k
  pub α⁺ : pos 0 <ℤ α
  pub β⁺ : pos 0 <ℤ β
  pub is_x : k *ℤ c.X ≡ α *ℤ u.X +ℤ β *ℤ v.X
  pub is_y : k *ℤ c.Y ≡ α *ℤ u.Y +ℤ β *ℤ v.Y
  pub is_w : k *ℤ c.W ≡ α *ℤ u.W +ℤ β *ℤ v.W

pub record Crossing (h : Line) (u v c : Point) : Type 0 where
  pub between : Between u v c
  pub on : On h c

pub data Across (h : Line) (u v : Point) : Type 0 where
  leaves : Over h u → Out h v → Across h u v
  enters : Out h u → Over h v → Across h u v

-- ---- one line
pub data Kept (h : Line) (u : Point) : List Point → Type 0 where
  stays : In h u → Kept h u (u ∷ [])
  goes : Out h u → Kept h u []

pub data Added (h : Line) (u v : Point) : List Point → Type 0 where
  crossed : {c : Point} → Across h u v → Crossing h u v c → Added h u v (c ∷ [])
  uncrossed : (Across h u v → ⊥) → Added h u v []

pub data Pass (h : Line) : Point → List Point → Point → List Point → Type 0 where
  ends : {u z : Point} {a b : List Point} → Kept h u a → Added h u z b → Pass h u [] z (a ++ b)
  goes_on : {u v z : Point} {r a b s : List Point} → Kept h u a → Added h u v b → Pass h v r z s → Pass h u (v ∷ r) z (a ++ (b ++ s))

pub data CutBy (h : Line) : List Point → List Point → Type 0 where
  empty : CutBy h [] []
  round : {v : Point} {r s : List Point} → Pass h v r v s → CutBy h (v ∷ r) s

pub record OneCut (h : Line) (r s : List Point) : Type 0 where
  -- at most one corner more
  pub short : length s ≤ suc (length r)
  -- fewer than three corners exactly when no corner of r lies strictly inside
  pub thin : (length s ≤ 2) ↔ All (Under h) r
  -- else a ring, of exactly the points of r on or inside the line
  pub ring : 3 ≤ length s → Ring s
  pub points : 3 ≤ length s → (p : Point) → InRing s p ↔ (InRing r p × In h p)
  -- and if fewer, these points all lie on the line
  pub flat : length s ≤ 2 → (p : Point) → InRing r p → In h p → On h p

-- CutBy tells what the pass did, OneCut what a caller may rely on
pub record OnePass (h : Line) (r s : List Point) : Type 0 where
  pub rule : CutBy h r s
  pub promise : OneCut h r s

-- ---- several lines
abbrev pub Inside : List Line → Point → Type 0
Inside hs p = All (λ h. In h p) hs

pub data Cuts : List Line → List Point → Option (List Point) → Type 0 where
  no_more : {r : List Point} → Cuts [] r (some r)
  cut : {h : Line} {hs : List Line} {r s : List Point} {o : Option (List Point)} → OnePass h r s → 3 ≤ length s → Cuts hs s o → Cuts (h ∷ hs) r o
  gone : {h : Line} {hs : List Line} {r s : List Point} → OnePass h r s → length s ≤ 2 → Cuts (h ∷ hs) r none

-- the counts depend on the order of the lines, as the ring that is left in the end does not
pub data Passes : List Line → List Point → List ℕ → List Point → Type 0 where
  no_pass : {r : List Point} → Passes [] r [] r
  pass : {h : Line} {hs : List Line} {r s t : List Point} {ns : List ℕ} → OnePass h r s → 3 ≤ length s → Passes hs s ns t
      → Passes (h ∷ hs) r (length s ∷ ns) t

pub record Remainder (hs : List Line) (r t : List Point) : Type 0 where
  pub ring : Ring t
  pub points : (p : Point) → InRing t p ↔ (InRing r p × Inside hs p)

pub record NoArea (hs : List Line) (r : List Point) : Type 0 where
  pub line : Line
  pub real : Real line
  pub flat : (p : Point) → InRing r p → Inside hs p → On line p

pub data Outcome (hs : List Line) (r : List Point) : Option (List Point) → Type 0 where
  area : {t : List Point} → Remainder hs r t → Outcome hs r (some t)
  without_area : NoArea hs r → Outcome hs r none

pub data Result (hs : List Line) (r : List Point) : Option (List Point) → Type 0 where
  none_left : Cuts hs r none → Result hs r none
  started : {t s : List Point} → Cuts hs r (some t) → Turned t s → Starts s → Result hs r (some s)

pub data Agree : Option (List Point) → Option (List Point) → Type 0 where
  neither : Agree none none
  both : {r s : List Point} → Alike r s → Agree (some r) (some s)
