-- Which corner comes first: by the cross products of the heights, and where they are equal by those of the places across. A ring started at its lowest corner is started.
use mathlib.Core.Path.{◌≡◌, refl, sym, subst}
use mathlib.Core.List.{List, ◌∷◌, ◌++◌}
use Prim.Native.Nat.{ℕ, suc}
use lib.IntN.{ℤ, ◌*ℤ◌}
use lib.ListN.{take, drop, take-append-drop}
use lib.Seq.{drop-cons}
use lib.Signed.{◌≤ℤ◌, lt_z}
use Rattle.whole.specs.Choice.{Decides}
use Rattle.whole.proofs.Order.{zarith}
use Rattle.whole.proofs.Comparisons.{lt_yes, lt_no}
use Rattle.rings.specs.Lists.{All, Turned}
use Rattle.rings.specs.Points.{Point, Before, lower, level}
use Rattle.rings.specs.Rings.{at, nowhere, Ring, Starts}
use Rattle.rings.proofs.Linear.{all_of_places}
use Rattle.rings.proofs.Lists.{all_tail, turned_all}
use Rattle.rings.proofs.Start.{turned_ring}
use Rattle.rings.proofs.Theorems.{starts_at}
use Rattle.lowest.specs.Lowest.{LowestIn, started_at}

module _ {p q : Point} {a b : ℤ} where
  pub by_height : (p.Y *ℤ q.W ≡ q.Y *ℤ p.W → ⊥) → a ≡ p.Y *ℤ q.W → b ≡ q.Y *ℤ p.W → Decides (lt_z a b) (Before p q)
  by_height n e f = record { yes = λ t. lower (lt_yes e f t); no = λ t k. not (lt_no e f t) k }
    where
      not : (q.Y *ℤ p.W) ≤ℤ (p.Y *ℤ q.W) → Before p q → ⊥
      not h (lower l) = omega zarith
      not h (level l k) = n l

  pub by_width : p.Y *ℤ q.W ≡ q.Y *ℤ p.W → a ≡ p.X *ℤ q.W → b ≡ q.X *ℤ p.W → Decides (lt_z a b) (Before p q)
  by_width l e f = record { yes = λ t. level l (lt_yes e f t); no = λ t k. not (lt_no e f t) k }
    where
      not : (q.X *ℤ p.W) ≤ℤ (p.X *ℤ q.W) → Before p q → ⊥
      not h (lower k) = omega zarith
      not h (level m k) = omega zarith

-- ---- a ring started at a place, and at the lowest corner
pub turned_at : (r : List Point) (k : ℕ) → Turned r (started_at r k)
turned_at r k = record { front = take k r; back = drop k r; was = sym (take-append-drop k r); now = refl }

pub lowest_starts : {r : List Point} {k : ℕ} → Ring r → LowestIn r k → Starts (started_at r k)
lowest_starts {r} {k} g s =
    let t = turned_at r k in
    let here : drop k r ≡ at r k ∷ drop (suc k) r = drop-cons r k nowhere s.inside in
    let none = turned_all t (all_of_places r s.least) in
    subst (λ (l : List Point). Starts (l ++ take k r)) (sym here)
    (starts_at (at r k) (drop (suc k) r ++ take k r)
    (subst (λ (l : List Point). Ring (l ++ take k r)) here (turned_ring t g))
    (all_tail (subst (λ (l : List Point). All (λ q. Before q (at r k) → ⊥) (l ++ take k r)) here none)))
