-- What is so of every corner of a ring that a memory holds: it is small, and its tag names a line.
use mathlib.Core.Path.{subst}
use mathlib.Core.List.{List, ◌∷◌}
use mathlib.Core.Logic.{⊎_elim}
use Prim.Native.Nat.{ℕ, zero, suc, ◌+◌, ◌-◌, ◌<◌, ◌≤◌}
use native.Mathlib.Nat.{eq-or-lt_of_le}
use native.Mathlib.Omega.{arith}
use lib.IntN.{ℤ}
use Rattle.grid.specs.declared.Window.{Window}
use Rattle.rings.specs.Lists.{All, ∅, ◌◂◌, Walk, last, step, Edges, nothing, closed}
use Rattle.memory.specs.Memory.{Small, places}
use Rattle.memory.specs.Tagged.{tag_in, Tagged, corner_in, corners_from}
use Rattle.crossings.specs.Tags.{Lies, Named}
use Rattle.limits.specs.Limits.{SmallIn}
use Rattle.remains.specs.Remains.{Held}

corner_of : {P : Tagged → Type 0} (m : List ℤ) (i n k : ℕ) → All P (corners_from m i n) → i ≤ k → k < i + n → P (corner_in m k)
unfolding corners_from
corner_of m i zero k a l h = absurd (omega arith)
corner_of {P} m i (suc n) k (p ◂ a) l h = ⊎_elim (λ e. subst (λ (j : ℕ). P (corner_in m j)) e p) (λ b. corner_of m (suc i) n k a b (omega arith)) (eq-or-lt_of_le l)

module _ {w : Window} {zs : List ℤ} where
  walk_named : {a z : Tagged} {cs : List Tagged} → Walk (λ a b. Lies w zs a.tag a.point b.point) a cs z → All (λ c. Named w zs c.tag) (a ∷ cs)
  walk_named (last l) = (l.stroke, l.named) ◂ ∅
  walk_named (step l k) = (l.stroke, l.named) ◂ walk_named k

  edges_named : {cs : List Tagged} → Edges (λ a b. Lies w zs a.tag a.point b.point) cs → All (λ c. Named w zs c.tag) cs
  edges_named nothing = ∅
  edges_named (closed k) = walk_named k

  module _ {m : List ℤ} {i k : ℕ} (held : Held w zs m (places i k)) where
    pub small_in : SmallIn m i k
    small_in j l h = corner_of {P = λ c. Small c.point} m i (k - i) j held.traced.small l (omega arith)

    pub named_in : (j : ℕ) → i ≤ j → j < k → Named w zs (tag_in m j)
    named_in j l h = corner_of {P = λ c. Named w zs c.tag} m i (k - i) j (edges_named held.traced.lies) l (omega arith)
