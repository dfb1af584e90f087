-- Corners in memory, by their places: what holds of one of them, a memory from one of them on, and a ring started at a place.
use mathlib.Core.Path.{◌≡◌, refl, sym, ap, ◌∙◌, subst}
use mathlib.Core.List.{List, ◌∷◌, ◌++◌}
use Prim.Native.Nat.{ℕ, zero, suc, ◌+◌, ◌-◌, ◌*◌, ◌≤◌, ◌<◌}
use native.Mathlib.Nat.{add-zero, zero-add, add-suc, sub-zero, suc-sub-suc}
use native.Mathlib.Omega.{arith}
use lib.IntN.{ℤ, pos}
use lib.ListN.{length, get_or, take, drop, length-drop}
use lib.Seq.{get_or-drop, take_all}
use Rattle.rings.specs.Lists.{All}
use Rattle.rings.specs.Points.{Point}
use Rattle.rings.specs.Rings.{at}
use Rattle.rings.proofs.Linear.{place_all}
use Rattle.memory.specs.Memory.{point_in, ring_from, ring_in}
use Rattle.memory.proofs.Memories.{ring_length, ring_at}
use Rattle.lowest.specs.Lowest.{started_at}

module _ (m : List ℤ) where
  pub memory_at : {n k : ℕ} → k < n → at (ring_in m n) k ≡ point_in m k
  memory_at {n} {k} h = ring_at m 0 n k h ∙ ap (point_in m) (zero-add k)

  pub at_place : {P : Point → Type 0} {n k : ℕ} → All P (ring_in m n) → k < n → P (point_in m k)
  at_place {P} {n} {k} a h = subst P (memory_at h) (place_all a k (omega (arith, ring_length m 0 n)))

  -- ---- the memory from the corner at place i on
  point_from : (i k : ℕ) → point_in (drop (4 * i) m) k ≡ point_in m (i + k)
  point_from i k = λ j. record {
    X = at (4 * k) (4 * (i + k)) (omega arith) j;
    Y = at (4 * k + 1) (4 * (i + k) + 1) (omega arith) j;
    W = at (4 * k + 2) (4 * (i + k) + 2) (omega arith) j;
  }
    where
      at : (a b : ℕ) → 4 * i + a ≡ b → get_or (drop (4 * i) m) a (pos 0) ≡ get_or m b (pos 0)
      at a b e = get_or-drop (4 * i) m a (pos 0) ∙ ap (λ (k : ℕ). get_or m k (pos 0)) e

  corners_from : (i k n : ℕ) → ring_from (drop (4 * i) m) k n ≡ ring_from m (i + k) n
  unfolding ring_from
  corners_from i k zero = refl
  corners_from i k (suc n) = λ j. point_from i k j ∷ (corners_from i (suc k) n ∙ ap (λ (k : ℕ). ring_from m k n) (add-suc i k)) j

  pub ring_part : (i n : ℕ) → 4 * i ≤ length m → ring_in (take (length m - 4 * i) (drop (4 * i) m)) n ≡ ring_from m i n
  ring_part i n h =
      let e = take_all (length m - 4 * i) (drop (4 * i) m) (omega (arith, length-drop (4 * i) m)) in
      ap (λ (l : List ℤ). ring_in l n) e ∙ corners_from i 0 n ∙ ap (λ (k : ℕ). ring_from m k n) (add-zero i)

  -- ---- the ring started at place k
  ring_drop : (i n k : ℕ) → k ≤ n → drop k (ring_from m i n) ≡ ring_from m (i + k) (n - k)
  unfolding ring_from
  ring_drop i n zero h = λ j. ring_from m (sym (add-zero i) j) (sym (sub-zero n) j)
  ring_drop i zero (suc k) h = absurd (omega arith)
  ring_drop i (suc n) (suc k) h =
      let e : suc i + k ≡ i + suc k = omega arith in
      ring_drop (suc i) n k (omega arith) ∙ λ j. ring_from m (e j) (sym (suc-sub-suc n k) j)

  ring_take : (i n k : ℕ) → k ≤ n → take k (ring_from m i n) ≡ ring_from m i k
  unfolding ring_from
  ring_take i n zero h = refl
  ring_take i zero (suc k) h = absurd (omega arith)
  ring_take i (suc n) (suc k) h = ap (λ (r : List Point). point_in m i ∷ r) (ring_take (suc i) n k (omega arith))

  pub started_in : {n k : ℕ} → k ≤ n → started_at (ring_in m n) k ≡ ring_from m k (n - k) ++ ring_from m 0 k
  started_in {n} {k} h = λ j. (ring_drop 0 n k h ∙ ap (λ (i : ℕ). ring_from m i (n - k)) (zero-add k)) j ++ ring_take 0 n k h j
