-- A corner put into a memory stands in its place, and all others are as they were; so corners in a memory, by their places, are lists that are split, moved and
-- compared.
use mathlib.Core.Path.{◌≡◌, refl, sym, ap, ◌∙◌, subst}
use mathlib.Core.List.{List, [], ◌∷◌, ◌++◌}
use mathlib.Core.Logic.{◌⊎◌, inl, inr, ◌≢◌, ⊎_elim}
use Prim.Native.Nat.{ℕ, zero, suc, ◌+◌, ◌*◌, ◌<◌, ◌≤◌}
use native.Mathlib.Nat.{add-zero, zero-add, suc-add}
use native.Mathlib.Omega.{arith}
use lib.IntN.{ℤ, pos}
use lib.ListN.{length, get_or, set, length-set}
use lib.Seq.{sets, get_or-set_same, get_or-set_other}
use Rattle.rings.specs.Lists.{All, ∅, ◌◂◌}
use Rattle.rings.specs.Points.{Point}
use Rattle.rings.specs.Rings.{at}
use Rattle.rings.proofs.Lists.{final}
use Rattle.memory.specs.Memory.{point_in, ring_from}
use Rattle.memory.specs.Tagged.{tag_in, put_at, Tagged, tagged, corner_in, corners_from, points_of}

-- ---- numbers stored from a place on
stored_else : (vs m : List ℤ) (n j : ℕ) → j < n ⊎ n + length vs ≤ j → get_or (sets m n vs) j (pos 0) ≡ get_or m j (pos 0)
stored_else [] m n j h = refl
stored_else (v ∷ vs) m n j h =
    let apart : j ≢ n = λ (e : j ≡ n). ⊎_elim (λ l. absurd (omega arith)) (λ l. absurd (omega arith)) h in
    stored_else vs (set m n v) (suc n) j (⊎_elim (λ l. inl (omega arith)) (λ l. inr (omega arith)) h) ∙ get_or-set_other m n j v (pos 0) apart

stored_at : (vs m : List ℤ) (n j : ℕ) → n + length vs ≤ length m → j < length vs → get_or (sets m n vs) (n + j) (pos 0) ≡ get_or vs j (pos 0)
stored_at [] m n j h l = absurd (omega arith)
stored_at (v ∷ vs) m n zero h l =
    ap (λ (k : ℕ). get_or (sets m n (v ∷ vs)) k (pos 0)) (add-zero n) ∙ stored_else vs (set m n v) (suc n) n (inl (omega arith)) ∙ get_or-set_same m n v (pos 0)
    (omega arith)
stored_at (v ∷ vs) m n (suc j) h l =
    let e : n + suc j ≡ suc n + j = omega arith in
    ap (λ (k : ℕ). get_or (sets m n (v ∷ vs)) k (pos 0)) e ∙ stored_at vs (set m n v) (suc n) j (simp length-set (omega arith)) (omega arith)

-- ---- a corner put in
pub record Put (m m' : List ℤ) (n : ℕ) (c : Tagged) : Type 0 where
  pub put : corner_in m' n ≡ c
  pub others : (i : ℕ) → i < n ⊎ n < i → corner_in m' i ≡ corner_in m i

pub put_at_lem : (m : List ℤ) (n : ℕ) (p : Point) (t : ℤ) → 4 * n + 4 ≤ length m → Put m (put_at m n p t) n (tagged p t)
put_at_lem m n p t h = record {
  put = λ i. tagged (record {
    X = (ap (λ (j : ℕ). get_or (put_at m n p t) j (pos 0)) (sym (add-zero (4 * n))) ∙ now 0 (omega arith)) i;
    Y = now 1 (omega arith) i;
    W = now 2 (omega arith) i;
  }) (now 3 (omega arith) i);
  others = λ k e i. tagged (record {
    X = (ap (λ (j : ℕ). get_or (put_at m n p t) j (pos 0)) (sym (add-zero (4 * k))) ∙ was k 0 (omega arith) e
        ∙ ap (λ (j : ℕ). get_or m j (pos 0)) (add-zero (4 * k))) i;
    Y = was k 1 (omega arith) e i;
    W = was k 2 (omega arith) e i;
  }) (was k 3 (omega arith) e i);
}
  where
    four : List ℤ
    four = p.X ∷ p.Y ∷ p.W ∷ t ∷ []

    now : (j : ℕ) → j < 4 → get_or (put_at m n p t) (4 * n + j) (pos 0) ≡ get_or four j (pos 0)
    now j l = stored_at four m (4 * n) j h l

    was : (k j : ℕ) → j < 4 → k < n ⊎ n < k → get_or (put_at m n p t) (4 * k + j) (pos 0) ≡ get_or m (4 * k + j) (pos 0)
    was k j l e = stored_else four m (4 * n) (4 * k + j) (⊎_elim (λ b. inl (omega arith)) (λ b. inr (omega arith)) e)

-- a corner copied, where the program reads it back
pub copied : {m m' : List ℤ} (n i : ℕ) → 4 * n + 4 ≤ length m → m' ≡ put_at m n (point_in m i) (tag_in m i) → Put m m' n (corner_in m i)
copied {m} n i h e = subst (λ (k : List ℤ). Put m k n (corner_in m i)) (sym e) (put_at_lem m n (point_in m i) (tag_in m i) h)

-- ---- the ring in a memory
pub ring_length : (m : List ℤ) (i n : ℕ) → length (ring_from m i n) ≡ n
unfolding ring_from
ring_length m i zero = refl
ring_length m i (suc n) = ap suc (ring_length m (suc i) n)

pub ring_at : (m : List ℤ) (i n k : ℕ) → k < n → at (ring_from m i n) k ≡ point_in m (i + k)
unfolding ring_from
ring_at m i zero k h = absurd (omega arith)
ring_at m i (suc n) zero h = ap (point_in m) (sym (add-zero i))
ring_at m i (suc n) (suc k) h = ring_at m (suc i) n k (omega arith) ∙ ap (point_in m) (omega arith)

-- in two parts
pub ring_split : (m : List ℤ) (i a b : ℕ) → ring_from m i (a + b) ≡ ring_from m i a ++ ring_from m (i + a) b
unfolding ring_from
ring_split m i zero b = (λ j. ring_from m (sym (add-zero i) j) (zero-add b j))
ring_split m i (suc a) b =
    ap (ring_from m i) (suc-add a b) ∙ ap (λ (r : List Point). point_in m i ∷ r)
    (ring_split m (suc i) a b ∙ ap (λ (k : ℕ). ring_from m (suc i) a ++ ring_from m k b) (omega arith))

pub ring_all : {P : Point → Type 0} (m : List ℤ) (i n : ℕ) → ((k : ℕ) → i ≤ k → k < i + n → P (point_in m k)) → All P (ring_from m i n)
unfolding ring_from
ring_all m i zero f = ∅
ring_all m i (suc n) f = f i (omega arith) (omega arith) ◂ ring_all m (suc i) n (λ k l h. f k (omega arith) (omega arith))

-- ---- its corners with their tags
pub corners_points : (m : List ℤ) (i n : ℕ) → points_of (corners_from m i n) ≡ ring_from m i n
unfolding corners_from points_of ring_from
corners_points m i zero = refl
corners_points m i (suc n) = ap (λ (r : List Point). point_in m i ∷ r) (corners_points m (suc i) n)

pub corners_split : (m : List ℤ) (i a b : ℕ) → corners_from m i (a + b) ≡ corners_from m i a ++ corners_from m (i + a) b
unfolding corners_from
corners_split m i zero b = (λ j. corners_from m (sym (add-zero i) j) (zero-add b j))
corners_split m i (suc a) b =
    ap (corners_from m i) (suc-add a b) ∙ ap (λ (r : List Tagged). corner_in m i ∷ r)
    (corners_split m (suc i) a b ∙ ap (λ (k : ℕ). corners_from m (suc i) a ++ corners_from m k b) (omega arith))

pub corners_same : (m m' : List ℤ) (i i' n : ℕ) → ((k : ℕ) → k < n → corner_in m' (i' + k) ≡ corner_in m (i + k)) → corners_from m' i' n ≡ corners_from m i n
unfolding corners_from
corners_same m m' i i' zero f = refl
corners_same m m' i i' (suc n) f = λ j.
    (ap (corner_in m') (sym (add-zero i')) ∙ f 0 (omega arith) ∙ ap (corner_in m) (add-zero i)) j
    ∷ corners_same m m' (suc i) (suc i') n (λ k h. ap (corner_in m') (omega arith) ∙ f (suc k) (omega arith) ∙ ap (corner_in m) (omega arith)) j

pub tagged_all : {P : Tagged → Type 0} (m : List ℤ) (i n : ℕ) → ((k : ℕ) → i ≤ k → k < i + n → P (corner_in m k)) → All P (corners_from m i n)
unfolding corners_from
tagged_all m i zero f = ∅
tagged_all m i (suc n) f = f i (omega arith) (omega arith) ◂ tagged_all m (suc i) n (λ k l h. f k (omega arith) (omega arith))

pub corners_final : (m : List ℤ) (i n : ℕ) → final (corner_in m i) (corners_from m (suc i) n) ≡ corner_in m (i + n)
unfolding corners_from
corners_final m i zero = ap (corner_in m) (sym (add-zero i))
corners_final m i (suc n) = corners_final m (suc i) n ∙ ap (corner_in m) (omega arith)
