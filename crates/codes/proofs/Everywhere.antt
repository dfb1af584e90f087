-- What a computed test says of every bit, every side and every pair of codes: a rule over all 16 by 16 pairs is one test and one law.
use mathlib.Core.Path.{◌≡◌, refl, ◌∙◌}
use mathlib.Core.List.{List, [], ◌∷◌}
use mathlib.Core.Bool.{Bool, true, false, not, ◌&&◌, ◌||◌}
use mathlib.Core.Logic.{⊎_elim}
use Prim.Native.Nat.{ℕ, zero, suc, ◌+◌, ◌*◌, ◌/◌, ◌%◌, ◌<◌}
use native.Mathlib.Omega.{arith}
use lib.Dec.{T}
use lib.ListN.{get_or}
use mir.Facts.{and_yes, or_yes}
use Rattle.grid.specs.Sides.{Side, left, right, bottom, top}

abbrev pub implies : Bool → Bool → Bool
implies a b = not a || b

pub implied : (a b : Bool) → T (implies a b) → T a → T b
implied true b t u = t
implied false b t u = absurd u

-- ---- four bits
abbrev either : (Bool → Bool) → Bool
either f = f true && f false

bit : (f : Bool → Bool) → T (either f) → (b : Bool) → T (f b)
bit f t true = (and_yes (f true) (f false) t).0
bit f t false = (and_yes (f true) (f false) t).1

abbrev pub every_bits : (Bool → Bool → Bool → Bool → Bool) → Bool
every_bits f = either (λ a. either (λ b. either (λ c. either (f a b c))))

pub bits : (f : Bool → Bool → Bool → Bool → Bool) → T (every_bits f) → (a b c d : Bool) → T (f a b c d)
bits f t a b c d = bit (f a b c)
    (bit (λ c. either (f a b c)) (bit (λ b. either (λ c. either (f a b c))) (bit (λ a. either (λ b. either (λ c. either (f a b c)))) t a) b) c) d

-- ---- the four sides
abbrev pub every_side : (Side → Bool) → Bool
every_side f = (f left && f right) && (f bottom && f top)

pub sides : (f : Side → Bool) → T (every_side f) → (k : Side) → T (f k)
sides f t k = at k
  where
    across : T (f left) × T (f right)
    across = and_yes (f left) (f right) (and_yes (f left && f right) (f bottom && f top) t).0

    up : T (f bottom) × T (f top)
    up = and_yes (f bottom) (f top) (and_yes (f left && f right) (f bottom && f top) t).1

    at : (k : Side) → T (f k)
    at left = across.0
    at right = across.1
    at bottom = up.0
    at top = up.1

abbrev pub some_side : (Side → Bool) → Bool
some_side f = (f left || f right) || (f bottom || f top)

pub side : (f : Side → Bool) → T (some_side f) → (k : Side) × T (f k)
side f t =
    ⊎_elim (λ a. ⊎_elim (λ b. (left, b)) (λ b. (right, b)) (or_yes (f left) (f right) a))
    (λ a. ⊎_elim (λ b. (bottom, b)) (λ b. (top, b)) (or_yes (f bottom) (f top) a))
    (or_yes (f left || f right) (f bottom || f top) t)

-- ---- the numbers below n, and the pairs of codes
abbrev every : (ℕ → Bool) → ℕ → Bool
every f zero = true
every f (suc n) = f zero && every (λ k. f (suc k)) n

below : (f : ℕ → Bool) (n : ℕ) → T (every f n) → {k : ℕ} → k < n → T (f k)
below f zero t h = absurd (omega arith)
below f (suc n) t {k = zero} h = (and_yes (f zero) (every (λ k. f (suc k)) n) t).0
below f (suc n) t {k = suc k} h = below (λ k. f (suc k)) n (and_yes (f zero) (every (λ k. f (suc k)) n) t).1 {k = k} (omega arith)

abbrev pub every_pair : (ℕ → ℕ → Bool) → Bool
every_pair f = every (λ a. every (f a) 16) 16

pub pairs : (f : ℕ → ℕ → Bool) → T (every_pair f) → {a b : ℕ} → a < 16 → b < 16 → T (f a b)
pairs f t {a} {b} h k = below (f a) 16 (below (λ a. every (f a) 16) 16 t h) k

-- ---- a table of all pairs of codes: at 16 a + b it has what its rule gives
abbrev table_of : (ℕ → ℕ) → ℕ → List ℕ
table_of f zero = []
table_of f (suc n) = f zero ∷ table_of (λ k. f (suc k)) n

entry : (f : ℕ → ℕ) (n : ℕ) {k : ℕ} → k < n → get_or (table_of f n) k 0 ≡ f k
entry f zero h = absurd (omega arith)
entry f (suc n) {k = zero} h = refl
entry f (suc n) {k = suc k} h = entry (λ k. f (suc k)) n {k = k} (omega arith)

abbrev table : (ℕ → ℕ → ℕ) → List ℕ
table f = table_of (λ k. f (k / 16) (k % 16)) 256

pub tabulated : (f : ℕ → ℕ → ℕ) {a b : ℕ} → a < 16 → b < 16 → get_or (table f) (16 * a + b) 0 ≡ f a b
tabulated f {a} {b} h k =
    let p : (16 * a + b) / 16 ≡ a = omega arith in
    let q : (16 * a + b) % 16 ≡ b = omega arith in
    entry (λ k. f (k / 16) (k % 16)) 256 {k = 16 * a + b} (omega arith) ∙ (λ i. f (p i) (q i))
