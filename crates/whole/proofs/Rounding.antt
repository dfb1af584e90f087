-- Rounding to nearest by any rule: a fraction has one rounding, and it is computed; it lies between the whole numbers that the fraction lies between, and
-- moves and mirrors with the fraction where its rule does. What the logic calls `closest` is the rounding by which halves go to even.
use mathlib.Core.Path.{◌≡◌, refl, sym, ap, ◌∙◌, subst}
use mathlib.Core.Logic.{⊎_elim}
use mathlib.Core.Bool.{not, not-not}
use mathlib.Core.List.{[], ◌∷◌}
use Prim.Native.Nat.{ℕ, zero, suc, ◌+◌, ◌*◌, ◌/◌, ◌%◌, ◌≤◌, ◌<◌, compare, Ordering}
use native.Mathlib.Nat.{div-add-mod', mod-lt}
use native.Mathlib.Omega.{arith}
use lib.Arith.{lt_of_le-ne}
use lib.Dec.{T, is_le, compare_is_eq, eqb, leb→le, nleb→lt, eqb→eq, eqb_refl}
use lib.IntN.{ℤ, pos, negsuc, neg_ℤ, nat_abs, ◌+ℤ◌, ◌-ℤ◌, ◌*ℤ◌}
use lib.Signed.{◌≤ℤ◌, ◌<ℤ◌}
use lib.Ieee.{nearest}
use lib.Ieee.Nearest.{closest}
use Rattle.whole.specs.Choice.{when◌then◌else◌}
use Rattle.whole.specs.Rounding.{Rule, Rounds, to_even}
use Rattle.whole.proofs.Naturals.{neg_plus, neg_minus, add_is, abs_is}
use Rattle.whole.proofs.Expressions.{Expr, var, con, ◌⊕◌, ◌⊖◌, ◌⊗◌, neg, x0, x1, x2, x3}
use Rattle.whole.proofs.Polynomials.{ring}
use Rattle.whole.proofs.Order.{zarith, sub_is, next-≤, ≤_antisym, ≤_total}
use Rattle.whole.proofs.Certificates.{ge, ge_by, clash, eqn, ◌⊹◌, eq_by, eq_cancel, eq, po, le, nat, nat⁺, ◌⊞◌, ◌⊠◌}
use Rattle.whole.proofs.Comparisons.{tt_ff, by-test}

abbrev one : Expr
one = con (pos 1)

abbrev two : Expr
two = con (pos 2)

abbrev minus_two : Expr
minus_two = con (negsuc 1)

-- the numbers that `Rounds` compares, quoted: 2x, and d more
abbrev double : Expr → Expr
double x = two ⊗ x

abbrev higher : Expr → Expr → Expr
higher x d = double x ⊕ d

-- ---- one rounding: of two, the greater lies a half above x/d and the smaller a half below, and the rule would send that half up and down
not_above : {up : Rule} {x d r s : ℤ} → pos 0 <ℤ d → Rounds up x d r → Rounds up x d s → r ≤ℤ s
not_above {up} {x} {d} {r} {s} h p q = ⊎_elim (λ l. l)
    (λ l.
    let ρ = x ∷ d ∷ r ∷ s ∷ [] in
    let gap = nat 2 ⊠ (po x1 h ⊠ le (x3 ⊕ one) x2 (next-≤ l)) in
    let low = le (double (x2 ⊗ x1)) (higher x0 x1) p.nearest.low in
    let high = le (double x0) (higher (x3 ⊗ x1) x1) q.nearest.high in
    let up_from = ≤_antisym p.nearest.low (ge ρ (higher x0 x1) (double (x2 ⊗ x1)) (gap ⊞ high) tt) in
    let down_to = ≤_antisym q.nearest.high (ge ρ (higher (x3 ⊗ x1) x1) (double x0) (gap ⊞ low) tt) in
    let next : r -ℤ pos 1 ≡ s = eq_cancel ρ (nat⁺ 1 ⊠ po x1 h) (x2 ⊖ one) x3
    (eqn one (double (x2 ⊗ x1)) (higher x0 x1) up_from ⊹ eqn one (double x0) (higher (x3 ⊗ x1) x1) down_to) tt in
    absurd (tt_ff (sym (p.above up_from) ∙ ap up next ∙ q.below down_to)))
    (≤_total r s)

pub rounded_unique : {up : Rule} {x d r s : ℤ} → pos 0 <ℤ d → Rounds up x d r → Rounds up x d s → r ≡ s
rounded_unique h p q = ≤_antisym (not_above h p q) (not_above h q p)

-- ---- a whole number is its own rounding
pub rounded_exact : {up : Rule} {x d r : ℤ} → x ≡ r *ℤ d → pos 0 <ℤ d → Rounds up x d r
rounded_exact {up} {x} {d} {r} e h =
    let ρ = x ∷ d ∷ r ∷ [] in
    let more = eq two x0 (x2 ⊗ x1) e in
    let less = eq minus_two x0 (x2 ⊗ x1) e in record {
      nearest = record {
        low = ge ρ (double (x2 ⊗ x1)) (higher x0 x1) (po x1 h ⊞ more) tt;
        high = ge ρ (double x0) (higher (x2 ⊗ x1) x1) (po x1 h ⊞ less) tt;
      };
      above = λ k. absurd (clash ρ (po x1 h ⊞ eq one (double (x2 ⊗ x1)) (higher x0 x1) k ⊞ more) tt);
      below = λ k. absurd (clash ρ (po x1 h ⊞ eq one (double x0) (higher (x2 ⊗ x1) x1) k ⊞ less) tt);
    }

-- ---- between two whole numbers
pub rounded_inside : {up : Rule} {x d r : ℤ} (lo hi : ℤ) → pos 0 <ℤ d → (lo *ℤ d) ≤ℤ x → x ≤ℤ (hi *ℤ d) → Rounds up x d r → (lo ≤ℤ r) × (r ≤ℤ hi)
rounded_inside {up} {x} {d} {r} lo hi h l u p = (
  ⊎_elim (λ k. k)
      (λ k. absurd
      (clash (lo ∷ x ∷ d ∷ r ∷ [])
      (po x2 h ⊞ nat 2 ⊠ (po x2 h ⊠ le (x3 ⊕ one) x0 (next-≤ k)) ⊞ nat 2 ⊠ le (x0 ⊗ x2) x1 l ⊞ le (double x1) (higher (x3 ⊗ x2) x2) p.nearest.high) tt))
      (≤_total lo r),
  ⊎_elim (λ k. k)
      (λ k. absurd
      (clash (hi ∷ x ∷ d ∷ r ∷ [])
      (po x2 h ⊞ nat 2 ⊠ (po x2 h ⊠ le (x0 ⊕ one) x3 (next-≤ k)) ⊞ nat 2 ⊠ le x1 (x0 ⊗ x2) u ⊞ le (double (x3 ⊗ x2)) (higher x1 x2) p.nearest.low) tt))
      (≤_total r hi),
)

-- ---- of equal fractions
pub rounded_equal : {up : Rule} {x d y e r : ℤ} → pos 0 <ℤ d → pos 0 <ℤ e → x *ℤ e ≡ y *ℤ d → Rounds up x d r → Rounds up y e r
rounded_equal {up} {x} {d} {y} {e} {r} hd he q p =
    let ρ = x ∷ d ∷ y ∷ e ∷ r ∷ [] in
    let x4 = var 4 in
    let low = le (double (x4 ⊗ x1)) (higher x0 x1) p.nearest.low in
    let high = le (double x0) (higher (x4 ⊗ x1) x1) p.nearest.high in record {
      nearest = record {
        low = ge_by ρ (po x1 hd) (double (x4 ⊗ x3)) (higher x2 x3) (po x3 he ⊠ low ⊞ eq minus_two (x0 ⊗ x3) (x2 ⊗ x1) q) tt;
        high = ge_by ρ (po x1 hd) (double x2) (higher (x4 ⊗ x3) x3) (po x3 he ⊠ high ⊞ eq two (x0 ⊗ x3) (x2 ⊗ x1) q) tt;
      };
      above = λ k. p.above
          (eq_cancel ρ (po x3 he) (double (x4 ⊗ x1)) (higher x0 x1)
          (eqn x1 (double (x4 ⊗ x3)) (higher x2 x3) k ⊹ eqn minus_two (x0 ⊗ x3) (x2 ⊗ x1) q) tt);
      below = λ k. p.below
          (eq_cancel ρ (po x3 he) (double x0) (higher (x4 ⊗ x1) x1)
          (eqn x1 (double x2) (higher (x4 ⊗ x3) x3) k ⊹ eqn two (x0 ⊗ x3) (x2 ⊗ x1) q) tt);
    }

-- ---- moved by a whole number k, with a rule that moves so too
pub rounded_moved : {up to : Rule} {x d q : ℤ} (k : ℤ) → ((n : ℤ) → to (k +ℤ n) ≡ up n) → Rounds up x d q → Rounds to (k *ℤ d +ℤ x) d (k +ℤ q)
rounded_moved {up} {to} {x} {d} {q} k same p =
    let ρ = k ∷ x ∷ d ∷ q ∷ [] in
    let r = x0 ⊕ x3 in
    let at = x0 ⊗ x2 ⊕ x1 in record {
      nearest = record {
        low = ge ρ (double (r ⊗ x2)) (higher at x2) (le (double (x3 ⊗ x2)) (higher x1 x2) p.nearest.low) tt;
        high = ge ρ (double at) (higher (r ⊗ x2) x2) (le (double x1) (higher (x3 ⊗ x2) x2) p.nearest.high) tt;
      };
      above = λ e. ap to (ring ρ (r ⊖ one) (x0 ⊕ (x3 ⊖ one)) tt) ∙ same (q -ℤ pos 1)
          ∙ p.above (eq_by ρ (double (x3 ⊗ x2)) (higher x1 x2) (eqn one (double (r ⊗ x2)) (higher at x2) e) tt);
      below = λ e. same q ∙ p.below (eq_by ρ (double x1) (higher (x3 ⊗ x2) x2) (eqn one (double at) (higher (r ⊗ x2) x2) e) tt);
    }

-- ---- mirrored, with a rule that sends n and a half up where the other sends its mirror, −n − 1 and a half, down
pub rounded_mirror : {up to : Rule} {x d r : ℤ} → ((n : ℤ) → to (neg_ℤ n -ℤ pos 1) ≡ not (up n)) → Rounds up x d r → Rounds to (neg_ℤ x) d (neg_ℤ r)
rounded_mirror {up} {to} {x} {d} {r} other p =
    let ρ = x ∷ d ∷ r ∷ [] in record {
      nearest = record {
        low = ge ρ (double (neg x2 ⊗ x1)) (higher (neg x0) x1) (le (double x0) (higher (x2 ⊗ x1) x1) p.nearest.high) tt;
        high = ge ρ (double (neg x0)) (higher (neg x2 ⊗ x1) x1) (le (double (x2 ⊗ x1)) (higher x0 x1) p.nearest.low) tt;
      };
      above = λ e. other r
          ∙ ap not (p.below (eq_by ρ (double x0) (higher (x2 ⊗ x1) x1) (eqn one (double (neg x2 ⊗ x1)) (higher (neg x0) x1) e) tt));
      below = λ e. ap to (ring ρ (neg x2) (neg (x2 ⊖ one) ⊖ one) tt) ∙ other (r -ℤ pos 1)
          ∙ ap not (p.above (eq_by ρ (double (x2 ⊗ x1)) (higher x0 x1) (eqn one (double (neg x0)) (higher (neg x2 ⊗ x1) x1) e) tt));
    }

-- ---- how halves to even move and mirror
pub even_moved : (k : ℤ) → nat_abs k % 2 ≡ 0 → (n : ℤ) → to_even (k +ℤ n) ≡ to_even n
unfolding to_even
even_moved k h n =
    let e : nat_abs (k +ℤ n) % 2 ≡ nat_abs n % 2 = omega (arith, add_is k n, abs_is (k +ℤ n), abs_is k, abs_is n) in
    ap (λ (r : ℕ). eqb r 1) e

pub even_mirror : (n : ℤ) → to_even (neg_ℤ n -ℤ pos 1) ≡ not (to_even n)
unfolding to_even
even_mirror n = go (nat_abs (neg_ℤ n -ℤ pos 1) % 2) (nat_abs n % 2)
    (omega (arith, abs_is (neg_ℤ n -ℤ pos 1), abs_is n, sub_is (neg_ℤ n) (pos 1), neg_plus n, neg_minus n))
  where
    go : (a b : ℕ) → a + b ≡ 1 → eqb a 1 ≡ not (eqb b 1)
    go zero zero e = absurd (omega arith)
    go zero (suc zero) e = refl
    go zero (suc (suc b)) e = absurd (omega arith)
    go (suc zero) zero e = refl
    go (suc zero) (suc b) e = absurd (omega arith)
    go (suc (suc a)) b e = absurd (omega arith)

-- ---- computed: the quotient or the next number, by twice the remainder
module _ (up : Rule) (n : ℕ) {d : ℕ} (h : 0 < d) where
  pub under_half : n % d * 2 < d → Rounds up (pos n) (pos d) (pos (n / d))
  under_half l =
      let e = div-add-mod' n d in
      record { nearest = record { low = omega zarith; high = omega zarith }; above = λ k. absurd (omega zarith); below = λ k. absurd (omega zarith) }

  pub over_half : d < n % d * 2 → Rounds up (pos n) (pos d) (pos (suc (n / d)))
  over_half l =
      let e = div-add-mod' n d in
      let m = mod-lt n h in
      record { nearest = record { low = omega zarith; high = omega zarith }; above = λ k. absurd (omega zarith); below = λ k. absurd (omega zarith) }

  pub at_half : n % d * 2 ≡ d → Rounds up (pos n) (pos d) (pos (when up (pos (n / d)) then suc (n / d) else n / d))
  at_half l =
      let e = div-add-mod' n d in
      let back : pos (suc (n / d)) -ℤ pos 1 ≡ pos (n / d) = omega (zarith, sub_is (pos (suc (n / d))) (pos 1)) in
      by-test (up (pos (n / d))) (λ (q : ℕ). Rounds up (pos n) (pos d) (pos q))
      (λ t. record { nearest = record { low = omega zarith; high = omega zarith }; above = λ k. ap up back ∙ t; below = λ k. absurd (omega zarith) })
      (λ t. record { nearest = record { low = omega zarith; high = omega zarith }; above = λ k. absurd (omega zarith); below = λ k. t })

-- ---- and by one comparison, with u for the quotient's half: 1 where it goes up, else 0
module _ (up : Rule) (n : ℕ) {d u : ℕ} (h : 0 < d) (one : u ≤ 1) (goes : up (pos (n / d)) ≡ eqb u 1) where
  where_half : (k : ℕ) → u ≡ k → up (pos (n / d)) ≡ eqb k 1
  where_half k e = goes ∙ ap (λ (k : ℕ). eqb k 1) e

  pub next_by : d < n % d * 2 + u → Rounds up (pos n) (pos d) (pos (n / d + 1))
  next_by l =
      let e = div-add-mod' n d in
      let m = mod-lt n h in
      let back : pos (n / d + 1) -ℤ pos 1 ≡ pos (n / d) = omega (zarith, sub_is (pos (n / d + 1)) (pos 1)) in record {
        nearest = record { low = omega zarith; high = omega zarith };
        above = λ k. ap up back ∙ where_half 1 (omega zarith);
        below = λ k. absurd (omega zarith);
      }

  pub same_by : n % d * 2 + u ≤ d → Rounds up (pos n) (pos d) (pos (n / d))
  same_by l = let e = div-add-mod' n d in record {
    nearest = record { low = omega zarith; high = omega zarith };
    above = λ k. absurd (omega zarith);
    below = λ k. where_half 0 (omega zarith);
  }

-- by how the doubled remainder compares with d
abbrev by_half : Rule → ℕ → Ordering → ℕ
by_half up q Ordering.lt = q
by_half up q Ordering.eq = when up (pos q) then suc q else q
by_half up q Ordering.gt = suc q

abbrev Compared : Ordering → ℕ → ℕ → Type 0
Compared Ordering.lt a b = a < b
Compared Ordering.eq a b = a ≡ b
Compared Ordering.gt a b = b < a

compared : (a b : ℕ) → Compared (compare a b) a b
compared a b = go (compare a b) (leb→le a b) (nleb→lt a b) (eqb→eq a b) (λ (e : a ≡ b). subst (λ (x : ℕ). T (eqb a x)) e (eqb_refl a))
  where
    go : (o : Ordering) → (T (is_le o) → a ≤ b) → (T (not (is_le o)) → b < a) → (T (compare_is_eq o) → a ≡ b) → (a ≡ b → T (compare_is_eq o)) → Compared o a b
    go Ordering.lt h k e n = lt_of_le-ne (h tt) n
    go Ordering.eq h k e n = e tt
    go Ordering.gt h k e n = k tt

by_half_lem : (up : Rule) (n : ℕ) {d : ℕ} → 0 < d → (o : Ordering) → Compared o (n % d * 2) d → Rounds up (pos n) (pos d) (pos (by_half up (n / d) o))
by_half_lem up n h Ordering.lt k = under_half up n h k
by_half_lem up n h Ordering.eq k = at_half up n h k
by_half_lem up n h Ordering.gt k = over_half up n h k

-- a negative number by its mirror
abbrev pub rounding : Rule → ℤ → ℕ → ℤ
rounding up (pos n) d = pos (by_half up (n / d) (compare (n % d * 2) d))
rounding up (negsuc n) d = neg_ℤ (pos (by_half (λ k. not (up (neg_ℤ k -ℤ pos 1))) (suc n / d) (compare (suc n % d * 2) d)))

pub rounding_is : (up : Rule) (x : ℤ) {d : ℕ} → 0 < d → Rounds up x (pos d) (rounding up x d)
rounding_is up (pos n) {d} h = by_half_lem up n h (compare (n % d * 2) d) (compared (n % d * 2) d)
rounding_is up (negsuc n) {d} h =
    rounded_mirror (λ (k : ℤ). sym (not-not (up (neg_ℤ k -ℤ pos 1))))
    (by_half_lem (λ k. not (up (neg_ℤ k -ℤ pos 1))) (suc n) h (compare (suc n % d * 2) d) (compared (suc n % d * 2) d))

-- ---- halves to even: an odd quotient takes its half up
pub to_even_lem : (q : ℕ) → (when to_even (pos q) then suc q else q) ≡ q + q % 2
unfolding to_even
to_even_lem q = go (q % 2) refl
  where
    go : (r : ℕ) → q % 2 ≡ r → (when eqb r 1 then suc q else q) ≡ q + r
    go zero e = omega arith
    go (suc zero) e = omega arith
    go (suc (suc r)) e = absurd (omega arith)

module _ (n : ℕ) {d : ℕ} (h : 0 < d) where
  pub even_up : d < n % d * 2 + n / d % 2 → Rounds to_even (pos n) (pos d) (pos (n / d + 1))
  unfolding to_even
  even_up = next_by to_even n h (omega arith) refl

  pub even_down : n % d * 2 + n / d % 2 ≤ d → Rounds to_even (pos n) (pos d) (pos (n / d))
  unfolding to_even
  even_down = same_by to_even n h (omega arith) refl

pub closest_is : (a : ℕ) {b : ℕ} → 0 < b → Rounds to_even (pos a) (pos b) (pos (closest a b))
closest_is a {b} h = subst (λ (r : ℕ). Rounds to_even (pos a) (pos b) (pos r)) (same (compare (a % b * 2) b))
    (by_half_lem to_even a h (compare (a % b * 2) b) (compared (a % b * 2) b))
  where
    same : (o : Ordering) → by_half to_even (a / b) o ≡ nearest (a / b) o
    same Ordering.lt = refl
    same Ordering.eq = to_even_lem (a / b)
    same Ordering.gt = refl

pub closest_only : {a b r : ℕ} → 0 < b → Rounds to_even (pos a) (pos b) (pos r) → r ≡ closest a b
closest_only {a} {b} {r} h p = let e : pos r ≡ pos (closest a b) = rounded_unique (omega zarith) p (closest_is a h) in omega zarith
