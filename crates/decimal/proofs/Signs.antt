-- The sign of a number: its text, and its bit.
use Rattle.std.specs.Prelude.{None, Option, Some}
use mathlib.Core.Path.{◌≡◌, refl, sym, ap, ◌∙◌, subst}
use mathlib.Core.Bool.{Bool, true, false, cond}
use mathlib.Core.List.{List, [], ◌∷◌, ◌++◌}
use Prim.Native.Nat.{ℕ, zero, suc, ◌+◌, ◌*◌, ◌^◌, ◌<◌}
use native.Mathlib.Omega.{arith}
use lib.Dec.{ltb}
use lib.ListN.{length, get_or, take, drop, take-append-drop}
use lib.Ieee.{binary32, inf, odd, units, to_bits}
use lib.Ieee.Fits.{round_is}
use Rattle.decimal.specs.Decimals.{AllDigits, pointed, Plain, Decimal, bits_of, Reads, number, nothing}
use Rattle.decimal.specs.Workers as Workers
use Rattle.decimal.proofs.Texts.{digit_range, digit_head}

-- ---- its bit

sign_bit : (q k : ℕ) → to_bits binary32 (units binary32 true q k) ≡ to_bits binary32 (units binary32 false q k) + 2147483648
unfolding units odd to_bits
sign_bit q k = go (ltb (q * 2 ^ k) (2 ^ 277)) q
  where
    go : (b : Bool) (q : ℕ) → to_bits binary32 (cond b (odd 25 true q k 149) (inf true)) ≡ to_bits binary32 (cond b (odd 25 false q k 149) (inf false)) + 2147483648
    go true zero = omega arith
    go true (suc q) = omega arith
    go false q = omega arith

pub negative_bits : (n k : ℕ) → bits_of true n k ≡ bits_of false n k + 2147483648
unfolding bits_of
negative_bits n k = ap (to_bits binary32) (round_is binary32 true n (10 ^ k)) ∙ sign_bit _ _
    ∙ ap (λ x. to_bits binary32 x + 2147483648) (sym (round_is binary32 false n (10 ^ k)))

-- ---- its text

-- a text that starts with no minus
pub reads_plain : {r : Option ℕ} (t : List ℕ) → (take 1 t ≡ 45 ∷ [] → ⊥) → Workers.ReadsPlain t r → Reads t r
reads_plain t h (Workers.number p b) = number (record { rest = t; spelled = refl; plain = p })
reads_plain t h (Workers.nothing f) = nothing none
  where
    none : (s : Bool) (n k : ℕ) → Decimal t s n k → ⊥
    none true n k d = h (ap (take 1) d.spelled)
    none false n k d = f n k (subst (λ (x : List ℕ). Plain x n k) (sym d.spelled) d.plain)

-- and one that starts with a minus: what follows decides
pub plain_first : {n k : ℕ} (t : List ℕ) → get_or t 0 0 ≡ 45 → Plain t n k → ⊥
plain_first t h p = go p.front refl
  where
    go : (f : List ℕ) → p.front ≡ f → ⊥
    go [] e = omega (arith, p.some, ap length e)
    go (d ∷ ds) e =
        let z : d ≡ 45 = sym (ap (λ (x : List ℕ). get_or x 0 0) (p.spelled ∙ ap (λ (x : List ℕ). x ++ pointed p.behind) e)) ∙ h in
        omega (arith, z, (digit_range d (digit_head (subst (λ (x : List ℕ). AllDigits (x ++ p.behind)) e p.digits))).0)

module _ (t : List ℕ) (m : take 1 t ≡ 45 ∷ []) where
  minus_first : t ≡ 45 ∷ drop 1 t
  minus_first = sym (take-append-drop 1 t) ∙ ap (λ (x : List ℕ). x ++ drop 1 t) m

  pub reads_negative : (b : ℕ) → Workers.ReadsPlain (drop 1 t) (Some b) → (b < 2 ^ 31) × Reads t (Some (b + 2147483648))
  reads_negative b r = go refl r
    where
      go : {o : Option ℕ} → o ≡ Some b → Workers.ReadsPlain (drop 1 t) o → (b < 2 ^ 31) × Reads t (Some (b + 2147483648))
      go e (Workers.number {n = n} {k = k} p s) =
          let z : bits_of false n k ≡ b = cc in (
            subst (λ (x : ℕ). x < 2 ^ 31) z s,
            subst (λ (x : ℕ). Reads t (Some x)) (negative_bits n k ∙ ap (λ (x : ℕ). x + 2147483648) z)
                (number (record { rest = drop 1 t; spelled = minus_first; plain = p })),
          )
      go e (Workers.nothing f) = absurd (let z : ◌≡◌ {A = ℕ} 0 1 = cc in omega arith)

  pub reads_no_negative : Workers.ReadsPlain (drop 1 t) None → Reads t None
  reads_no_negative r = go refl r
    where
      go : {o : Option ℕ} → o ≡ None → Workers.ReadsPlain (drop 1 t) o → Reads t None
      go e (Workers.number p s) = absurd (let z : ◌≡◌ {A = ℕ} 0 1 = cc in omega arith)
      go e (Workers.nothing f) = nothing none
        where
          none : (s : Bool) (n k : ℕ) → Decimal t s n k → ⊥
          none true n k d = f n k (subst (λ (x : List ℕ). Plain x n k) (sym (ap (drop 1) d.spelled)) d.plain)
          none false n k d = plain_first t (ap (λ (x : List ℕ). get_or x 0 0) minus_first) (subst (λ (x : List ℕ). Plain x n k) (sym d.spelled) d.plain)
