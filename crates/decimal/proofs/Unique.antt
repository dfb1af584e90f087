-- A text is read as one thing only: its first byte shows the sign, its first digits the front, and what follows the point the rest.
use Rattle.std.specs.Prelude.{Option, Some}
use mathlib.Core.Path.{◌≡◌, refl, sym, ap, ap₂, ◌∙◌, subst}
use mathlib.Core.Bool.{Bool, true, false}
use mathlib.Core.List.{List, [], ◌∷◌, ◌++◌}
use Prim.Native.Nat.{ℕ}
use lib.ListN.{length, get_or, take, drop}
use lib.Seq.{take_at, drop_at}
use Rattle.decimal.specs.Decimals.{is_digit, with_digits, pointed, Plain, Decimal, bits_of, Reads, number, nothing}
use Rattle.text.specs.Runs.{run}
use Rattle.decimal.proofs.Shapes.{front_is}
use Rattle.decimal.proofs.Signs.{plain_first}

unpointed : (ds : List ℕ) → ds ≡ drop 1 (pointed ds)
unpointed [] = refl
unpointed (d ∷ ds) = refl

module _ {t : List ℕ} {n k : ℕ} (p : Plain t n k) where
  abbrev f : ℕ
  f = run is_digit t

  front : p.front ≡ take f t
  front = sym (ap (take f) p.spelled ∙ take_at p.front (pointed p.behind) f (sym (front_is p refl)))

  behind : p.behind ≡ drop 1 (drop f t)
  behind = unpointed p.behind ∙ ap (drop 1) (sym (ap (drop f) p.spelled ∙ drop_at p.front (pointed p.behind) f (sym (front_is p refl))))

  plain_number : n ≡ with_digits 0 (take f t ++ drop 1 (drop f t))
  plain_number = p.number ∙ ap (with_digits 0) (ap₂ ◌++◌ front behind)

  plain_places : k ≡ length (drop 1 (drop f t))
  plain_places = p.places ∙ ap length behind

-- two numbers without a sign that are one text
same_bits : (s : Bool) {t : List ℕ} {n m k j : ℕ} → Plain t n k → Plain t m j → bits_of s n k ≡ bits_of s m j
same_bits s p q = ap₂ (bits_of s) (plain_number p ∙ sym (plain_number q)) (plain_places p ∙ sym (plain_places q))

pub reads_unique : {t : List ℕ} {a b : Option ℕ} → Reads t a → Reads t b → a ≡ b
reads_unique (number {s = s} d) (number {s = u} e) = go s u d e
  where
    go : {t : List ℕ} {n m k j : ℕ} (s u : Bool) → Decimal t s n k → Decimal t u m j → Some (bits_of s n k) ≡ Some (bits_of u m j)
    go {t} {n} {m} {k} {j} true true d e =
        ap Some (same_bits true d.plain (subst (λ (x : List ℕ). Plain x m j) (ap (drop 1) (sym e.spelled ∙ d.spelled)) e.plain))
    go {t} {n} {m} {k} {j} false false d e = ap Some (same_bits false d.plain (subst (λ (x : List ℕ). Plain x m j) (sym e.spelled ∙ d.spelled) e.plain))
    go true false d e = absurd (plain_first _ (ap (λ (x : List ℕ). get_or x 0 0) (sym e.spelled ∙ d.spelled)) e.plain)
    go false true d e = absurd (plain_first _ (ap (λ (x : List ℕ). get_or x 0 0) (sym d.spelled ∙ e.spelled)) d.plain)
reads_unique (number d) (nothing f) = absurd (f _ _ _ d)
reads_unique (nothing f) (number d) = absurd (f _ _ _ d)
reads_unique (nothing f) (nothing g) = refl
