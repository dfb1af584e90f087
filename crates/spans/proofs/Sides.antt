-- The sides that fix the ends of what is kept: each end names one number, in lowest terms or not, and that of no side exactly where it is the stroke's own.
-- And a side whose condition holds at an earlier fraction is not crossed inward at a later one, nor outward the other way round.
use mathlib.Core.Path.{◌≡◌, refl, sym, ◌∙◌, ap}
use mathlib.Core.Bool.{Bool, true, false}
use mathlib.Core.List.{List, [], ◌∷◌, ◌++◌}
use mathlib.Core.Logic.{◌↔◌, inl, inr, ⊎_elim}
use Prim.Native.Nat.{ℕ, suc, ◌<◌}
use native.Mathlib.Omega.{arith}
use lib.IntN.{ℤ, pos, ◌*ℤ◌, ℤ_discrete}
use lib.ListN.{length}
use lib.Signed.{◌≤ℤ◌, ◌<ℤ◌}
use Rattle.whole.proofs.Certificates.{clash, eq, eqn, eq_by, eq_cancel, po, le, lt, ◌⊞◌, ◌⊠◌, ◌⊹◌}
use Rattle.whole.proofs.Comparisons.{tt_ff}
use Rattle.whole.proofs.Expressions.{var, con, ◌⊗◌, neg, x0, x1, x2, x3}
use Rattle.fraction.specs.declared.Fraction.{Fraction}
use Rattle.fraction.specs.Fraction.{LowestOf}
use Rattle.fraction.proofs.LowestTerms.{lowest_unique, lowest_over_one}
use Rattle.rings.specs.Lists.{All, ∅, ◌◂◌, Each, ◌and◌}
use Rattle.spans.specs.Parts.{Part, zeroth, unit}
use Rattle.spans.specs.Sides.{Condition, Inward, Outward, Fixes, FirstOf, here, later, no_side, SideNamed, StartSide, EndSide, OwnEnds}

-- ---- the first of a list, and of another whose members satisfy Q where those of the list satisfy P
pub first_each : {A B : Type 0} {R : A → B → Type 0} {P : A → Type 0} {Q : B → Type 0} {xs : List A} {ys : List B} {k : ℕ} → Each R xs ys
    → ((x : A) (y : B) → R x y → P x → Q y) → ((x : A) (y : B) → R x y → Q y → P x) → FirstOf P xs k → FirstOf Q ys k
first_each {A = A} {B = B} {R = R} {P = P} {Q = Q} {k = k} Rattle.rings.specs.Lists.none to from x = elim x [ ]
first_each (◌and◌ r rs) to from (here p) = here (to _ _ r p)
first_each (◌and◌ r rs) to from (later n f) = later (λ q. n (from _ _ r q)) (first_each rs to from f)

module _ {A : Type 0} {P : A → Type 0} where
  pub least_unique : {xs : List A} {j k : ℕ} → FirstOf P xs j → FirstOf P xs k → j ≡ k
  least_unique (here p) (here q) = refl
  least_unique (here p) (later n f) = absurd (n p)
  least_unique (later n f) (here q) = absurd (n q)
  least_unique (later n f) (later m g) = ap suc (least_unique f g)

  -- more behind it, or after others of which P does not hold
  pub first_before : {xs : List A} {k : ℕ} (ys : List A) → FirstOf P xs k → FirstOf P (xs ++ ys) k
  first_before ys (here p) = here p
  first_before ys (later n f) = later n (first_before ys f)

  pub first_behind : {xs : List A} {y : A} → All (λ (x : A). P x → ⊥) xs → P y → FirstOf P (xs ++ y ∷ []) (length xs)
  first_behind ∅ p = here p
  first_behind (n ◂ a) p = later n (first_behind a p)

-- ---- a side is not crossed where it was met before
module _ (f g : Fraction) (hf : pos 0 <ℤ f.den) (hg : pos 0 <ℤ g.den) {c : Condition} (meets : (c.p *ℤ f.num) ≤ℤ (c.q *ℤ f.den)) where
  pub not_inward : (f.num *ℤ g.den) <ℤ (g.num *ℤ f.den) → Fixes Inward g c → ⊥
  not_inward l x =
      clash (f.num ∷ f.den ∷ g.num ∷ g.den ∷ c.p ∷ c.q ∷ [])
      (lt (x0 ⊗ x3) (x2 ⊗ x1) l ⊠ lt (var 4) (con (pos 0)) x.crosses ⊞ le (var 4 ⊗ x0) (var 5 ⊗ x1) meets ⊠ po x3 hg
      ⊞ eq x1 (var 4 ⊗ x2) (var 5 ⊗ x3) x.on) tt

  pub not_outward : (g.num *ℤ f.den) <ℤ (f.num *ℤ g.den) → Fixes Outward g c → ⊥
  not_outward l x =
      clash (f.num ∷ f.den ∷ g.num ∷ g.den ∷ c.p ∷ c.q ∷ [])
      (lt (x2 ⊗ x1) (x0 ⊗ x3) l ⊠ po (var 4) x.crosses ⊞ le (var 4 ⊗ x0) (var 5 ⊗ x1) meets ⊠ po x3 hg
      ⊞ eq x1 (var 4 ⊗ x2) (var 5 ⊗ x3) x.on) tt

-- ---- one number each
module _ {own : Type 0} {P : Condition → Type 0} {cs : List Condition} where
  named_unique : Dec own → {j k : ℕ} → SideNamed own P cs j → SideNamed own P cs k → j ≡ k
  named_unique (yes o) p q = p.remains o ∙ sym (q.remains o)
  named_unique (no n) p q = least_unique (p.fixed n) (q.fixed n)

pub start_unique : {cs : List Condition} {f : Fraction} {j k : ℕ} → StartSide cs f j → StartSide cs f k → j ≡ k
start_unique {f = f} p q = named_unique (ℤ_discrete f.num (pos 0)) p q

pub end_unique : {cs : List Condition} {f : Fraction} {j k : ℕ} → EndSide cs f j → EndSide cs f k → j ≡ k
end_unique {f = f} p q = named_unique (ℤ_discrete f.num f.den) p q

-- ---- in lowest terms
module _ {f g : Fraction} (h : pos 0 <ℤ f.den) (l : LowestOf f.num f.den g) where
  fixes_lowest : {Towards : ℤ → Type 0} {c : Condition} → Fixes Towards f c → Fixes Towards g c
  fixes_lowest {c = c} x = record {
    crosses = x.crosses;
    on = eq_cancel (f.num ∷ f.den ∷ g.num ∷ g.den ∷ c.p ∷ c.q ∷ []) (po x1 h) (var 4 ⊗ x2) (var 5 ⊗ x3)
        (eqn (var 4) (x2 ⊗ x1) (x0 ⊗ x3) l.same ⊹ eqn x3 (var 4 ⊗ x0) (var 5 ⊗ x1) x.on) tt;
  }

  lowest_fixes : {Towards : ℤ → Type 0} {c : Condition} → Fixes Towards g c → Fixes Towards f c
  lowest_fixes {c = c} x = record {
    crosses = x.crosses;
    on = eq_cancel (f.num ∷ f.den ∷ g.num ∷ g.den ∷ c.p ∷ c.q ∷ []) (po x3 l.lowest.positive) (var 4 ⊗ x0) (var 5 ⊗ x1)
        (eqn (neg (var 4)) (x2 ⊗ x1) (x0 ⊗ x3) l.same ⊹ eqn x1 (var 4 ⊗ x2) (var 5 ⊗ x3) x.on) tt;
  }

  named_lowest : {Towards : ℤ → Type 0} {own own' : Type 0} {cs : List Condition} {k : ℕ} → (own → own') → (own' → own)
      → SideNamed own (Fixes Towards f) cs k → SideNamed own' (Fixes Towards g) cs k
  named_lowest {Towards = Towards} {cs = cs} to from p = record {
    remains = λ o. p.remains (from o);
    fixed = λ n. first_same cs (p.fixed (λ o. n (to o)));
  }
    where
      first_same : (cs : List Condition) {k : ℕ} → FirstOf (Fixes Towards f) cs k → FirstOf (Fixes Towards g) cs k
      first_same [] x = elim x [ ]
      first_same (c ∷ cs) (here p) = here (fixes_lowest p)
      first_same (c ∷ cs) (later n r) = later (λ q. n (lowest_fixes q)) (first_same cs r)

  pub start_lowest : {cs : List Condition} {k : ℕ} → StartSide cs f k → StartSide cs g k
  start_lowest p =
      named_lowest
      (λ e. eq_cancel (f.num ∷ f.den ∷ g.num ∷ g.den ∷ []) (po x1 h) x2 (con (pos 0))
      (eqn (con (pos 1)) (x2 ⊗ x1) (x0 ⊗ x3) l.same ⊹ eqn x3 x0 (con (pos 0)) e) tt)
      (λ e. eq_cancel (f.num ∷ f.den ∷ g.num ∷ g.den ∷ []) (po x3 l.lowest.positive) x0 (con (pos 0))
      (eqn (neg (con (pos 1))) (x2 ⊗ x1) (x0 ⊗ x3) l.same ⊹ eqn x1 x2 (con (pos 0)) e) tt)
      p

  pub end_lowest : {cs : List Condition} {k : ℕ} → EndSide cs f k → EndSide cs g k
  end_lowest p =
      named_lowest
      (λ e. eq_cancel (f.num ∷ f.den ∷ g.num ∷ g.den ∷ []) (po x1 h) x2 x3 (eqn (con (pos 1)) (x2 ⊗ x1) (x0 ⊗ x3) l.same ⊹ eqn x3 x0 x1 e) tt)
      (λ e. eq_cancel (f.num ∷ f.den ∷ g.num ∷ g.den ∷ []) (po x3 l.lowest.positive) x0 x1
      (eqn (neg (con (pos 1))) (x2 ⊗ x1) (x0 ⊗ x3) l.same ⊹ eqn x1 x2 x3 e) tt)
      p

-- ---- the stroke's own ends
pub own_start : {cs : List Condition} → StartSide cs zeroth no_side
own_start = record { remains = λ _. refl; fixed = λ n. absurd (n refl) }

pub own_end : {cs : List Condition} → EndSide cs unit no_side
own_end = record { remains = λ _. refl; fixed = λ n. absurd (n refl) }

-- ---- a number that is named is that of a side, or of none exactly where the end is the stroke's own or nothing is kept
pub no_ends : {n : ℕ} → OwnEnds n false zeroth zeroth no_side no_side
no_ends = record { start = (λ _. refl, λ _. refl); end = (λ _. inr refl, λ _. refl); start_side = λ n. absurd (n refl); end_side = λ n. absurd (n refl) }

first_below : {A : Type 0} {P : A → Type 0} {xs : List A} {k : ℕ} → FirstOf P xs k → k < length xs
first_below (here p) = omega arith
first_below (later n f) = let h = first_below f in omega arith

named_own : {own own' : Type 0} {P : Condition → Type 0} {cs : List Condition} {k : ℕ} → length cs < no_side → Dec own
    → (own → own') → (own' → own) → SideNamed own P cs k → ((k ≡ no_side) ↔ own') × ((k ≡ no_side → ⊥) → k < length cs)
named_own few (yes o) to from p = ((λ _. to o, λ _. p.remains o), λ n. absurd (n (p.remains o)))
named_own few (no n) to from p = let h = first_below (p.fixed n) in ((λ e. absurd (omega arith), λ o. absurd (n (from o))), λ _. h)

module _ {K : ℤ → ℤ → Type 0} {cs : List Condition} {kept : Bool} {t0 t1 : Fraction} {i j : ℕ} (p : Part K kept t0 t1) (few : length cs < no_side) where
  pub own_ends : (kept ≡ true → StartSide cs t0 i) → (kept ≡ true → EndSide cs t1 j) → (kept ≡ false → (i ≡ no_side) × (j ≡ no_side))
      → OwnEnds (length cs) kept t0 t1 i j
  own_ends s e missed = go kept refl
    where
      go : (k : Bool) → kept ≡ k → OwnEnds (length cs) kept t0 t1 i j
      go true h =
          let f = (p.first h).lowest in
          let l = (p.last h).lowest in
          let a = named_own few (ℤ_discrete t0.num (pos 0))
          (λ z.
          lowest_unique t0 zeroth f (lowest_over_one (pos 0))
          (eq_by (t0.num ∷ t0.den ∷ []) (x0 ⊗ con (pos 1)) (con (pos 0) ⊗ x1) (eqn (con (pos 1)) x0 (con (pos 0)) z) tt))
          (λ z. ap (λ (t : Fraction). t.num) z) (s h) in
          let b = named_own few (ℤ_discrete t1.num t1.den)
          (λ z.
          lowest_unique t1 unit l (lowest_over_one (pos 1))
          (eq_by (t1.num ∷ t1.den ∷ []) (x0 ⊗ con (pos 1)) (con (pos 1) ⊗ x1) (eqn (con (pos 1)) x0 x1 z) tt))
          (λ z. ap (λ (t : Fraction). t.num) z ∙ sym (ap (λ (t : Fraction). t.den) z)) (e h) in record {
            start = a.0;
            end = (λ z. inl (b.0.0 z), λ z. ⊎_elim b.0.1 (λ n. absurd (tt_ff (sym h ∙ n))) z);
            start_side = a.1;
            end_side = b.1;
          }
      go false h = let m = missed h in record {
        start = (λ _. (p.missed h).0, λ _. m.0);
        end = (λ _. inr h, λ _. m.1);
        start_side = λ n. absurd (n m.0);
        end_side = λ n. absurd (n m.1);
      }
