-- The numbers of a ring: alike rings have the same, since a fraction has one pair of numbers in lowest terms; and those that Euclid's rule computes are they.
use mathlib.Core.Path.{◌≡◌, refl}
use mathlib.Core.List.{List, [], ◌∷◌, ◌++◌}
use Prim.Native.Nat.{◌*◌}
use native.Mathlib.Omega.{arith}
use lib.IntN.{ℤ, pos, negsuc, neg_ℤ, ◌*ℤ◌}
use lib.ListN.{length}
use lib.Signed.{◌≤ℤ◌, ◌<ℤ◌}
use mir.Syntax.{w32}
use mir.Val.{SFits}
use Rattle.whole.proofs.Expressions.{var, con, ◌⊗◌, x0, x1, x2, x3}
use Rattle.whole.proofs.Order.{zarith}
use Rattle.whole.proofs.Certificates.{eqn, ◌⊹◌, eq_cancel, ge_by, po, le, eq, ◌⊞◌, ◌⊠◌}
use Rattle.whole.proofs.Comparisons.{fits_low, fits_high, fits_range}
use Rattle.fraction.specs.Fraction.{LowestOf}
use Rattle.fraction.specs.declared.Fraction.{Fraction}
use Rattle.fraction.proofs.LowestTerms.{lowest_least, lowest_of_unique}
use Rattle.fraction.proofs.Computed.{lowest_of, lowest_of_is}
use Rattle.rings.specs.Lists.{All, ∅, ◌◂◌}
use Rattle.rings.specs.Points.{Point, Proper, Alike, ∅ˢ, ◌◂ˢ◌}
use Rattle.writing.specs.Numbers.{RingNumbers, no_corner, corner}

-- n/d and m/e are the same fraction
pub lowest_same : {n d m e : ℤ} {f : Fraction} → pos 0 <ℤ d → n *ℤ e ≡ m *ℤ d → LowestOf n d f → LowestOf m e f
lowest_same {n} {d} {m} {e} {f} h q l = record {
  lowest = l.lowest;
  same = eq_cancel (n ∷ d ∷ m ∷ e ∷ f.num ∷ f.den ∷ []) (po x1 h) (var 4 ⊗ x3) (x2 ⊗ var 5)
      (eqn x3 (var 4 ⊗ x1) (x0 ⊗ var 5) l.same ⊹ eqn (var 5) (x0 ⊗ x3) (x2 ⊗ x1) q) tt;
}

-- in lowest terms no number is further from 0, so both fit where they did
lowest_between : {n d : ℤ} {f : Fraction} (lo hi : ℤ) → lo ≤ℤ pos 0 → pos 0 ≤ℤ hi → lo ≤ℤ n → n ≤ℤ hi → pos 0 <ℤ d → LowestOf n d f → (lo ≤ℤ f.num) × (f.num ≤ℤ hi)
lowest_between {n} {d} {f} lo hi l₀ h₀ l h p q =
    let ρ = n ∷ d ∷ f.num ∷ f.den ∷ lo ∷ hi ∷ [] in
    let nought = con (pos 0) in
    let den = po x3 q.lowest.positive in
    let less = le x3 x1 (lowest_least p q) in (
      ge_by ρ (po x1 p) (var 4) x2 (le (var 4) x0 l ⊠ den ⊞ le (var 4) nought l₀ ⊠ less ⊞ eq (con (pos 1)) (x2 ⊗ x1) (x0 ⊗ x3) q.same) tt,
      ge_by ρ (po x1 p) x2 (var 5) (le x0 (var 5) h ⊠ den ⊞ le nought (var 5) h₀ ⊠ less ⊞ eq (con (negsuc 0)) (x2 ⊗ x1) (x0 ⊗ x3) q.same) tt,
    )

module _ {n d : ℤ} {f : Fraction} (p : pos 0 <ℤ d) (q : LowestOf n d f) where
  pub num_fits : SFits w32 n → SFits w32 f.num
  num_fits g =
      let l = fits_low g in
      let h = fits_high g in
      let b = lowest_between (neg_ℤ (pos 2147483648)) (pos 2147483647) (omega zarith) (omega zarith) l (omega zarith) p q in
      fits_range b.0 (let k = b.1 in omega zarith)

  pub den_fits : SFits w32 d → SFits w32 f.den
  den_fits g = let h = fits_high g in let l = lowest_least p q in let k = q.lowest.positive in fits_range (omega zarith) (omega zarith)

-- ---- one list of numbers
pub numbers_unique : {r s : List Point} {xs ys : List ℤ} → Alike r s → RingNumbers r xs → RingNumbers s ys → xs ≡ ys
numbers_unique ∅ˢ no_corner no_corner = refl
numbers_unique (e ◂ˢ a) (corner p ps) (corner q qs) =
    let x = lowest_of_unique e.second (lowest_same e.first e.x p.x) q.x in
    let y = lowest_of_unique e.second (lowest_same e.first e.y p.y) q.y in
    let rest = numbers_unique a ps qs in
    λ i. (x i).num ∷ (x i).den ∷ (y i).num ∷ (y i).den ∷ rest i

pub numbers_length : {r : List Point} {xs : List ℤ} → RingNumbers r xs → length xs ≡ 4 * length r
numbers_length no_corner = refl
numbers_length (corner p ps) = omega (arith, numbers_length ps)

pub numbers_append : {r s : List Point} {xs ys : List ℤ} → RingNumbers r xs → RingNumbers s ys → RingNumbers (r ++ s) (xs ++ ys)
numbers_append no_corner q = q
numbers_append (corner p ps) q = corner p (numbers_append ps q)

-- ---- the computed numbers
unfoldable pub numbers_of : List Point → List ℤ
numbers_of [] = []
numbers_of (p ∷ r) =
    let x = lowest_of p.X p.W in
    let y = lowest_of p.Y p.W in
    x.num ∷ x.den ∷ y.num ∷ y.den ∷ numbers_of r

pub numbers_of_lem : {r : List Point} → All Proper r → RingNumbers r (numbers_of r)
unfolding numbers_of
numbers_of_lem ∅ = no_corner
numbers_of_lem (◌◂◌ {x = p} h a) = corner (record { x = lowest_of_is p.X h; y = lowest_of_is p.Y h }) (numbers_of_lem a)
