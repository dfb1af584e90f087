-- A denominator of at most 1 is 1, and over 1 a fraction is in lowest terms. Else both numbers are those of `lowest_signed`, which fit 32 bits again.
use Rattle.std.proofs.Common.{◌≡◌, ℤ, pos, ◌<ℤ◌, ◌≤ℤ◌, refl, sym, subst, to_z, of_z, w32}
use mathlib.Core.Path.{subst₂}
use native.Mathlib.Numerals.{towards_suc}
use mir.Facts.{to_z-of_z, sfits_lit}
use mir.Val.{SFits}
use Rattle.whole.proofs.Order.{zarith}
use Rattle.whole.proofs.Comparisons.{le_yes}
use Rattle.fraction.specs.Fraction.{LowestOf}
use Rattle.fraction.specs.declared.Fraction.{Fraction}
use Rattle.fraction.proofs.LowestTerms.{lowest_over_one}
use Rattle.writing.proofs.Numbers.{num_fits, den_fits}
use Rattle.writing.proofs.Narrow.{narrow_fits, narrow_is}
use Rattle.writing.proofs.write_fraction.Goals as goal

pub returns-then-d-le1 : goal.returns-then-d-le1
returns-then-d-le1 c =
    let a = c.args in
    let f = c.ranges in
    let low : pos 0 <ℤ a.d = c.requires.pos_bound in
    let high : a.d ≤ℤ pos 1 = le_yes (to_z-of_z f.d) (to_z-of_z {w = w32} (sfits_lit {z = pos 1} tt)) c.if-d-le1.true in
    let one : a.d ≡ pos 1 = omega zarith in
    record {
      fraction = record { num = a.n; den = a.d };
      lowest = subst (λ (d : ℤ). LowestOf a.n d (record { num = a.n; den = d })) (sym one) (record { lowest = lowest_over_one a.n; same = refl });
      output = simp (to_z-of_z f.n, to_z-of_z f.d) (simp towards_suc);
    }

-- what `lowest_signed` answers of two numbers as they are read
lowest : {n d : ℤ} {f : Fraction} → SFits w32 n → SFits w32 d → LowestOf (to_z w32 (of_z w32 n)) (to_z w32 (of_z w32 d)) f → LowestOf n d f
lowest {f} hn hd = subst₂ (λ (n d : ℤ). LowestOf n d f) (to_z-of_z hn) (to_z-of_z hd)

pub overflow_cast-num : goal.overflow_cast-num
overflow_cast-num c =
    let f = c.ranges in
    narrow_fits (num_fits c.requires.pos_bound (lowest f.n f.d c.lowest_signed-f.ensures) f.n)

pub overflow_cast-den : goal.overflow_cast-den
overflow_cast-den c =
    let f = c.ranges in
    narrow_fits (den_fits c.requires.pos_bound (lowest f.n f.d c.lowest_signed-f.ensures) f.d)

pub returns : goal.returns
returns c =
    let f = c.ranges in
    let l = lowest f.n f.d c.lowest_signed-f.ensures in
    record {
      fraction = c.lowest_signed-f.result;
      lowest = l;
      output = simp (narrow_is (num_fits c.requires.pos_bound l f.n), narrow_is (den_fits c.requires.pos_bound l f.d)) (simp towards_suc);
    }
