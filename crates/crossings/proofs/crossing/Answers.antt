-- A tag below 64 is the place of an outline's corner, and else a side of the window.
use mathlib.Core.Path.{◌≡◌, refl, sym, ap, ◌∙◌, subst}
use mathlib.Core.List.{List}
use Prim.Native.Nat.{ℕ, ◌+◌, ◌-◌, ◌/◌, ◌<◌, ◌≤◌}
use native.Mathlib.Omega.{arith}
use lib.Dec.{T}
use lib.IntN.{ℤ, pos, nat_abs}
use lib.ListN.{length}
use lib.Signed.{non_neg}
use mir.Syntax.{w32, w64}
use mir.Val.{Fits, SFits, to_z, of_z}
use mir.Facts.{to_z-of_z}
use Rattle.grid.specs.declared.Window.{Window}
use Rattle.grid.specs.declared.Stroke.{Stroke}
use Rattle.grid.specs.Sides.{Side, place_of, side_at}
use Rattle.crossings.specs.Tags.{side_stroke, side_tag, edge_of, Names, edge, side}
use Rattle.limits.proofs.Sides.{place_below, side_place}
use Rattle.crossings.proofs.crossing.Goals as goal

-- a tag is the place of a corner or, from 64 on, a side
record Tag (w : Window) (zs : List ℤ) (t : ℤ) (k : ℕ) : Type 0 where
  is : t ≡ pos k
  few : k < 68
  corner : k < 64 → k < length zs / 2
  own : k < 64 → Names w zs t (edge_of zs k)
  side : 64 ≤ k → Names w zs t (side_stroke w (side_at (k - 64)))

tag : {w : Window} {zs : List ℤ} {t : ℤ} {e : Stroke} → length zs ≤ 128 → Names w zs t e → Tag w zs t (nat_abs t)
tag h (edge k l) = record { is = refl; few = omega arith; corner = λ _. l; own = λ _. edge k l; side = λ j. absurd (omega arith) }
tag {w} {zs} h (side k) =
    let e : 64 + place_of k - 64 ≡ place_of k = omega arith in
    let at : k ≡ side_at (64 + place_of k - 64) = sym (ap side_at e ∙ side_place k) in
    let l = place_below k in
    record {
      is = refl;
      few = omega arith;
      corner = λ j. absurd (omega arith);
      own = λ j. absurd (omega arith);
      side = λ _. subst (λ (i : Side). Names w zs (side_tag k) (side_stroke w i)) at (side k);
    }

-- as it is read
read : {w : Window} {zs : List ℤ} {t : ℤ} {e : Stroke} → SFits w32 t → length zs ≤ 128 → Names w zs t e → Tag w zs t (nat_abs (to_z w32 (of_z w32 t)))
read {w} {zs} {t} f h n = subst (λ (z : ℤ). Tag w zs t (nat_abs z)) (sym (to_z-of_z f)) (tag h n)

pub overflow_cast-k : goal.overflow_cast-k
overflow_cast-k c =
    let t = tag c.requires.outline_on_table.corners.few c.requires.named.1 in
    subst (λ (z : ℤ). T (non_neg z) × Fits w64 (nat_abs z)) (sym (to_z-of_z c.ranges.tag ∙ t.is)) (tt, record { fits = omega (arith, t.few) })

pub edge_crossing-requires-clause-k_in_bounds : goal.edge_crossing-requires-clause-k_in_bounds
edge_crossing-requires-clause-k_in_bounds c = (read c.ranges.tag c.requires.outline_on_table.corners.few c.requires.named.1).corner c.if-k-lt64.true

pub returns-then-k-lt64 : goal.returns-then-k-lt64
returns-then-k-lt64 c =
    let t = read c.ranges.tag c.requires.outline_on_table.corners.few c.requires.named.1 in
    record { stroke = _; named = t.own c.if-k-lt64.true; meets = c.edge_crossing.ensures }

pub side_crossing-requires-clause-s_bound : goal.side_crossing-requires-clause-s_bound
side_crossing-requires-clause-s_bound c = omega (arith, (read c.ranges.tag c.requires.outline_on_table.corners.few c.requires.named.1).few)

pub returns : goal.returns
returns c =
    let t = read c.ranges.tag c.requires.outline_on_table.corners.few c.requires.named.1 in
    record { stroke = _; named = t.side c.if-k-lt64.false; meets = c.side_crossing.ensures }
