-- The test as the code walks it: the latest edge is kept, every turn so far goes left, and the changes so far are counted.
use mathlib.Core.Path.{◌≡◌, refl, sym, ap, ◌∙◌, subst}
use mathlib.Core.Bool.{true, false}
use mathlib.Core.List.{List}
use Prim.Native.Nat.{ℕ, suc, ◌+◌, ◌-◌, ◌*◌, ◌≤◌, ◌<◌}
use native.Mathlib.Omega.{arith}
use borrow.Author.Count.{below_more}
use lib.Dec.{eqb}
use lib.IntN.{ℤ}
use lib.ListN.{length}
use Rattle.convex.specs.Corners.{corners_of, strictly_convex, CornersOnTable}
use Rattle.convex.specs.Ways.{Short, corner_at, way_from, turns_left, change_of}
use Rattle.convex.specs.declared.Way.{Way}
use Rattle.convex.proofs.Places.{corner, count, three_corners}
use Rattle.convex.proofs.Sums.{sum, sum_most}
use Rattle.convex.proofs.Rounds.{place_of, edge_of, around, edge_short, edge_again, not_left}
use Rattle.convex.proofs.Changes.{change_of_lem, change_most, two_changes}

pub record Walked (zs : List ℤ) (edge : Way) (changes i : ℕ) : Type 0 where
  pub k : ℕ
  pub place : i ≡ 2 * suc k
  pub upto : k < length (corners_of zs)
  pub edge_is : edge ≡ edge_of zs k
  pub left : (j : ℕ) → j < k → turns_left (edge_of zs j) (edge_of zs (suc j)) ≡ true
  pub changes_is : changes ≡ sum k (change_of_lem zs)

module _ {zs : List ℤ} (g : CornersOnTable zs) where
  here : (i : ℕ) → i < length (corners_of zs) → corner zs i ≡ corner zs (place_of zs (suc i))
  here i h = ap (corner zs) (sym ((around g).is i h))

  -- the closing edge
  pub closing_is : {closing : Way} → closing ≡ way_from (corner_at zs (length zs - 2)) (corner_at zs 0) → closing ≡ edge_of zs 0
  closing_is e = e ∙ λ t. way_from (corner_at zs (last t)) (here 0 (omega (arith, three_corners g)) t)
    where
      last : length zs - 2 ≡ 2 * (length (corners_of zs) - 1)
      last = omega (arith, count zs, g.even, g.three)

  pub walked_start : {closing : Way} → closing ≡ edge_of zs 0 → Walked zs closing 0 2
  walked_start e = record { k = 0; place = refl; upto = omega (arith, three_corners g); edge_is = e; left = λ j h. absurd (omega arith); changes_is = refl }

  module _ {edge : Way} {changes i : ℕ} (w : Walked zs edge changes i) where
    pub walked_short : Short edge
    walked_short = subst Short (sym w.edge_is) (edge_short g w.k)

    pub few_changes : (next : Way) → changes + change_of edge next ≤ length zs
    few_changes next =
        omega (arith, w.changes_is, w.upto, count zs, sum_most (change_of_lem zs) (λ j. change_most (edge_of zs j) (edge_of zs (suc j))) w.k, change_most edge next)

    -- the edge to the corner at i
    pub next_is : i < length zs → {next : Way} → next ≡ way_from (corner_at zs (i - 2)) (corner_at zs i) → next ≡ edge_of zs (suc w.k)
    next_is h e =
        e ∙ (λ t. way_from (corner_at zs (from t)) (corner_at zs (w.place t)))
        ∙ (λ t. way_from (here w.k w.upto t) (here (suc w.k) (omega (arith, w.place, count zs, g.even)) t))
      where
        from : i - 2 ≡ 2 * w.k
        from = omega (arith, w.place)

    all_walked : length zs ≤ i → suc w.k ≡ length (corners_of zs)
    all_walked h = omega (arith, w.place, w.upto, count zs)

    -- after the last corner, the closing edge
    pub last_is : length zs ≤ i → {closing : Way} → closing ≡ edge_of zs 0 → closing ≡ edge_of zs (suc w.k)
    last_is h e = e ∙ sym (edge_again g) ∙ ap (edge_of zs) (sym (all_walked h))

    module _ {next : Way} (n : next ≡ edge_of zs (suc w.k)) where
      pub not_turning : turns_left edge next ≡ false → strictly_convex (corners_of zs) ≡ false
      not_turning e = not_left g w.k (sym (λ t. turns_left (w.edge_is t) (n t)) ∙ e)

      turned : turns_left edge next ≡ true → (j : ℕ) → j < suc w.k → turns_left (edge_of zs j) (edge_of zs (suc j)) ≡ true
      turned e j h =
          below_more (λ (j : ℕ). turns_left (edge_of zs j) (edge_of zs (suc j)) ≡ true) w.k w.left (sym (λ t. turns_left (w.edge_is t) (n t)) ∙ e) j (omega arith)

      counted : changes + change_of edge next ≡ sum (suc w.k) (change_of_lem zs)
      counted = λ t. w.changes_is t + change_of (w.edge_is t) (n t)

      pub walked_more : i < length zs → turns_left edge next ≡ true → Walked zs next (changes + change_of edge next) (i + 2)
      walked_more h e = record {
        k = suc w.k;
        place = omega (arith, w.place);
        upto = omega (arith, w.place, count zs, g.even);
        edge_is = n;
        left = turned e;
        changes_is = counted;
      }

      pub walked_end : length zs ≤ i → turns_left edge next ≡ true → eqb (changes + change_of edge next) 2 ≡ strictly_convex (corners_of zs)
      walked_end h e =
          ap (λ (c : ℕ). eqb c 2) (counted ∙ ap (λ (n : ℕ). sum n (change_of_lem zs)) (all_walked h)) ∙ two_changes g (λ j l. turned e j (omega (arith, all_walked h)))
