-- What stands in memory where the ring goes out: the last corner inside and, unless it lies on the line, the crossing.
use mathlib.Core.Path.{◌≡◌, refl, sym, ap, ◌∙◌, subst}
use mathlib.Core.Bool.{Bool}
use mathlib.Core.List.{List, [], ◌∷◌}
use mathlib.Core.Logic.{inl, inr, ⊎_elim}
use Prim.Native.Nat.{ℕ, ◌+◌, ◌*◌, ◌<◌, ◌≤◌}
use native.Mathlib.Numerals.{add-one}
use native.Mathlib.Omega.{arith}
use lib.IntN.{ℤ, pos}
use lib.ListN.{length}
use Rattle.whole.specs.Choice.{Decides}
use Rattle.whole.proofs.Order.{≤_total, ≤_antisym}
use Rattle.grid.specs.declared.Window.{Window}
use Rattle.grid.specs.Sides.{Side}
use Rattle.rings.specs.Points.{Point, Line, value, In, Over, On}
use Rattle.memory.specs.Memory.{point_in}
use Rattle.memory.specs.Tagged.{Tagged, tagged, tag_in, corner_in, corners_from, put_at}
use Rattle.memory.proofs.Memories.{put_at_lem}
use Rattle.limits.specs.Sides.{side_line}
use Rattle.crossings.specs.Tags.{side_tag}
use Rattle.crossings.specs.Meetings.{Meeting}
use Rattle.remains.specs.Ends.{Went}
use Rattle.remains.specs.Ends as ends
use Rattle.remains.specs.Runs.{Goes, on_line, crosses}

-- the corners t, from the place i up to the place r
pub record Gone (w : Window) (zs : List ℤ) (s : Side) (m : List ℤ) (i : ℕ) (m' : List ℤ) (r : ℕ) : Type 0 where
  pub t : List Tagged
  pub goes : Goes w zs s (corner_in m i) [] t
  pub count : ℕ
  pub some : 1 ≤ count
  pub few : count ≤ 2
  pub end : r ≡ i + count
  pub stands : corners_from m' i count ≡ t
  pub before : (j : ℕ) → j < i → corner_in m' j ≡ corner_in m j
  pub after : (j : ℕ) → r ≤ j → corner_in m' j ≡ corner_in m j

-- a corner inside that is not on the line
pub over : (h : Line) (p : Point) → In h p → (On h p → ⊥) → Over h p
over h p k n = ⊎_elim (λ l. absurd (n (≤_antisym l k))) (λ l. l) (≤_total (value h p) (pos 0))

-- by a limit whose line h is the side's
pub gone : {w : Window} {zs : List ℤ} {s : Side} {h : Line} {here : Bool} {m : List ℤ} {i : ℕ} {m' : List ℤ} {r : ℕ}
    → h ≡ side_line w s → 4 * i + 8 ≤ length m → Decides here (On h (point_in m i)) → In h (point_in m i) → Went (Meeting w zs h (tag_in m i)) s here m i m' r
    → Gone w zs s m i m' r
unfolding corners_from
gone {s = s} {m = m} {i} q h e k (ends.on_line l) =
    let p = put_at_lem m i (point_in m i) (side_tag s) (omega arith) in
    record {
      t = tagged (point_in m i) (side_tag s) ∷ [];
      goes = on_line (subst (λ (h : Line). On h (point_in m i)) q (e.yes l));
      count = 1;
      some = omega arith;
      few = omega arith;
      end = refl;
      stands = λ j. p.put j ∷ [];
      before = λ j b. p.others j (inl b);
      after = λ j b. p.others j (inr (omega arith));
    }
gone {w} {zs} {s} {h = line} {m = m} {i} q h e k (ends.crosses {p = x} l met) =
    let p = put_at_lem m (i + 1) x (side_tag s) (omega arith) in
    record {
      t = corner_in m i ∷ tagged x (side_tag s) ∷ [];
      goes = crosses (subst (λ (h : Line). Over h (point_in m i)) q (over line (point_in m i) k (e.no l))) (subst (λ (h : Line). Meeting w zs h (tag_in m i) x) q met);
      count = 2;
      some = omega arith;
      few = omega arith;
      end = refl;
      stands = λ j. p.others i (inl (omega arith)) j ∷ (ap (corner_in (put_at m (i + 1) x (side_tag s))) (sym (add-one i)) ∙ p.put) j ∷ [];
      before = λ j b. p.others j (inl (omega arith));
      after = λ j b. p.others j (inr (omega arith));
    }
