-- What stands in memory at the two ends of the run outside, where the crossings are those of the outline's own edges.
use mathlib.Core.Path.{◌≡◌, refl, sym, ap, ◌∙◌, subst}
use mathlib.Core.Bool.{Bool}
use mathlib.Core.List.{List, [], ◌∷◌}
use mathlib.Core.Logic.{inl}
use Prim.Native.Nat.{ℕ, ◌+◌, ◌*◌, ◌/◌, ◌<◌, ◌≤◌}
use native.Mathlib.Nat.{add-zero}
use native.Mathlib.Omega.{arith}
use lib.IntN.{ℤ, pos}
use lib.ListN.{length}
use Rattle.whole.specs.Choice.{Decides}
use Rattle.grid.specs.declared.Window.{Window}
use Rattle.grid.specs.Sides.{Side}
use Rattle.rings.specs.Points.{Point, Line, In, Over, On}
use Rattle.memory.specs.Memory.{point_in}
use Rattle.memory.specs.Tagged.{Tagged, tagged, tag_in, corner_in, corners_from, loaded_of}
use Rattle.memory.proofs.Memories.{put_at_lem}
use Rattle.limits.specs.Sides.{side_line}
use Rattle.limits.proofs.Owned.{loaded_of_lem}
use Rattle.crossings.specs.Tags.{edge_of, Names, edge}
use Rattle.crossings.specs.Meetings.{Meets, Meeting}
use Rattle.remains.specs.Ends.{Went}
use Rattle.remains.specs.Ends as ends
use Rattle.remains.specs.Runs.{Comes, on_line, crosses}
use Rattle.remains.proofs.Ends.{Gone, gone, over}
use Rattle.first_pass.specs.First.{EnteredOwn}
use Rattle.first_pass.specs.First as first

-- the crossing of the outline's own edge from the corner k, by its tag
meeting : (w : Window) (zs : List ℤ) {h : Line} {t : ℤ} {p : Point} (k : ℕ) → k < length zs / 2 → t ≡ pos k → Meets h (edge_of zs k) p → Meeting w zs h t p
meeting w zs k l e met = record { stroke = edge_of zs k; named = subst (λ (t : ℤ). Names w zs t (edge_of zs k)) (sym e) (edge k l); meets = met }

-- ---- where it goes out, by a limit whose line h is the side's
pub gone_own : {w : Window} {zs : List ℤ} {s : Side} {h : Line} {here : Bool} {m : List ℤ} {i : ℕ} {m' : List ℤ} {r : ℕ} (k : ℕ)
    → h ≡ side_line w s → k < length zs / 2 → tag_in m i ≡ pos k → 4 * i + 8 ≤ length m → Decides here (On h (point_in m i)) → In h (point_in m i)
    → Went (Meets h (edge_of zs k)) s here m i m' r → Gone w zs s m i m' r
gone_own k q l t h e j (ends.on_line x) = gone q h e j (ends.on_line x)
gone_own {w} {zs} k q l t h e j (ends.crosses x met) = gone q h e j (ends.crosses x (meeting w zs k l t met))

pub went_few : {Met : Point → Type 0} {s : Side} {here : Bool} {m : List ℤ} {i : ℕ} {m' : List ℤ} {r : ℕ} → Went Met s here m i m' r → (i < r) × (r ≤ i + 2)
went_few (ends.on_line x) = (omega arith, omega arith)
went_few (ends.crosses x met) = (omega arith, omega arith)

-- ---- where it comes in: the corners c from the place at up to the place r; g is a memory with the outline's corners
pub record CameOwn (w : Window) (zs : List ℤ) (s : Side) (g : List ℤ) (k : ℕ) (p : Point) (m : List ℤ) (at : ℕ) (m' : List ℤ) (r : ℕ) : Type 0 where
  pub c : List Tagged
  pub comes : Comes w zs s (corner_in g k) p c
  pub count : ℕ
  pub few : count ≤ 1
  pub end : r ≡ at + count
  pub stands : corners_from m' at count ≡ c
  pub before : (j : ℕ) → j < at → corner_in m' j ≡ corner_in m j

pub came_own : {w : Window} {zs : List ℤ} {s : Side} {h : Line} {there : Bool} {k : ℕ} {p : Point} {m : List ℤ} {at : ℕ} {m' : List ℤ} {r : ℕ}
    → h ≡ side_line w s → k < length zs / 2 → 4 * at + 4 ≤ length m → Decides there (On h p) → In h p → EnteredOwn zs h there k m at m' r
    → CameOwn w zs s (loaded_of zs) k p m at m' r
unfolding corners_from
came_own {p = z} {at = at} q l h e i (first.on_line t) = record {
  c = [];
  comes = on_line (subst (λ (h : Line). On h z) q (e.yes t));
  count = 0;
  few = omega arith;
  end = sym (add-zero at);
  stands = refl;
  before = λ j b. refl;
}
came_own {w} {zs} {s} {h = line} {k = k} {p = z} {m} {at} q l h e i (first.crosses {p = x} t met) =
    let p = put_at_lem m at x (pos k) h in
    let tag = (loaded_of_lem zs).tag k l in
    record {
      c = tagged x (tag_in (loaded_of zs) k) ∷ [];
      comes = crosses (subst (λ (h : Line). Over h z) q (over line z i (e.no t))) (meeting w zs k l tag (subst (λ (h : Line). Meets h (edge_of zs k) x) q met));
      count = 1;
      few = omega arith;
      end = refl;
      stands = λ j. (p.put ∙ ap (tagged x) (sym tag)) j ∷ [];
      before = λ j b. p.others j (inl b);
    }

pub entered_few : {zs : List ℤ} {h : Line} {there : Bool} {k : ℕ} {m : List ℤ} {at : ℕ} {m' : List ℤ} {r : ℕ} → EnteredOwn zs h there k m at m' r
    → (at ≤ r) × (r ≤ at + 1)
entered_few (first.on_line x) = (omega arith, omega arith)
entered_few (first.crosses x met) = (omega arith, omega arith)
