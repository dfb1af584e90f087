-- What the passes are given, and what all four promise.
--   Cutting w zs cs            at the place of a side of the window w the list cs has false only where no corner of the outline zs lies outside it
--   Running w o zs m p k ns    the first k sides in the order o have left of the outline zs the ring at p in m, which lies inside each line that
--                              the outline does, and ns says how many corners each left on the way; what the remaining sides leave
--                              of that ring, all four leave of the outline
--   no_corners                  the counts of four passes, where no area is left
--   nothing_left                what is left then: no place, and no corners
--   Ran w o zs m l             what `run` promises: one pass a side, in the order o, leaves of the outline zs the ring at l's places in m, and
--                              each pass as many corners as l counts; or no area is left
use Rattle.std.specs.Prelude.{◌≡◌, Bool, false, List, [], ◌∷◌, ◌++◌, ℕ, ◌+◌, ◌-◌, ◌*◌, ◌/◌, ◌≤◌, ℤ, length, get_or, drop}
use Rattle.std.proofs.Math.Option.{none}
use Rattle.grid.specs.declared.Window.{Window}
use Rattle.grid.specs.Sides.{Side, place_of}
use Rattle.rings.specs.Lists.{All}
use Rattle.rings.specs.Points.{Point, Line, In}
use Rattle.rings.specs.Cuts.{Cuts, Passes}
use Rattle.convex.specs.Corners.{corners_of}
use Rattle.memory.specs.declared.Places.{Places}
use Rattle.memory.specs.Memory.{places, ring_at, Small}
use Rattle.limits.specs.Sides.{side_line}
use Rattle.remains.specs.Remains.{Held}
use Rattle.passes.specs.Orders.{lines_in}
use Rattle.passes.specs.declared.Leftover.{Leftover}

abbrev pub Cutting : Window → List ℤ → List Bool → Type 0
Cutting w zs cs = (k : Side) → get_or cs (place_of k) false ≡ false → All (In (side_line w k)) (corners_of zs)

pub record Running (w : Window) (o : ℕ) (zs m : List ℤ) (p : Places) (k : ℕ) (ns : List ℕ) : Type 0 where
  pub held : Held w zs m p
  pub order : p.from ≤ p.to
  pub room : p.to ≤ length zs / 2 + k
  pub inside : (h : Line) → All (In h) (corners_of zs) → All (In h) (ring_at m p)
  pub so_far : (t : List Point) (ks : List ℕ) → Passes (drop k (lines_in o w)) (ring_at m p) ks t
      → Passes (lines_in o w) (corners_of zs) (ns ++ ks) t
  pub none_so_far : Cuts (drop k (lines_in o w)) (ring_at m p) none → Cuts (lines_in o w) (corners_of zs) none

abbrev pub no_corners : List ℕ
no_corners = 0 ∷ 0 ∷ 0 ∷ 0 ∷ []

abbrev pub nothing_left : Leftover
nothing_left = record { places = places 0 0; counts = no_corners }

-- the ring does not depend on the order, but the counts on the way may: by them it can be seen in which order the passes ran
pub data Ran (w : Window) (o : ℕ) (zs m : List ℤ) : Leftover → Type 0 where
  without_area : Cuts (lines_in o w) (corners_of zs) none → Ran w o zs m nothing_left
  area : {l : Leftover} → l.places.from ≤ l.places.to → 4 * l.places.to ≤ length m → 3 ≤ l.places.to - l.places.from
      → l.places.to - l.places.from ≤ length (corners_of zs) + 4
      → Passes (lines_in o w) (corners_of zs) l.counts (ring_at m l.places)
      → All Small (ring_at m l.places)
      → Ran w o zs m l
