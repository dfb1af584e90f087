-- A side as a limit on x or on y, and a run of corners inside it or outside it.
--   line_by low a c        the line in which X, or Y where the axis a is 1, is at least c times W where low, else at most
--   limit_line l           the line of the limit l
--   SmallIn m i k         the corners in the memory m from the place i up to the place k are small
--   LiesSo out h p        p lies strictly outside h, or, where out is false, inside it or on it
--   RunTo h m out from to r   of the corners in the memory m those from one place on, up to the place r, lie so; the one at r does not, unless r is the place to
--   FirstPlace tells from to r  r is the first place from one on, up to another, of which the test tells true, or else that other one
use Rattle.std.specs.Prelude.{Bool, true, false, not, List, ℕ, zero, suc, ◌<◌, ◌≤◌, ℤ}
use Rattle.rings.specs.Points.{Point, Line, In, Out}
use Rattle.rings.specs.Windows.{left_side, right_side, bottom_side, top_side}
use Rattle.memory.specs.Memory.{point_in, Small}
use Rattle.limits.specs.declared.Limit.{Limit}

abbrev pub line_by : Bool → ℕ → ℤ → Line
line_by true zero c = left_side c
line_by false zero c = right_side c
line_by true (suc k) c = bottom_side c
line_by false (suc k) c = top_side c

abbrev pub limit_line : Limit → Line
limit_line l = line_by l.low l.axis l.c

abbrev pub SmallIn : List ℤ → ℕ → ℕ → Type 0
SmallIn m i k = (j : ℕ) → i ≤ j → j < k → Small (point_in m j)

abbrev pub LiesSo : Bool → Line → Point → Type 0
LiesSo true h p = Out h p
LiesSo false h p = In h p

pub record RunTo (h : Line) (m : List ℤ) (out : Bool) (from to r : ℕ) : Type 0 where
  pub above : from ≤ r
  pub below : r ≤ to
  pub run : (i : ℕ) → from ≤ i → i < r → LiesSo out h (point_in m i)
  pub ends : r < to → LiesSo (not out) h (point_in m r)

pub record FirstPlace (tells : ℕ → Bool → Type 0) (from to r : ℕ) : Type 0 where
  pub above : from ≤ r
  pub below : r ≤ to
  pub before : (i : ℕ) → from ≤ i → i < r → tells i false
  pub found : r < to → tells r true
