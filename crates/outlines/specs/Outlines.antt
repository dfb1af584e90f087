-- An outline against a rectangle: what the call refuses, the ring that it gives, and the passes by which it is found.
--   last_order              the side orders are 0 to 23
--   bad_order o             4 where the side order is above 23
--   outline_refusal w o zs  what the call refuses: 2, 3, 4, 5, 6, then 7
--   Common w zs p          p lies in the outline zs and in the closed window w
--   OutlineRing w zs xs    xs are the numbers of the ring of exactly the points in common, counterclockwise, started at the
--                          lowest corner, of those the leftmost
--   OutlineNoArea w zs xs  there are no numbers, and the points in common all lie on one line
--   OutlineGives w zs xs   the one or the other
--   SmallDenominators xs   no denominator in xs passes 32,766
--   ByPasses w o zs xs ns  one pass a side, in the order o, leaves a ring, of which xs are the numbers, and each pass as many
--                          corners as ns says; or it leaves none, and both say so
--   OutlineClipped w o zs xs ns   xs and ns are right for a window, an order and an outline in which nothing is refused
--   refused_outline r       the answer that refuses by r: every other field is 0
--   gave_outline ns xs      the answer where xs is given and the passes left as many corners as ns says
--   OutlineDone w o zs a before after   the answer a and the output before and after the call, where nothing of these is refused:
--                          numbers and counts that are right are given, or the numbers have no room
--   Outline w o zs a before after   what `outlines::clip_outline` promises, with the output before and after, refusals included
use Rattle.std.specs.Prelude.{◌≡◌, List, [], ◌∷◌, ◌↔◌, ℕ, ◌+◌, ◌≤◌, leb, ℤ, pos, length, ◌≤ℤ◌}
use Rattle.std.proofs.Math.Option.{none}
use Rattle.whole.specs.Choice.{when◌then◌else◌}
use Rattle.grid.specs.Calls.{Lent, GivenBy}
use Rattle.grid.specs.Refusals.{no_order, wrong_length, number_off, not_convex, refuse, first, off_table, window_refusal}
use Rattle.grid.specs.Refusals as grid
use Rattle.grid.specs.declared.Refusal.{Refusal}
use Rattle.grid.specs.declared.Window.{Window}
use Rattle.rings.specs.Lists.{Turned}
use Rattle.rings.specs.Points.{Point, Line, On, Real, Proper}
use Rattle.rings.specs.Rings.{Ring, InRing, Starts}
use Rattle.rings.specs.Cuts.{Cuts, Passes}
use Rattle.rings.specs.Windows.{InWindow}
use Rattle.convex.specs.Corners.{corners_of, most_corners, count_refusal, convex_refusal}
use Rattle.passes.specs.Orders.{lines_in}
use Rattle.passes.specs.Passes.{no_corners}
use Rattle.writing.specs.Numbers.{RingNumbers}
use Rattle.outlines.specs.declared.OutlineAnswer.{OutlineAnswer}

-- ---- refusals
abbrev pub last_order : ℕ
last_order = 23

unfoldable pub bad_order : ℕ → Refusal
bad_order o = when leb o last_order then grid.none else refuse no_order 0

unfoldable pub outline_refusal : Window → ℕ → List ℤ → Refusal
outline_refusal w o zs =
    first (window_refusal w ∷ bad_order o ∷ count_refusal most_corners wrong_length zs ∷ off_table number_off zs ∷ convex_refusal not_convex zs ∷ [])

-- ---- the points in common
pub record Common (w : Window) (zs : List ℤ) (p : Point) : Type 0 where
  pub outline : InRing (corners_of zs) p
  pub window : InWindow w.left w.bottom w.right w.top p

pub record OutlineRing (w : Window) (zs xs : List ℤ) : Type 0 where
  pub corners : List Point
  pub ring : Ring corners
  pub starts : Starts corners
  pub few : length corners ≤ length (corners_of zs) + 4
  pub points : (p : Point) → Proper p → InRing corners p ↔ Common w zs p
  pub numbers : RingNumbers corners xs

pub record OutlineNoArea (w : Window) (zs xs : List ℤ) : Type 0 where
  pub nothing : xs ≡ []
  pub line : Line
  pub real : Real line
  pub flat : (p : Point) → Proper p → Common w zs p → On line p

pub data OutlineGives (w : Window) (zs xs : List ℤ) : Type 0 where
  area : OutlineRing w zs xs → OutlineGives w zs xs
  without_area : OutlineNoArea w zs xs → OutlineGives w zs xs

-- fractions, two numbers each
pub data SmallDenominators : List ℤ → Type 0 where
  no_fraction : SmallDenominators []
  fraction : {n d : ℤ} {xs : List ℤ} → d ≤ℤ pos 32766 → SmallDenominators xs → SmallDenominators (n ∷ d ∷ xs)

-- ---- the passes
pub data ByPasses (w : Window) (o : ℕ) (zs : List ℤ) : List ℤ → List ℕ → Type 0 where
  ring_left : {t r : List Point} {xs : List ℤ} {ns : List ℕ} → Passes (lines_in o w) (corners_of zs) ns t → Turned t r → Starts r
      → RingNumbers r xs → ByPasses w o zs xs ns
  none_left : Cuts (lines_in o w) (corners_of zs) none → ByPasses w o zs [] no_corners

-- ---- the call
-- `gives` says what the numbers are, whatever program finds them; `passes` how they are found. The ring is the same in every
-- order, but the corners on the way need not be: by their counts a caller sees in which order the passes ran
pub record OutlineClipped (w : Window) (o : ℕ) (zs xs : List ℤ) (ns : List ℕ) : Type 0 where
  pub gives : OutlineGives w zs xs
  pub denominators : SmallDenominators xs
  pub passes : ByPasses w o zs xs ns

abbrev pub refused_outline : Refusal → OutlineAnswer
refused_outline r = record { number = r.number; place = r.place; count = 0; passes = no_corners }

abbrev pub gave_outline : List ℕ → List ℤ → OutlineAnswer
gave_outline ns xs = record { number = 0; place = 0; count = length xs; passes = ns }

pub record OutlineDone (w : Window) (o : ℕ) (zs : List ℤ) (a : OutlineAnswer) (before after : List ℤ) : Type 0 where
  pub counts : List ℕ
  pub given : GivenBy refused_outline (gave_outline counts) (λ xs. OutlineClipped w o zs xs counts) a before after

abbrev pub Outline : Window → ℕ → List ℤ → OutlineAnswer → List ℤ → List ℤ → Type 0
Outline w o zs = Lent refused_outline (outline_refusal w o zs) (OutlineDone w o zs)
