-- `first_pass::keep_run` meets its contract: what each worker tells of the outline and of its memory makes the pass. Assumes nothing.
use mathlib.Core.Path.{◌≡◌, sym, ap, ◌∙◌, subst}
use mathlib.Core.Bool.{true, false}
use mathlib.Core.List.{List}
use mathlib.Core.Logic.{⊎_elim}
use Prim.Native.Nat.{ℕ, ◌+◌, ◌-◌, ◌*◌, ◌/◌, ◌<◌, ◌≤◌}
use native.Mathlib.Nat.{eq-or-lt_of_le}
use native.Mathlib.Omega.{arith}
use lib.IntN.{ℤ}
use lib.ListN.{length}
use Rattle.whole.specs.Choice.{Decides}
use Rattle.grid.specs.declared.Window.{Window}
use Rattle.grid.specs.Sides.{Side, side_at}
use Rattle.rings.specs.Points.{Point, Line, In, Out, On}
use Rattle.memory.specs.Memory.{point_in, places}
use Rattle.limits.specs.Sides.{side_line}
use Rattle.limits.specs.Limits.{limit_line}
use Rattle.memory.specs.Tagged.{loaded_of, Tagged, corner_in}
use Rattle.remains.specs.Remains.{Held}
use Rattle.limits.proofs.Runs.{run_with}
use Rattle.limits.proofs.Owned.{loaded_of_lem}
use Rattle.remains.proofs.Ends.{Gone}
use Rattle.first_pass.proofs.OwnEnds.{gone_own, CameOwn, came_own, entered_few}
use Rattle.remains.proofs.Passing.{leaves_none}
use Rattle.first_pass.proofs.FirstPass.{first_keep}
use Rattle.remains.proofs.Loaded.{loaded_held}
use Rattle.first_pass.proofs.keep_run.Statement.{statement}
use Rattle.first_pass.proofs.keep_run.Tie as tie

-- ---- what the call is given
module _ (s : tie.Start) where
  abbrev zs : List ℤ
  zs = s.args.outline.now

  -- the outline's corners in a memory
  abbrev g : List ℤ
  g = loaded_of zs

  abbrev n : ℕ
  n = length zs / 2

  abbrev h : Line
  h = limit_line s.args.l

  abbrev k : Side
  k = side_at s.args.side

  held : (w : Window) → Held w zs g (places 0 n)
  held = loaded_held s.requires.0 (loaded_of_lem zs)

  few : length zs ≤ 128
  few = s.requires.0.corners.few

  some : 0 < n
  some = omega (arith, s.requires.0.corners.three)

  fits : 2 * length zs + 4 ≤ length s.args.m.now
  fits = s.requires.1.1.0

-- ---- the run outside, up to f
module _ (c : tie.After-end_of_run-s) where
  abbrev start : tie.Start
  start = c.before

  abbrev f : ℕ
  f = c.end_of_run-s.result

  after_first : 0 < f
  after_first = omega (arith, c.end_of_run-s.ensures.above)

  all_out : (i : ℕ) → 0 ≤ i → i < f → Out (h start) (point_in (g start) i)
  all_out = run_with true start.requires.1.1.1 c.end_of_run-s.ensures

end-of-run-requires : tie.Need-end_of_run-s-requires
end-of-run-requires c κs = (omega (arith, some c), omega arith)

returns : tie.Need-returns-then-s-n
returns c w q =
    let e = c.before in
    let s = start e in
    leaves_none q (omega arith) (held s w) s.args.m.now (λ i l k. all_out e i l (omega (arith, c.if-s-n.true)))

-- ---- the run inside, up to e
module _ (c : tie.Else-s-n) where
  abbrev first : tie.After-end_of_run-s
  first = c.before

  before_end : f first < n (start first)
  before_end = ⊎_elim (λ q. absurd (c.if-s-n.false q)) (λ l. l) (eq-or-lt_of_le first.end_of_run-s.ensures.below)

  comes_in : In (h (start first)) (point_in (g (start first)) (f first))
  comes_in = first.end_of_run-s.ensures.ends before_end

add-end-of-run : tie.Need-overflow_add-s
add-end-of-run c = omega (arith, before_end c, few (start (first c)))

end-of-run-requires-2 : tie.Need-end_of_run-e-requires
end-of-run-requires-2 c κs = (omega (arith, before_end c), omega arith)

module _ (c : tie.After-end_of_run-e) where
  abbrev some_in : tie.Else-s-n
  some_in = c.before

  abbrev s₁ : tie.Start
  s₁ = start (first some_in)

  abbrev f₁ : ℕ
  f₁ = f (first some_in)

  abbrev e : ℕ
  e = c.end_of_run-e.result

  after_f : f₁ < e
  after_f = omega (arith, c.end_of_run-e.ensures.above)

  to_end : e ≤ n s₁
  to_end = c.end_of_run-e.ensures.below

  all_in : (i : ℕ) → f₁ ≤ i → i < e → In (h s₁) (point_in (g s₁) i)
  all_in = run_with false (comes_in some_in) c.end_of_run-e.ensures

  out_again : e < n s₁ → Out (h s₁) (point_in (g s₁) e)
  out_again = c.end_of_run-e.ensures.ends

lies-on-requires : tie.Need-lies_on-there-requires
lies-on-requires c κs = before_end (some_in c)

sub-lies-on : tie.Need-overflow_sub-e
sub-lies-on c = omega (arith, after_f c.before)

lies-on-requires-2 : tie.Need-lies_on-here-requires
lies-on-requires-2 c κs = let k = c.before in omega (arith, after_f k, to_end k)

sub-enter : tie.Need-overflow_sub-s
sub-enter c = after_first (first (some_in c.before.before))

enter-requires : tie.Need-enter-start-requires
enter-requires c κs =
    let k = c.before.before.before in
    let s = s₁ k in
    (s.requires.0, (omega (arith, before_end (some_in k)), omega (arith, fits s)))

-- ---- the memories
module _ (c : tie.After-enter-start) where
  abbrev here : tie.After-lies_on-here
  here = c.before.before

  abbrev there : tie.After-lies_on-there
  there = here.before

  abbrev found : tie.After-end_of_run-e
  found = there.before

  abbrev s₂ : tie.Start
  s₂ = s₁ found

  abbrev m₁ : List ℤ
  m₁ = c.enter-start.new.m

  abbrev begin : ℕ
  begin = c.enter-start.result

  size₁ : length m₁ ≡ length s₂.args.m.now
  size₁ = c.enter-start.auto.m

  came : (w : Window) → h s₂ ≡ side_line w (k s₂) → CameOwn w (zs s₂) (k s₂) (g s₂) (f₁ found - 1) (point_in (g s₂) (f₁ found)) s₂.args.m.now 0 m₁ begin
  came w q = came_own q (omega (arith, before_end (some_in found))) (omega (arith, fits s₂)) there.lies_on-there.ensures (comes_in (some_in found)) c.enter-start.ensures

  begin_low : begin ≤ 1
  begin_low = omega (arith, (entered_few c.enter-start.ensures).1)

load-requires : tie.Need-load-requires
load-requires c κs =
    let e₁ = c.before.before in
    let k = found e₁ in
    let s = s₂ e₁ in
    (few s, ((omega (arith, after_f k), to_end k), omega (arith, begin_low e₁, size₁ e₁, fits s, after_f k, to_end k)))

module _ (c : tie.After-load) where
  abbrev entered : tie.After-enter-start
  entered = c.before.before.before

  abbrev s₃ : tie.Start
  s₃ = s₂ entered

  abbrev f₃ : ℕ
  f₃ = f₁ (found entered)

  abbrev e₃ : ℕ
  e₃ = e (found entered)

  abbrev m₂ : List ℤ
  m₂ = c.load.new.m

  size₂ : length m₂ ≡ length s₃.args.m.now
  size₂ = c.load.auto.m ∙ size₁ entered

  -- the place of the last corner inside
  abbrev last : ℕ
  last = begin entered + (e₃ - f₃) - 1

  last_low : (1 ≤ begin entered + (e₃ - f₃)) × (last + 1 ≤ n s₃ + 1) × (last + 2 ≤ n s₃ + 1)
  last_low =
      let i = after_f (found entered) in
      let j = to_end (found entered) in
      let k = begin_low entered in
      let a = after_first (first (some_in (found entered))) in
      (omega arith, omega arith, omega arith)

  below : e₃ - 1 < n s₃
  below = omega (arith, after_f (found entered), to_end (found entered))

  leave_fits : 4 * last + 8 ≤ length m₂
  leave_fits = omega (arith, last_low.2, size₂, fits s₃)

  last_in : corner_in m₂ last ≡ corner_in (g s₃) (e₃ - 1)
  last_in =
      let k = after_f (found entered) in
      let i : last ≡ begin entered + (e₃ - 1 - f₃) = omega arith in
      let j : f₃ + (e₃ - 1 - f₃) ≡ e₃ - 1 = omega arith in
      ap (corner_in m₂) i ∙ c.load.ensures.brought (e₃ - 1 - f₃) (omega arith) ∙ ap (corner_in (g s₃)) j

sub-leave : tie.Need-overflow_sub-e-2
sub-leave c = omega (arith, after_f (found (entered c.before.before)))

add-leave : tie.Need-overflow_add-start
add-leave c = let l = c.before.before in omega (arith, begin_low (entered l), to_end (found (entered l)), few (s₃ l))

sub-leave-2 : tie.Need-overflow_sub-start
sub-leave-2 c = (last_low c.before.before).0

sub-leave-3 : tie.Need-overflow_sub-e-3
sub-leave-3 c = omega (arith, after_f (found (entered c.before.before)))

leave-requires : tie.Need-leave-end-requires
leave-requires c κs = let l = c.before.before in let s = s₃ l in (s.requires.0, (s.requires.1.0, (leave_fits l, below l)))

same_length : tie.Need-shape_of-m
same_length c = c.before.leave-end.auto.m ∙ size₂ c.before.before.before.before

returns-2 : tie.Need-returns
returns-2 c w q =
    let l = c.before.before.before.before in
    let d = entered l in
    let j = found d in
    let s = s₃ l in
    let m₃ = c.before.leave-end.new.m in
    let p = ap (λ (q : Tagged). q.point) (last_in l) in
    let tag = ap (λ (q : Tagged). q.tag) (last_in l) ∙ (loaded_of_lem (zs s)).tag (e₃ l - 1) (below l) in
    let on : Decides (here d).lies_on-here.result (On (h s) (point_in (m₂ l) (last l))) =
    subst (λ (q : Point). Decides (here d).lies_on-here.result (On (h s) q)) (sym p) (here d).lies_on-here.ensures in
    let inside : In (h s) (point_in (m₂ l) (last l)) = subst (In (h s)) (sym p) (all_in j (e j - 1) (omega (arith, after_f j)) (omega (arith, after_f j))) in
    let went : Gone w (zs s) (k s) (m₂ l) (last l) m₃ c.before.leave-end.result =
    gone_own (e₃ l - 1) q (below l) tag (leave_fits l) on inside c.before.leave-end.ensures in
    first_keep w (k s) s.requires.0 (g s) q (after_first (first (some_in j))) (after_f j) (to_end j) (held s w) (all_out (first (some_in j))) (all_in j)
    (out_again j) s.args.m.now (m₁ d) (m₂ l) m₃ (begin d) c.before.leave-end.result
    (came d w q) l.load.ensures went

pub keep_run_spec : {M : Type 1} → statement M
keep_run_spec =
    tie.close
    (tie.spec
    end-of-run-requires
    returns
    add-end-of-run
    end-of-run-requires-2
    lies-on-requires
    sub-lies-on
    lies-on-requires-2
    sub-enter
    enter-requires
    load-requires
    sub-leave
    add-leave
    sub-leave-2
    sub-leave-3
    leave-requires
    same_length
    returns-2)
