-- `first_pass::cut_out` meets its contract: what each worker tells of the outline and of its memory makes the pass. Assumes nothing.
use mathlib.Core.Path.{◌≡◌, sym, ap, ◌∙◌, subst}
use mathlib.Core.Bool.{true}
use mathlib.Core.List.{List}
use mathlib.Core.Logic.{⊎_elim}
use Prim.Native.Nat.{ℕ, ◌+◌, ◌-◌, ◌*◌, ◌/◌, ◌<◌, ◌≤◌}
use native.Mathlib.Nat.{eq-or-lt_of_le}
use native.Mathlib.Omega.{arith}
use borrow.Author.Rules.{rules}
use borrow.Author.Tests.{eqb-false}
use lib.Dec.{eqb}
use lib.IntN.{ℤ}
use lib.ListN.{length}
use Rattle.whole.specs.Choice.{when◌then◌else◌, Decides}
use Rattle.whole.proofs.Comparisons.{by-test}
use Rattle.grid.specs.declared.Window.{Window}
use Rattle.grid.specs.Sides.{Side, side_at}
use Rattle.rings.specs.Points.{Point, Line, In, Out, On}
use Rattle.memory.specs.Memory.{point_in, places}
use Rattle.limits.specs.Sides.{side_line}
use Rattle.memory.specs.Tagged.{loaded_of, Tagged, corner_in}
use Rattle.limits.specs.Limits.{limit_line}
use Rattle.remains.specs.Remains.{Held}
use Rattle.limits.proofs.Runs.{run_with}
use Rattle.limits.proofs.Owned.{loaded_of_lem}
use Rattle.remains.proofs.Ends.{Gone}
use Rattle.first_pass.proofs.OwnEnds.{gone_own, went_few, CameOwn, came_own, entered_few}
use Rattle.first_pass.proofs.FirstPass.{first_cut}
use Rattle.remains.proofs.Loaded.{loaded_held}
use Rattle.first_pass.proofs.cut_out.Statement.{statement}
use Rattle.first_pass.proofs.cut_out.Tie as tie

-- ---- what the call is given
module _ (s : tie.Start) where
  abbrev zs : List ℤ
  zs = s.args.outline.now

  -- the outline's corners in a memory
  abbrev g : List ℤ
  g = loaded_of zs

  abbrev n : ℕ
  n = length zs / 2

  abbrev h : Line
  h = limit_line s.args.l

  abbrev k : Side
  k = side_at s.args.side

  held : (w : Window) → Held w zs g (places 0 n)
  held = loaded_held s.requires.0 (loaded_of_lem zs)

  few : length zs ≤ 128
  few = s.requires.0.corners.few

  fits : 2 * length zs + 4 ≤ length s.args.m.now
  fits = s.requires.1.1.0

  some : 0 < s.args.a
  some = s.requires.1.1.1.0

  before_end : s.args.a < n
  before_end = s.requires.1.1.1.1

  first_in : (i : ℕ) → 0 ≤ i → i < s.args.a → In h (point_in g i)
  first_in = s.requires.1.1.1.2.run

  first_out : Out h (point_in g s.args.a)
  first_out = s.requires.1.1.1.2.ends before_end

-- ---- the run outside, up to b
module _ (c : tie.After-end_of_run-b) where
  abbrev start : tie.Start
  start = c.before

  abbrev b : ℕ
  b = c.end_of_run-b.result

  after_a : start.args.a < b
  after_a = omega (arith, c.end_of_run-b.ensures.above)

  to_end : b ≤ n start
  to_end = c.end_of_run-b.ensures.below

  all_out : (i : ℕ) → start.args.a ≤ i → i < b → Out (h start) (point_in (g start) i)
  all_out = run_with true (first_out start) c.end_of_run-b.ensures

  back_in : b < n start → In (h start) (point_in (g start) b)
  back_in = c.end_of_run-b.ensures.ends

  -- the corner after it
  abbrev next : ℕ
  next = when eqb b (n start) then 0 else b

  next_of_ring : (next < n start) × In (h start) (point_in (g start) next)
  next_of_ring =
      by-test (eqb b (n start)) (λ (k : ℕ). (k < n start) × In (h start) (point_in (g start) k))
      (λ e. (omega (arith, some start, before_end start), first_in start 0 (omega arith) (some start)))
      (λ e. let l : b < n start = ⊎_elim (λ q. absurd (eqb-false b (n start) e q)) (λ l. l) (eq-or-lt_of_le to_end) in (l, back_in l))

add-end-of-run : tie.Need-overflow_add-a
add-end-of-run c = search rules

end-of-run-requires : tie.Need-end_of_run-b-requires
end-of-run-requires c κs = (omega (arith, before_end c), omega arith)

sub-lies-on : tie.Need-overflow_sub-a
sub-lies-on c = omega (arith, some c.before)

lies-on-requires : tie.Need-lies_on-here-requires
lies-on-requires c κs = let s = c.before in omega (arith, some s, before_end s)

after-requires : tie.Need-after-requires
after-requires c κs = search rules

lies-on-requires-2 : tie.Need-lies_on-there-requires
lies-on-requires-2 c κs =
    let e = c.before.before in
    let s = start e in
    subst (λ (k : ℕ). k < n s) (sym c.after.ensures) (next_of_ring e).0

load-requires : tie.Need-load-requires
load-requires c κs = let s = start c.before.before.before.before in (few s, ((omega arith, omega (arith, before_end s)), omega (arith, before_end s, fits s)))

-- ---- the memories
module _ (c : tie.After-load) where
  abbrev there : tie.After-lies_on-there
  there = c.before.before

  abbrev here : tie.After-lies_on-here
  here = there.before.before

  abbrev found : tie.After-end_of_run-b
  found = here.before

  abbrev s₁ : tie.Start
  s₁ = start found

  abbrev m₁ : List ℤ
  m₁ = c.load.new.m

  size₁ : length m₁ ≡ length s₁.args.m.now
  size₁ = c.load.auto.m

  on_there : Decides there.lies_on-there.result (On (h s₁) (point_in (g s₁) (next found)))
  on_there = subst (λ (i : ℕ). Decides there.lies_on-there.result (On (h s₁) (point_in (g s₁) i))) there.before.after.ensures there.lies_on-there.ensures

  on_here : Decides here.lies_on-here.result (On (h s₁) (point_in (g s₁) (s₁.args.a - 1)))
  on_here = here.lies_on-here.ensures

  -- the last corner inside
  last_in : corner_in m₁ (s₁.args.a - 1) ≡ corner_in (g s₁) (s₁.args.a - 1)
  last_in =
      let e : 0 + (s₁.args.a - 1) ≡ s₁.args.a - 1 = omega arith in
      ap (corner_in m₁) (sym e) ∙ c.load.ensures.brought (s₁.args.a - 1) (omega (arith, some s₁)) ∙ ap (corner_in (g s₁)) e

  below : s₁.args.a - 1 < n s₁
  below = omega (arith, some s₁, before_end s₁)

  leave_fits : 4 * (s₁.args.a - 1) + 8 ≤ length m₁
  leave_fits = omega (arith, size₁, fits s₁, some s₁, before_end s₁)

sub-leave : tie.Need-overflow_sub-a-2
sub-leave c = omega (arith, some (s₁ c.before.before))

sub-leave-2 : tie.Need-overflow_sub-a-3
sub-leave-2 c = omega (arith, some (s₁ c.before.before))

leave-requires : tie.Need-leave-first-requires
leave-requires c κs = let l = c.before.before in let s = s₁ l in (s.requires.0, (s.requires.1.0, (leave_fits l, below l)))

module _ (c : tie.After-leave-first) where
  abbrev loaded : tie.After-load
  loaded = c.before.before.before

  abbrev s₂ : tie.Start
  s₂ = s₁ loaded

  abbrev m₂ : List ℤ
  m₂ = c.leave-first.new.m

  size₂ : length m₂ ≡ length s₂.args.m.now
  size₂ = c.leave-first.auto.m ∙ size₁ loaded

  went : (w : Window) → h s₂ ≡ side_line w (k s₂) → Gone w (zs s₂) (k s₂) (m₁ loaded) (s₂.args.a - 1) m₂ c.leave-first.result
  went w q =
      let p = ap (λ (q : Tagged). q.point) (last_in loaded) in
      let tag = ap (λ (q : Tagged). q.tag) (last_in loaded) ∙ (loaded_of_lem (zs s₂)).tag (s₂.args.a - 1) (below loaded) in
      gone_own (s₂.args.a - 1) q (below loaded) tag (leave_fits loaded) (subst (λ (q : Point). Decides (here loaded).lies_on-here.result (On (h s₂) q)) (sym p)
      (on_here loaded))
      (subst (In (h s₂)) (sym p) (first_in s₂ (s₂.args.a - 1) (omega arith) (omega (arith, some s₂)))) c.leave-first.ensures

  first_low : c.leave-first.result ≤ s₂.args.a + 1
  first_low = omega (arith, (went_few c.leave-first.ensures).1, some s₂)

  enter_fits : 4 * c.leave-first.result + 4 ≤ length m₂
  enter_fits = omega (arith, first_low, size₂, fits s₂, before_end s₂)

  last_out : b (found loaded) - 1 < n s₂
  last_out = omega (arith, after_a (found loaded), to_end (found loaded))

sub-enter : tie.Need-overflow_sub-b
sub-enter c = omega (arith, after_a (found (loaded c.before)))

enter-requires : tie.Need-enter-second-requires
enter-requires c κs =
    let l = c.before.before in
    let s = s₂ l in
    let f = found (loaded l) in
    (s.requires.0, (omega (arith, after_a f, to_end f), enter_fits l))

module _ (c : tie.After-enter-second) where
  abbrev gone_out : tie.After-leave-first
  gone_out = c.before.before.before

  abbrev s₃ : tie.Start
  s₃ = s₂ gone_out

  abbrev b₃ : ℕ
  b₃ = b (found (loaded gone_out))

  abbrev m₃ : List ℤ
  m₃ = c.enter-second.new.m

  size₃ : length m₃ ≡ length s₃.args.m.now
  size₃ = c.enter-second.auto.m ∙ size₂ gone_out

  came : (w : Window) → h s₃ ≡ side_line w (k s₃)
      → CameOwn w (zs s₃) (k s₃) (g s₃) (b₃ - 1) (point_in (g s₃) (next (found (loaded gone_out)))) (m₂ gone_out) gone_out.leave-first.result m₃ c.enter-second.result
  came w q = came_own q (last_out gone_out) (enter_fits gone_out) (on_there (loaded gone_out)) (next_of_ring (found (loaded gone_out))).1 c.enter-second.ensures

  -- what is left has at most one corner more
  all_fit : c.enter-second.result + (n s₃ - b₃) ≤ n s₃ + 1
  all_fit = omega (arith, (entered_few c.enter-second.ensures).1, first_low gone_out, after_a (found (loaded gone_out)), to_end (found (loaded gone_out)))

load-requires-2 : tie.Need-load-requires-2
load-requires-2 c κs =
    let e = c.before.before in
    let s = s₃ e in
    (few s, ((to_end (found (loaded (gone_out e))), omega arith), omega (arith, all_fit e, size₃ e, fits s)))

sub-t12 : tie.Need-overflow_sub-result
sub-t12 c = to_end (found (loaded (gone_out c.before.before.before.before)))

add-t18 : tie.Need-overflow_add-result
add-t18 c = let e = c.before.before.before.before in omega (arith, all_fit e, few (s₃ e))

same_length : tie.Need-shape_of-m
same_length c = let e = c.before.before.before.before in c.before.load-2.auto.m ∙ size₃ e

returns : tie.Need-returns
returns c w q =
    let e = c.before.before.before.before in
    let l = gone_out e in
    let d = loaded l in
    let f = found d in
    let s = s₃ e in
    first_cut w (k s) s.requires.0 (g s) q (some s) (after_a f) (to_end f) (held s w) (first_in s) (all_out f) (back_in f) s.args.m.now (m₁ d) (m₂ l)
    (m₃ e) c.before.load-2.new.m l.leave-first.result e.enter-second.result
    d.load.ensures (went l w q) (came e w q) c.before.load-2.ensures

pub cut_out_spec : {M : Type 1} → statement M
cut_out_spec =
    tie.close
    (tie.spec
    add-end-of-run
    end-of-run-requires
    sub-lies-on
    lies-on-requires
    after-requires
    lies-on-requires-2
    load-requires
    sub-leave
    sub-leave-2
    leave-requires
    sub-enter
    enter-requires
    load-requires-2
    sub-t12
    add-t18
    same_length
    returns)
