-- `later_pass::keep_run` meets its contract: what each worker tells of its memory makes the pass. Assumes nothing.
use mathlib.Core.Path.{◌≡◌, sym, ap, ◌∙◌, subst}
use mathlib.Core.Bool.{true, false}
use mathlib.Core.List.{List}
use mathlib.Core.Logic.{inr, ⊎_elim}
use Prim.Native.Nat.{ℕ, ◌+◌, ◌-◌, ◌*◌, ◌<◌, ◌≤◌}
use native.Mathlib.Nat.{eq-or-lt_of_le}
use native.Mathlib.Omega.{arith}
use borrow.Author.Rules.{rules}
use lib.IntN.{ℤ}
use lib.ListN.{length}
use Rattle.whole.specs.Choice.{Decides}
use Rattle.grid.specs.Sides.{side_at}
use Rattle.rings.specs.Points.{Point, Line, In, Out, On}
use Rattle.memory.specs.Memory.{point_in, places}
use Rattle.limits.specs.Sides.{window_of}
use Rattle.limits.specs.Limits.{limit_line}
use Rattle.crossings.specs.Tags.{Named}
use Rattle.memory.specs.Tagged.{Tagged, corner_in}
use Rattle.remains.specs.Remains.{Held}
use Rattle.limits.proofs.Runs.{run_with}
use Rattle.remains.proofs.Held.{small_in, named_in}
use Rattle.remains.proofs.Ends.{Gone, gone}
use Rattle.later_pass.proofs.Entering.{Come, come}
use Rattle.later_pass.proofs.LaterPass.{keep_run}
use Rattle.remains.proofs.Passing.{leaves_none}
use Rattle.later_pass.proofs.keep_run.Statement.{statement}
use Rattle.later_pass.proofs.keep_run.Tie as tie

-- ---- what the call is given
module _ (s : tie.Start) where
  abbrev m : List ℤ
  m = s.args.m.now

  abbrev h : Line
  h = limit_line s.args.l

  held : Held (window_of s.args.numbers.now) s.args.outline.now m (places s.args.from s.args.to)
  held = s.requires.1.1.1.0

  some : s.args.from < s.args.to
  some = s.requires.1.1.1.1.0

  fits : 4 * s.args.to + 4 ≤ length m
  fits = s.requires.1.1.0

-- ---- the run outside, up to f
module _ (c : tie.After-end_of_run-s) where
  abbrev start : tie.Start
  start = c.before

  abbrev f : ℕ
  f = c.end_of_run-s.result

  after_from : start.args.from < f
  after_from = omega (arith, c.end_of_run-s.ensures.above)

  to_end : f ≤ start.args.to
  to_end = c.end_of_run-s.ensures.below

  all_out : (i : ℕ) → start.args.from ≤ i → i < f → Out (h start) (point_in (m start) i)
  all_out = run_with true start.requires.1.1.1.1.1 c.end_of_run-s.ensures

add-end-of-run : tie.Need-overflow_add-from
add-end-of-run c = search rules

end-of-run-requires : tie.Need-end_of_run-s-requires
end-of-run-requires c κs =
    (omega (arith, some c), (omega (arith, fits c), λ j l k. small_in (held c) j (omega arith) k))

same_length : tie.Need-shape_of-m-then-s-to
same_length c = search rules

returns : tie.Need-returns-then-s-to
returns c =
    let e = c.before in
    let s = start e in
    leaves_none s.requires.1.0 (omega (arith, some s)) (held s) (m s) (λ i l k. all_out e i l (omega (arith, c.if-s-to.true)))

-- ---- the run inside, up to e
module _ (c : tie.Else-s-to) where
  abbrev first : tie.After-end_of_run-s
  first = c.before

  abbrev s₀ : tie.Start
  s₀ = start first

  before_to : f first < s₀.args.to
  before_to = ⊎_elim (λ q. absurd (c.if-s-to.false q)) (λ l. l) (eq-or-lt_of_le (to_end first))

  f_in : In (h s₀) (point_in (m s₀) (f first))
  f_in = first.end_of_run-s.ensures.ends before_to

module _ (c : tie.After-end_of_run-e) where
  abbrev out : tie.Else-s-to
  out = c.before

  abbrev s₁ : tie.Start
  s₁ = s₀ out

  abbrev e : ℕ
  e = c.end_of_run-e.result

  after_f : f (first out) < e
  after_f = omega (arith, c.end_of_run-e.ensures.above)

  e_to : e ≤ s₁.args.to
  e_to = c.end_of_run-e.ensures.below

  all_in : (i : ℕ) → f (first out) ≤ i → i < e → In (h s₁) (point_in (m s₁) i)
  all_in = run_with false (f_in out) c.end_of_run-e.ensures

  back_out : e < s₁.args.to → Out (h s₁) (point_in (m s₁) e)
  back_out = c.end_of_run-e.ensures.ends

add-end-of-run-2 : tie.Need-overflow_add-s
add-end-of-run-2 c = omega (arith, before_to c, fits (s₀ c), (s₀ c).well_formed)

end-of-run-requires-2 : tie.Need-end_of_run-e-requires
end-of-run-requires-2 c κs =
    let s = s₀ c in
    (omega (arith, before_to c), (omega (arith, fits s), λ j l k. small_in (held s) j (omega (arith, after_from (first c))) k))

lies-on-requires : tie.Need-lies_on-there-requires
lies-on-requires c κs =
    let o = out c in
    let s = s₀ o in
    (omega (arith, fits s, before_to o), small_in (held s) (f (first o)) (omega (arith, after_from (first o))) (before_to o))

sub-lies-on : tie.Need-overflow_sub-e
sub-lies-on c = omega (arith, after_f c.before)

lies-on-requires-2 : tie.Need-lies_on-here-requires
lies-on-requires-2 c κs =
    let r = c.before in
    let s = s₁ r in (
      omega (arith, fits s, after_f r, e_to r),
      small_in (held s) (e r - 1) (omega (arith, after_from (first (out r)), after_f r))
          (omega (arith, after_f r, e_to r)),
    )

module _ (c : tie.After-lies_on-here) where
  abbrev runs : tie.After-end_of_run-e
  runs = c.before.before

  abbrev there : tie.After-lies_on-there
  there = c.before

  on_there : Decides there.lies_on-there.result (On (h (s₁ runs)) (point_in (m (s₁ runs)) (f (first (out runs)))))
  on_there = there.lies_on-there.ensures

  on_here : Decides c.lies_on-here.result (On (h (s₁ runs)) (point_in (m (s₁ runs)) (e runs - 1)))
  on_here = c.lies_on-here.ensures

sub-enter : tie.Need-overflow_sub-s
sub-enter c = omega (arith, after_from (first (out (runs c.before))))

enter-requires : tie.Need-enter-start-requires
enter-requires c κs =
    let r = runs c.before in
    let s = s₁ r in
    let l = after_from (first (out r)) in
    let t = before_to (out r) in
    (s.requires.0.window, (s.requires.0.outline, (omega (arith, fits s), named_in (held s) (f (first (out r)) - 1) (omega arith) (omega arith))))

module _ (c : tie.After-enter-start) where
  abbrev values : tie.After-lies_on-here
  values = c.before.before

  abbrev r : tie.After-end_of_run-e
  r = runs values

  abbrev m₁ : List ℤ
  m₁ = c.enter-start.new.m

  size₁ : length m₁ ≡ length (m (s₁ r))
  size₁ = c.enter-start.auto.m

  came : Come (window_of (s₁ r).args.numbers.now) (s₁ r).args.outline.now (side_at (s₁ r).args.side) (m (s₁ r)) (f (first (out r)) - 1)
      (point_in (m (s₁ r)) (f (first (out r)))) m₁ c.enter-start.result
  came =
      let l = after_from (first (out r)) in
      let t = before_to (out r) in
      come (s₁ r).requires.1.0 (omega (arith, fits (s₁ r))) (on_there values) (f_in (out r)) c.enter-start.ensures

  -- the last corner inside is as it was
  last_in : corner_in m₁ (e r - 1) ≡ corner_in (m (s₁ r)) (e r - 1)
  last_in = came.others (e r - 1) (inr (omega (arith, after_from (first (out r)), after_f r)))

sub-leave : tie.Need-overflow_sub-e-2
sub-leave c = omega (arith, after_f (r c.before.before))

leave-requires : tie.Need-leave-end-requires
leave-requires c κs =
    let i = c.before.before in
    let s = s₁ (r i) in
    let l = after_from (first (out (r i))) in
    let t = after_f (r i) in
    let k = e_to (r i) in (
      s.requires.0,
      (
        omega (arith, size₁ i, fits s),
        subst (λ (c : Tagged). Named (window_of s.args.numbers.now) s.args.outline.now c.tag) (sym (last_in i))
            (named_in (held s) (e (r i) - 1) (omega arith) (omega arith)),
      ),
    )

same-length-2 : tie.Need-shape_of-m
same-length-2 c = c.leave-end.auto.m ∙ size₁ c.before.before.before.before

returns-2 : tie.Need-returns
returns-2 c =
    let i = c.before.before.before.before in
    let s = s₁ (r i) in
    let x = first (out (r i)) in
    let p = ap (λ (c : Tagged). c.point) (last_in i) in
    let t = after_f (r i) in
    let k = e_to (r i) in
    let went : Gone (window_of s.args.numbers.now) s.args.outline.now (side_at s.args.side) (m₁ i) (e (r i) - 1)
    c.leave-end.new.m c.leave-end.result =
    gone s.requires.1.0 (omega (arith, size₁ i, fits s)) (subst (λ (q : Point). Decides (values i).lies_on-here.result (On (h s) q)) (sym p)
    (on_here (values i))) (subst (In (h s)) (sym p) (all_in (r i) (e (r i) - 1) (omega arith) (omega arith))) c.leave-end.ensures in
    keep_run (window_of s.args.numbers.now) (side_at s.args.side) s.requires.0.outline s.requires.1.0 (m s) (after_from x) (after_f (r i))
    (e_to (r i)) (held s) (all_out x) (all_in (r i)) (back_out (r i)) (m₁ i) c.leave-end.new.m i.enter-start.result
    c.leave-end.result (came i) went

pub keep_run_spec : {M : Type 1} → statement M
keep_run_spec =
    tie.close
    (tie.spec
    add-end-of-run
    end-of-run-requires
    same_length
    returns
    add-end-of-run-2
    end-of-run-requires-2
    lies-on-requires
    sub-lies-on
    lies-on-requires-2
    sub-enter
    enter-requires
    sub-leave
    leave-requires
    same-length-2
    returns-2)
