-- `later_pass::cut_out` meets its contract: what each worker tells of its memory makes the pass. Assumes nothing.
use mathlib.Core.Path.{◌≡◌, sym, ap, ◌∙◌, subst}
use mathlib.Core.Bool.{true}
use mathlib.Core.List.{List}
use mathlib.Core.Logic.{inl, ⊎_elim}
use Prim.Native.Nat.{ℕ, ◌+◌, ◌-◌, ◌*◌, ◌<◌, ◌≤◌}
use native.Mathlib.Nat.{eq-or-lt_of_le}
use native.Mathlib.Omega.{arith}
use borrow.Author.Rules.{rules}
use borrow.Author.Tests.{eqb-false}
use lib.Dec.{eqb}
use lib.IntN.{ℤ}
use lib.ListN.{length}
use Rattle.whole.specs.Choice.{when◌then◌else◌, Decides}
use Rattle.whole.proofs.Comparisons.{by-test}
use Rattle.grid.specs.Sides.{side_at}
use Rattle.rings.specs.Points.{Point, Line, In, Out, On}
use Rattle.memory.specs.Memory.{point_in, Small, places}
use Rattle.limits.specs.Sides.{window_of}
use Rattle.memory.specs.Tagged.{tag_in, Tagged, corner_in, Brought}
use Rattle.crossings.specs.Tags.{Named}
use Rattle.limits.specs.Limits.{limit_line}
use Rattle.remains.specs.Remains.{Held}
use Rattle.limits.proofs.Runs.{run_with}
use Rattle.remains.proofs.Held.{small_in, named_in}
use Rattle.remains.proofs.Ends.{Gone, gone}
use Rattle.later_pass.proofs.Entering.{Come, come}
use Rattle.later_pass.proofs.LaterPass.{cut_out}
use Rattle.later_pass.proofs.cut_out.Statement.{statement}
use Rattle.later_pass.proofs.cut_out.Tie as tie

-- ---- what the call is given
module _ (s : tie.Start) where
  abbrev m : List ℤ
  m = s.args.m.now

  abbrev h : Line
  h = limit_line s.args.l

  held : Held (window_of s.args.numbers.now) s.args.outline.now m (places s.args.from s.args.to)
  held = s.requires.1.1.1.0

  after_from : s.args.from < s.args.a
  after_from = s.requires.1.1.1.1.0

  before_to : s.args.a < s.args.to
  before_to = s.requires.1.1.1.1.1

  fits : 4 * s.args.to + 4 ≤ length m
  fits = s.requires.1.1.0

  first_in : (i : ℕ) → s.args.from ≤ i → i < s.args.a → In h (point_in m i)
  first_in = s.requires.1.1.1.1.2.run

  first_out : Out h (point_in m s.args.a)
  first_out = s.requires.1.1.1.1.2.ends before_to

-- ---- the run outside, up to b
module _ (c : tie.After-end_of_run-b) where
  abbrev start : tie.Start
  start = c.before

  abbrev b : ℕ
  b = c.end_of_run-b.result

  after_a : start.args.a < b
  after_a = omega (arith, c.end_of_run-b.ensures.above)

  to_end : b ≤ start.args.to
  to_end = c.end_of_run-b.ensures.below

  all_out : (i : ℕ) → start.args.a ≤ i → i < b → Out (h start) (point_in (m start) i)
  all_out = run_with true (first_out start) c.end_of_run-b.ensures

  back_in : b < start.args.to → In (h start) (point_in (m start) b)
  back_in = c.end_of_run-b.ensures.ends

  -- the corner after it
  abbrev next : ℕ
  next = when eqb b start.args.to then start.args.from else b

  next_of_ring : (start.args.from ≤ next) × (next < start.args.to) × In (h start) (point_in (m start) next)
  next_of_ring =
      by-test (eqb b start.args.to) (λ (k : ℕ). (start.args.from ≤ k) × (k < start.args.to) × In (h start) (point_in (m start) k))
      (λ e. (omega arith, omega (arith, after_from start, before_to start), first_in start start.args.from (omega arith) (after_from start)))
      (λ e. let l : b < start.args.to = ⊎_elim (λ q. absurd (eqb-false b start.args.to e q)) (λ l. l)
      (eq-or-lt_of_le to_end) in (omega (arith, after_from start, after_a), l, back_in l))

add-end-of-run : tie.Need-overflow_add-a
add-end-of-run c = search rules

end-of-run-requires : tie.Need-end_of_run-b-requires
end-of-run-requires c κs =
    (omega (arith, before_to c), (omega (arith, fits c), λ j l k. small_in (held c) j (omega (arith, after_from c)) k))

sub-lies-on : tie.Need-overflow_sub-a
sub-lies-on c = omega (arith, after_from c.before)

lies-on-requires : tie.Need-lies_on-here-requires
lies-on-requires c κs =
    let s = c.before in
    (omega (arith, fits s, before_to s), small_in (held s) (s.args.a - 1) (omega (arith, after_from s)) (omega (arith, before_to s)))

after-requires : tie.Need-after-requires
after-requires c κs = search rules

lies-on-requires-2 : tie.Need-lies_on-there-requires
lies-on-requires-2 c κs =
    let e = c.before.before in
    let s = start e in
    let n = next_of_ring e in
    subst (λ (k : ℕ). (4 * k + 4 ≤ length (m s)) × Small (point_in (m s) k)) (sym c.after.ensures)
    (omega (arith, fits s, n.1), small_in (held s) (next e) n.0 n.1)

sub-make-room : tie.Need-overflow_sub-b
sub-make-room c = omega (arith, after_a c.before.before.before.before)

make-room-requires : tie.Need-make_room-k-requires
make-room-requires c κs =
    let e = c.before.before.before.before in
    ((omega (arith, after_a e), omega (arith, after_a e, to_end e)), fits (start e))

-- ---- the memories
module _ (c : tie.After-make_room-k) where
  abbrev found : tie.After-end_of_run-b
  found = c.before.before.before.before.before

  abbrev s₁ : tie.Start
  s₁ = start found

  abbrev m₁ : List ℤ
  m₁ = c.make_room-k.new.m

  abbrev k : ℕ
  k = c.make_room-k.result

  abbrev o : ℕ
  o = b found - 1 + k

  abbrev there : tie.After-lies_on-there
  there = c.before.before

  abbrev here : tie.After-lies_on-here
  here = there.before.before

  size₁ : length m₁ ≡ length (m s₁)
  size₁ = c.make_room-k.auto.m

  up : Brought (m s₁) (m s₁) m₁ s₁.args.a s₁.args.to (s₁.args.a + k)
  up = c.make_room-k.ensures.1

  on_there : Decides there.lies_on-there.result (On (h s₁) (point_in (m s₁) (next found)))
  on_there = subst (λ (k : ℕ). Decides there.lies_on-there.result (On (h s₁) (point_in (m s₁) k))) there.after.ensures there.lies_on-there.ensures

  on_here : Decides here.lies_on-here.result (On (h s₁) (point_in (m s₁) (s₁.args.a - 1)))
  on_here = here.lies_on-here.ensures

  -- the last corner outside, where it stands now
  last_out : corner_in m₁ o ≡ corner_in (m s₁) (b found - 1)
  last_out =
      let i : o ≡ s₁.args.a + k + (b found - 1 - s₁.args.a) = omega (arith, after_a found) in
      let j : s₁.args.a + (b found - 1 - s₁.args.a) ≡ b found - 1 = omega (arith, after_a found) in
      ap (corner_in m₁) i ∙ up.brought (b found - 1 - s₁.args.a) (omega (arith, after_a found, to_end found)) ∙ ap (corner_in (m s₁)) j

  last_named : Named (window_of s₁.args.numbers.now) s₁.args.outline.now (tag_in m₁ o)
  last_named =
      subst (λ (c : Tagged). Named (window_of s₁.args.numbers.now) s₁.args.outline.now c.tag) (sym last_out)
      (named_in (held s₁) (b found - 1) (omega (arith, after_a found, after_from s₁)) (omega (arith, after_a found, to_end found)))

  o_fits : 4 * o + 4 ≤ length m₁
  o_fits = omega (arith, size₁, fits s₁, to_end found, after_a found, c.make_room-k.ensures.0.0)

sub-enter : tie.Need-overflow_sub-b-2
sub-enter c = omega (arith, after_a (found c.before.before))

add-enter : tie.Need-overflow_add-b
add-enter c = let r = c.before.before in omega (arith, o_fits r, (s₁ r).well_formed)

enter-requires : tie.Need-enter-second-requires
enter-requires c κs = let r = c.before.before in ((s₁ r).requires.0.window, ((s₁ r).requires.0.outline, (o_fits r, last_named r)))

module _ (c : tie.After-enter-second) where
  abbrev room : tie.After-make_room-k
  room = c.before.before.before

  abbrev m₂ : List ℤ
  m₂ = c.enter-second.new.m

  size₂ : length m₂ ≡ length (m (s₁ room))
  size₂ = c.enter-second.auto.m ∙ size₁ room

  came : Come (window_of (s₁ room).args.numbers.now) (s₁ room).args.outline.now (side_at (s₁ room).args.side) (m₁ room) (o room)
      (point_in (m (s₁ room)) (next (found room))) m₂ c.enter-second.result
  came = come (s₁ room).requires.1.0 (o_fits room) (on_there room) (next_of_ring (found room)).2 c.enter-second.ensures

  -- the last corner inside is as it was
  last_in : corner_in m₂ ((s₁ room).args.a - 1) ≡ corner_in (m (s₁ room)) ((s₁ room).args.a - 1)
  last_in =
      let l = after_from (s₁ room) in
      let two = c.make_room-k.ensures.0.1 in
      came.others ((s₁ room).args.a - 1) (inl (omega arith)) ∙ (up room).before ((s₁ room).args.a - 1) (omega arith)

sub-leave : tie.Need-overflow_sub-a-2
sub-leave c = omega (arith, after_from (s₁ (room c.before.before)))

leave-requires : tie.Need-leave-first-requires
leave-requires c κs =
    let e = c.before.before in
    let s = s₁ (room e) in (
      s.requires.0,
      (
        omega (arith, size₂ e, fits s, before_to s),
        subst (λ (c : Tagged). Named (window_of s.args.numbers.now) s.args.outline.now c.tag) (sym (last_in e))
            (named_in (held s) (s.args.a - 1) (omega (arith, after_from s)) (omega (arith, before_to s))),
      ),
    )

module _ (c : tie.After-leave-first) where
  abbrev entered : tie.After-enter-second
  entered = c.before.before.before

  abbrev s₂ : tie.Start
  s₂ = s₁ (room entered)

  abbrev m₃ : List ℤ
  m₃ = c.leave-first.new.m

  size₃ : length m₃ ≡ length (m s₂)
  size₃ = c.leave-first.auto.m ∙ size₂ entered

  went : Gone (window_of s₂.args.numbers.now) s₂.args.outline.now (side_at s₂.args.side) (m₂ entered) (s₂.args.a - 1) m₃ c.leave-first.result
  went =
      let p = ap (λ (c : Tagged). c.point) (last_in entered) in
      gone s₂.requires.1.0 (omega (arith, size₂ entered, fits s₂, before_to s₂))
      (subst (λ (q : Point). Decides (here (room entered)).lies_on-here.result (On (h s₂) q)) (sym p) (on_here (room entered)))
      (subst (In (h s₂)) (sym p) (first_in s₂ (s₂.args.a - 1) (omega (arith, after_from s₂)) (omega (arith, after_from s₂)))) c.leave-first.ensures

  -- what is left ends before what comes after the run outside begins, and that before the end
  in_turn : (c.leave-first.result ≤ entered.enter-second.result) × (entered.enter-second.result ≤ s₂.args.to + k (room entered))
  in_turn =
      let r = room entered in
      let two = entered.make_room-k.ensures.0.1 in
      let e = came entered in
      (omega (arith, went.end, went.few, e.start, e.few, after_from s₂), omega (arith, e.start, to_end (found r), after_a (found r)))

add-move-down : tie.Need-overflow_add-to
add-move-down c = let l = c.before.before in let s = s₂ l in omega (arith, fits s, s.well_formed, (room (entered l)).make_room-k.ensures.0.0)

move-down-requires : tie.Need-move_down-requires
move-down-requires c κs =
    let l = c.before.before in
    ((in_turn l).0, ((in_turn l).1, omega (arith, size₃ l, fits (s₂ l), (room (entered l)).make_room-k.ensures.0.0)))

add-t17 : tie.Need-overflow_add-result
add-t17 c = let l = c.before.before.before.before in let s = s₂ l in omega (arith, fits s, s.well_formed, (room (entered l)).make_room-k.ensures.0.0)

sub-t26 : tie.Need-overflow_sub-result
sub-t26 c = (in_turn c.before.before.before.before).1

add-t32 : tie.Need-overflow_add-result-2
add-t32 c =
    let l = c.before.before.before.before in let s = s₂ l in omega (
      arith,
      (in_turn l).0,
      (in_turn l).1,
      fits s,
      s.well_formed,
      (room (entered l)).make_room-k.ensures.0.0,
    )

same_length : tie.Need-shape_of-m
same_length c = let l = c.before.before.before.before in c.move_down.auto.m ∙ size₃ l

returns : tie.Need-returns
returns c =
    let l = c.before.before.before.before in
    let e = entered l in
    let r = room e in
    let f = found r in
    let s = s₂ l in
    cut_out (window_of s.args.numbers.now) (side_at s.args.side) s.requires.0.outline s.requires.1.0 (m s) (after_from s) (after_a f) (to_end f)
    (held s) (first_in s) (all_out f) (back_in f) (m₁ r) (m₂ e) (m₃ l) c.move_down.new.m (k r) e.enter-second.result l.leave-first.result
    r.make_room-k.ensures.0.1 (up r) (came e) (went l) c.move_down.ensures

pub cut_out_spec : {M : Type 1} → statement M
cut_out_spec =
    tie.close
    (tie.spec
    add-end-of-run
    end-of-run-requires
    sub-lies-on
    lies-on-requires
    after-requires
    lies-on-requires-2
    sub-make-room
    make-room-requires
    sub-enter
    add-enter
    enter-requires
    sub-leave
    leave-requires
    add-move-down
    move-down-requires
    add-t17
    sub-t26
    add-t32
    same_length
    returns)
