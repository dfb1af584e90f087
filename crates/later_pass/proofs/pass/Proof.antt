-- `later_pass::pass` meets its contract: the first run of corners inside is all of them, none, or some, and each has its worker. Assumes nothing.
use mathlib.Core.Path.{sym, subst}
use mathlib.Core.Logic.{⊎_elim}
use Prim.Native.Nat.{ℕ, ◌-◌, ◌<◌}
use native.Mathlib.Nat.{eq-or-lt_of_le}
use native.Mathlib.Omega.{arith}
use borrow.Author.Rules.{rules}
use Rattle.rings.specs.Points.{Out}
use Rattle.memory.specs.Memory.{point_in}
use Rattle.limits.specs.Limits.{limit_line}
use Rattle.memory.proofs.Memories.{ring_length}
use Rattle.remains.proofs.Held.{small_in}
use Rattle.remains.proofs.Passing.{leaves_all}
use Rattle.later_pass.proofs.pass.Statement.{statement}
use Rattle.later_pass.proofs.pass.Tie as tie

-- a ring has places
some : (s : tie.Start) → s.args.p.from < s.args.p.to
some s = omega (arith, s.requires.1.1.1.ring.three, ring_length s.args.m.now s.args.p.from (s.args.p.to - s.args.p.from))

end-of-run-requires : tie.Need-end_of_run-a-requires
end-of-run-requires c κs = (omega (arith, some c), (omega (arith, c.requires.1.1.0), small_in c.requires.1.1.1))

same_length : tie.Need-shape_of-m-then-a-to
same_length c = search rules

returns : tie.Need-returns-then-a-to
returns c =
    let s = c.before.before in
    leaves_all s.requires.1.0 (omega (arith, some s)) s.requires.1.1.1 (λ i a b. c.end_of_run-a.ensures.run i a (omega (arith, c.if-a-to.true)))

-- some corner lies outside
module _ (c : tie.Else-a-to) where
  abbrev s₀ : tie.Start
  s₀ = c.before.before

  before_to : c.end_of_run-a.result < s₀.args.p.to
  before_to = ⊎_elim (λ q. absurd (c.if-a-to.false q)) (λ l. l) (eq-or-lt_of_le c.end_of_run-a.ensures.below)

keep-run-requires : tie.Need-keep_run-requires
keep-run-requires c κs =
    let e = c.before.before in
    let s = s₀ e in (
      s.requires.0,
      (
        s.requires.1.0,
        (
          s.requires.1.1.0,
          (
            s.requires.1.1.1,
            (
              some s,
              subst (λ (i : ℕ). Out (limit_line s.args.l) (point_in s.args.m.now i)) c.if-a-from.true
                  (e.end_of_run-a.ensures.ends (before_to e)),
            ),
          ),
        ),
      ),
    )

same-length-2 : tie.Need-shape_of-m-then-a-from
same-length-2 c = search rules

returns-2 : tie.Need-returns-then-a-from
returns-2 c = search rules

cut-out-requires : tie.Need-cut_out-requires
cut-out-requires c κs =
    let e = c.before.before in
    let s = s₀ e in
    let first : s.args.p.from < e.end_of_run-a.result =
    ⊎_elim (λ q. absurd (c.if-a-from.false (sym q))) (λ l. l) (eq-or-lt_of_le e.end_of_run-a.ensures.above) in
    (s.requires.0, (s.requires.1.0, (s.requires.1.1.0, (s.requires.1.1.1, (first, before_to e, e.end_of_run-a.ensures)))))

same-length-3 : tie.Need-shape_of-m
same-length-3 c = search rules

returns-3 : tie.Need-returns
returns-3 c = search rules

pub pass_spec : {M : Type 1} → statement M
pass_spec = tie.close (tie.spec end-of-run-requires same_length returns keep-run-requires same-length-2 returns-2 cut-out-requires same-length-3 returns-3)
