-- `first_pass::pass` meets its contract: the first run of corners inside is all of them, none, or some, and each has its worker. Assumes nothing.
use mathlib.Core.Path.{sym, subst}
use mathlib.Core.Logic.{⊎_elim}
use Prim.Native.Nat.{ℕ, ◌/◌, ◌<◌}
use native.Mathlib.Nat.{eq-or-lt_of_le}
use native.Mathlib.Omega.{arith}
use borrow.Author.Rules.{rules}
use lib.ListN.{length}
use Rattle.grid.specs.Sides.{side_at}
use Rattle.rings.specs.Points.{Out}
use Rattle.memory.specs.Memory.{point_in}
use Rattle.memory.specs.Tagged.{loaded_of}
use Rattle.limits.specs.Limits.{limit_line}
use Rattle.limits.proofs.Owned.{loaded_of_lem}
use Rattle.first_pass.proofs.FirstPass.{first_all}
use Rattle.remains.proofs.Loaded.{loaded_held}
use Rattle.first_pass.proofs.pass.Statement.{statement}
use Rattle.first_pass.proofs.pass.Tie as tie

end-of-run-requires : tie.Need-end_of_run-a-requires
end-of-run-requires c κs = (omega arith, omega arith)

load-requires : tie.Need-load-requires
load-requires c κs = let s = c.before.before.before in (s.requires.0.corners.few, ((omega arith, omega arith), omega (arith, s.requires.1.1)))

same_length : tie.Need-shape_of-m-then-a-n
same_length c = c.before.load.auto.m

returns : tie.Need-returns-then-a-n
returns c w q =
    let r = c.before.before.before.before in
    let s = r.before in
    let zs = s.args.outline.now in
    first_all w (side_at s.args.side) s.requires.0 (loaded_of zs) q (loaded_held s.requires.0 (loaded_of_lem zs) w)
    (λ i a b. r.end_of_run-a.ensures.run i a (omega (arith, c.before.before.before.if-a-n.true))) s.args.m.now c.before.load.new.m
    c.before.load.ensures

-- some corner lies outside
before_end : (c : tie.Else-a-n) → c.before.end_of_run-a.result < length c.before.before.args.outline.now / 2
before_end c = ⊎_elim (λ q. absurd (c.if-a-n.false q)) (λ l. l) (eq-or-lt_of_le c.before.end_of_run-a.ensures.below)

keep-run-requires : tie.Need-keep_run-requires
keep-run-requires c κs =
    let e = c.before.before in
    let s = e.before.before in (
      s.requires.0,
      (
        s.requires.1.0,
        (
          s.requires.1.1,
          subst (λ (i : ℕ). Out (limit_line s.args.l) (point_in (loaded_of s.args.outline.now) i))
              c.before.if-a-eq0.true (e.before.end_of_run-a.ensures.ends (before_end e)),
        ),
      ),
    )

same-length-2 : tie.Need-shape_of-m-then-a-eq0
same-length-2 c = search rules

returns-2 : tie.Need-returns-then-a-eq0
returns-2 c = search rules

cut-out-requires : tie.Need-cut_out-requires
cut-out-requires c κs =
    let e = c.before.before in
    let r = e.before in
    let s = r.before in
    let some : 0 < r.end_of_run-a.result = ⊎_elim (λ q. absurd (c.before.if-a-eq0.false (sym q))) (λ l. l) (eq-or-lt_of_le r.end_of_run-a.ensures.above) in
    (s.requires.0, (s.requires.1.0, (s.requires.1.1, (some, before_end e, r.end_of_run-a.ensures))))

same-length-3 : tie.Need-shape_of-m
same-length-3 c = search rules

returns-3 : tie.Need-returns
returns-3 c = search rules

pub pass_spec : {M : Type 1} → statement M
pass_spec =
    tie.close (tie.spec end-of-run-requires load-requires same_length returns keep-run-requires same-length-2 returns-2 cut-out-requires same-length-3
    returns-3)
