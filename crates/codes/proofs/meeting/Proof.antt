-- `codes::meeting` meets its contract: each return is a law of Crossings, at the numbers that the machine computes. Assumes nothing.
use mathlib.Core.Path.{refl, sym, subst}
use mathlib.Core.List.{List, [], ◌∷◌}
use Prim.Native.Nat.{ℕ}
use lib.IntN.{pos}
use mir.Syntax.{w32, w64}
use Rattle.whole.proofs.Comparisons.{lt_yes, lt_no}
use Rattle.whole.proofs.Expressions.{Env}
use Rattle.whole.proofs.Machine.{Code, par, lit, sub, cast, need, value}
use Rattle.whole.proofs.Ranges.{Bounds}
use Rattle.grid.specs.Table.{farthest}
use Rattle.codes.specs.Workers.{WayMeets}
use Rattle.codes.proofs.Crossings.{meets_on, meets_back}
use Rattle.codes.proofs.meeting.Statement.{statement}
use Rattle.codes.proofs.meeting.Tie as tie

abbrev env : tie.Start → Env
env c = c.args.c ∷ c.args.a ∷ c.args.b ∷ []

abbrev β : List ℕ
β = farthest ∷ farthest ∷ farthest ∷ []

bounds : (c : tie.Start) → Bounds β (env c)
bounds c = (c.requires.0, (c.requires.1.0, (c.requires.1.1.0, tt)))

-- from a to the number i
abbrev run : ℕ → Code
run i = sub w32 (par w32 i) (par w32 1)

abbrev wide : ℕ → Code
wide i = cast w64 (run i)

abbrev minus : ℕ → Code
minus i = sub w64 (lit (pos 0)) (wide i)

sub-n : tie.Need-overflow_sub-n
sub-n c = need β (env c) (bounds c) (run 0) tt

cast-n : tie.Need-overflow_cast-n
cast-n c = need β (env c) (bounds c) (wide 0) tt

sub-d : tie.Need-overflow_sub-d
sub-d c = need β (env c) (bounds c) (run 2) tt

cast-d : tie.Need-overflow_cast-d
cast-d c = need β (env c) (bounds c) (wide 2) tt

sub-t8 : tie.Need-overflow_sub-result
sub-t8 c = need β (env c.before) (bounds c.before) (minus 0) tt

sub-t9 : tie.Need-overflow_sub-result-then-d-lt0
sub-t9 c = need β (env c.before) (bounds c.before) (minus 2) tt

returns : tie.Need-returns-then-d-lt0
returns c =
    let a = c.before in
    let v = value β (env a) (bounds a) in
    subst (WayMeets a.args.c a.args.a a.args.b) (sym (λ i. record { num = v (minus 0) tt i; den = v (minus 2) tt i }))
    (meets_back a.requires.0 a.requires.1.0 a.requires.1.1.0 (lt_yes (v (wide 2) tt) refl c.if-d-lt0.true))

returns-2 : tie.Need-returns
returns-2 c =
    let a = c.before in
    let v = value β (env a) (bounds a) in
    subst (WayMeets a.args.c a.args.a a.args.b) (sym (λ i. record { num = v (wide 0) tt i; den = v (wide 2) tt i }))
    (meets_on a.requires.0 a.requires.1.0 a.requires.1.1.0 (lt_no (v (wide 2) tt) refl c.if-d-lt0.false) a.requires.1.1.1)

pub meeting_spec : {M : Type 1} → statement M
meeting_spec = tie.close (tie.spec sub-n cast-n sub-d cast-d sub-t8 sub-t9 returns returns-2)
