-- `crossings::meet` meets its contract: the numbers fit, so the machine has the law's point; where the run is negative it and the height change sign. Assumes nothing.
use mathlib.Core.Path.{refl, sym, transport}
use mathlib.Core.List.{[], ◌∷◌}
use lib.Dec.{T}
use lib.IntN.{ℤ, pos}
use mir.Syntax.{w32}
use Rattle.whole.proofs.Expressions.{Env, means}
use Rattle.whole.proofs.Ranges.{Bounds}
use Rattle.whole.proofs.Machine.{Code, par, lit, add, sub, mul, erase, machine, ok, need, value}
use Rattle.whole.proofs.Comparisons.{lt_yes, lt_no}
use Rattle.rings.specs.Windows.{left_side}
use Rattle.crossings.specs.Tags.{stroke_from}
use Rattle.crossings.specs.Meetings.{Meets}
use Rattle.crossings.proofs.Meetings.{sizes, bounds, meets_forward, meets_back}
use Rattle.crossings.proofs.meet.Statement.{statement}
use Rattle.crossings.proofs.meet.Tie as tie

abbrev run : Code
run = sub w32 (par w32 3) (par w32 1)

abbrev across : Code → Code
across m = mul w32 (par w32 0) m

abbrev rise : Code
rise = mul w32 (par w32 2) run

abbrev way : Code
way = sub w32 (par w32 0) (par w32 1)

abbrev fall : Code
fall = sub w32 (par w32 4) (par w32 2)

abbrev height : Code
height = add w32 rise (mul w32 way fall)

abbrev minus : Code → Code
minus m = sub w32 (lit (pos 0)) m

abbrev env : tie.Start → Env
env c = c.args.c ∷ c.args.ax ∷ c.args.ay ∷ c.args.bx ∷ c.args.by ∷ []

abbrev Met : tie.Start → ℤ → ℤ → ℤ → Type 0
Met c x y den = Meets (left_side c.args.c) (stroke_from c.args.ax c.args.ay c.args.bx c.args.by) (record { X = x; Y = y; W = den })

small : (c : tie.Start) → Bounds sizes (env c)
small c = bounds _ _ _ _ _ c.requires.0 c.requires.1

sub-run : tie.Need-overflow_sub-run
sub-run c = need sizes (env c) (small c) run tt

mul-y : tie.Need-overflow_mul-y
mul-y c = need sizes (env c) (small c) rise tt

sub-y : tie.Need-overflow_sub-y
sub-y c = need sizes (env c) (small c) way tt

sub-y-2 : tie.Need-overflow_sub-y-2
sub-y-2 c = need sizes (env c) (small c) fall tt

mul-y-2 : tie.Need-overflow_mul-y-2
mul-y-2 c = need sizes (env c) (small c) (mul w32 way fall) tt

add-y : tie.Need-overflow_add-y
add-y c = need sizes (env c) (small c) height tt

sub-den : tie.Need-overflow_sub-den
sub-den c = need sizes (env c.before) (small c.before) (minus run) tt

mul-t14 : tie.Need-overflow_mul-result
mul-t14 c = need sizes (env c.before) (small c.before) (across (minus run)) tt

sub-t15 : tie.Need-overflow_sub-result
sub-t15 c = need sizes (env c.before) (small c.before) (minus height) tt

-- what is so of the numbers meant is so of those that the machine has
read : (c : tie.Start) (k l d : Code) → T (ok sizes k) → T (ok sizes l) → T (ok sizes d)
    → Met c (means (env c) (erase k)) (means (env c) (erase l)) (means (env c) (erase d)) → Met c (machine (env c) k) (machine (env c) l) (machine (env c) d)
read c k l d p q r m =
    transport (λ i. Met c (sym (value sizes (env c) (small c) k p) i) (sym (value sizes (env c) (small c) l q) i) (sym (value sizes (env c) (small c) d r) i)) m

returns : tie.Need-returns-then-run-lt0
returns c =
    let s = c.before in
    read s (across (minus run)) (minus height) (minus run) tt tt tt
    (meets_back _ _ _ _ _ s.requires.0 s.requires.1 (lt_yes (value sizes (env s) (small s) run tt) refl c.if-run-lt0.true))

mul-t9 : tie.Need-overflow_mul-result-2
mul-t9 c = need sizes (env c.before) (small c.before) (across run) tt

returns-2 : tie.Need-returns
returns-2 c =
    let s = c.before in
    read s (across run) height run tt tt tt (meets_forward _ _ _ _ _ s.requires.0 s.requires.1 (lt_no (value sizes (env s) (small s) run tt) refl c.if-run-lt0.false))

pub meet_spec : {M : Type 1} → statement M
meet_spec =
    tie.close
    (tie.spec
    sub-run
    mul-y
    sub-y
    sub-y-2
    mul-y-2
    add-y
    sub-den
    mul-t14
    sub-t15
    returns
    mul-t9
    returns-2)
