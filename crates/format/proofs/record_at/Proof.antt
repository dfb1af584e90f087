-- `format::record_at` meets its contract: each return is the definition at the tests that led there. Assumes nothing.
use borrow.Author.Rules.{rules}
use mathlib.Core.Path.{◌≡◌, sym, ◌∙◌}
use mathlib.Core.List.{List}
use Prim.Native.Nat.{ℕ, ◌+◌}
use native.Mathlib.Omega.{arith}
use borrow.Author.Tests.{lt-ltb, le-ltb, le-leb, lt-leb, eq-eqb, ne_eqb}
use lib.Dec.{eqb}
use lib.ListN.{length, get_or}
use Rattle.whole.specs.Choice.{when◌then◌else◌}
use Rattle.format.specs.Format.{float_at, record_at}
use Rattle.format.specs.declared.Step.TheVariants as Step
use Rattle.format.specs.declared.Found.{Found}
use Rattle.format.proofs.record_at.Statement.{statement}
use Rattle.format.proofs.record_at.Tie as tie

-- a record of nine bytes, by its first
abbrev nine : List ℕ → ℕ → Found
nine bs at =
    when eqb (get_or bs at 0) 0x4D then Found.Record (Step.Move (float_at bs (at + 1)) (float_at bs (at + 5))) (at + 9)
    else when eqb (get_or bs at 0) 0x4C then Found.Record (Step.Line (float_at bs (at + 1)) (float_at bs (at + 5))) (at + 9)
    else Found.Bad

passed : (c : tie.Else-s-at-lt9) → let a = c.before.before.before.before.before.args in record_at a.s.now a.at ≡ nine a.s.now a.at
unfolding record_at
passed c =
    let a = c.before.before.before.before.before.args in
    simp (lt-leb _ _ c.before.before.before.if-s-at.false, ne_eqb _ _ c.before.if-first-eq-CLOSE.false, le-ltb (length a.s.now) (a.at + 9) (omega arith))

returns : tie.Need-returns-then-s-at
unfolding record_at
returns c = simp (le-leb _ _ c.if-s-at.true)

shared-slice-read-first : tie.Need-bounds-s-at
shared-slice-read-first c = search rules

add-t11 : tie.Need-overflow_add-result
add-t11 c = search rules

returns-2 : tie.Need-returns-then-first-eq-CLOSE
unfolding record_at
returns-2 c = simp (lt-leb _ _ c.before.before.if-s-at.false, eq-eqb _ _ c.if-first-eq-CLOSE.true)

sub-if3 : tie.Need-overflow_sub-s
sub-if3 c = search rules

returns-3 : tie.Need-returns-then-s-at-lt9
unfolding record_at
returns-3 c = let a = c.before.before.before.before.before.args in
    simp (lt-leb _ _ c.before.before.before.if-s-at.false, ne_eqb _ _ c.before.if-first-eq-CLOSE.false, lt-ltb (length a.s.now) (a.at + 9) (omega arith))

add-float-at : tie.Need-overflow_add-at
add-float-at c = search rules

float-at-requires : tie.Need-float_at-x-requires
float-at-requires c κs = search rules

add-float-at-2 : tie.Need-overflow_add-at-2
add-float-at-2 c = search rules

float-at-requires-2 : tie.Need-float_at-y-requires
float-at-requires-2 c κs = search rules

add-t14 : tie.Need-overflow_add-result-then-first-eq-MOVE
add-t14 c = search rules

returns-4 : tie.Need-returns-then-first-eq-MOVE
returns-4 c = sym (passed c.before.before.before ∙ simp (eq-eqb _ _ c.if-first-eq-MOVE.true, ← c.before.before.float_at-x.ensures, ← c.before.float_at-y.ensures))

add-t16 : tie.Need-overflow_add-result-then-first-eq-LINE
add-t16 c = search rules

returns-5 : tie.Need-returns-then-first-eq-LINE
returns-5 c = sym (passed c.before.before.before.before
    ∙ simp (ne_eqb _ _ c.before.if-first-eq-MOVE.false, eq-eqb _ _ c.if-first-eq-LINE.true, ← c.before.before.before.float_at-x.ensures, ← c.before.before.float_at-y.ensures))

returns-6 : tie.Need-returns
returns-6 c = sym (passed c.before.before.before.before ∙ simp (ne_eqb _ _ c.before.if-first-eq-MOVE.false, ne_eqb _ _ c.if-first-eq-LINE.false))

pub record_at_spec : {M : Type 1} → statement M
record_at_spec =
    tie.close
    (tie.spec
    returns
    shared-slice-read-first
    add-t11
    returns-2
    sub-if3
    returns-3
    add-float-at
    float-at-requires
    add-float-at-2
    float-at-requires-2
    add-t14
    returns-4
    add-t16
    returns-5
    returns-6)
