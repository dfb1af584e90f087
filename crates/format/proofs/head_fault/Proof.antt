-- `format::head_fault` meets its contract: each return is the definition at the tests that led there. Assumes nothing.
use borrow.Author.Rules.{rules}
use mathlib.Core.Path.{◌≡◌}
use mathlib.Core.Bool.{true}
use Prim.Native.Nat.{◌+◌}
use native.Mathlib.Omega.{arith}
use borrow.Author.Tests.{lt-ltb, le-ltb, eq-eqb, ne_eqb}
use lib.Dec.{eqb}
use lib.ListN.{length, get_or, get_or-eq_default}
use Rattle.format.specs.Format.{number_at, head_fault}
use Rattle.format.proofs.head_fault.Statement.{statement}
use Rattle.format.proofs.head_fault.Tie as tie

-- the count is right
count : (c : tie.Else-number_at-n) → let s = c.before.before.before.before.args.s.now in eqb (number_at s 0 + 4) (length s) ≡ true
count c =
    let s = c.before.before.before.before.args.s.now in
    eq-eqb (number_at s 0 + 4) (length s) (omega (arith, c.before.number_at.ensures))

returns : tie.Need-returns-then-n-lt4
unfolding head_fault
returns c = simp (ne_eqb (number_at c.before.before.args.s.now 0 + 4) (length c.before.before.args.s.now) (λ e. omega arith))

number-at-requires : tie.Need-number_at-requires
number-at-requires c κs = search rules

cast-if2 : tie.Need-overflow_cast-number_at
cast-if2 c = search rules

add-if2 : tie.Need-overflow_add-number_at
add-if2 c = search rules

returns-2 : tie.Need-returns-then-number_at-n
unfolding head_fault
returns-2 c = simp (← c.before.number_at.ensures, ne_eqb _ _ c.if-number_at-n.true)

returns-3 : tie.Need-returns-then-n-gt-MOST_BYTES
unfolding head_fault
returns-3 c = simp (count c.before, lt-ltb _ _ c.if-n-gt-MOST_BYTES.true)

returns-4 : tie.Need-returns-then-n-lt5
unfolding head_fault
returns-4 c =
    let s = c.before.before.before.before.before.before.args.s.now in
    let missing : get_or s 4 0 ≡ 0 = get_or-eq_default s 0 (omega arith) in
    simp (count c.before.before, le-ltb _ _ c.before.if-n-gt-MOST_BYTES.false, missing)

shared-slice-read-if5 : tie.Need-bounds-s-4
shared-slice-read-if5 c = search rules

returns-5 : tie.Need-returns-then-s-ne-VERSION
unfolding head_fault
returns-5 c = let d = c.before.before.before.before in simp (count d, le-ltb _ _ c.before.before.before.if-n-gt-MOST_BYTES.false, ne_eqb _ _ c.if-s-ne-VERSION.true)

returns-6 : tie.Need-returns-then-n-lt-HEAD_SIZE
unfolding head_fault
returns-6 c = let d = c.before.before.before.before.before in
    simp (count d, le-ltb _ _ c.before.before.before.before.if-n-gt-MOST_BYTES.false, eq-eqb _ _ c.before.if-s-ne-VERSION.false, lt-ltb _ _ c.if-n-lt-HEAD_SIZE.true)

returns-7 : tie.Need-returns
unfolding head_fault
returns-7 c = let d = c.before.before.before.before.before in
    simp (count d, le-ltb _ _ c.before.before.before.before.if-n-gt-MOST_BYTES.false, eq-eqb _ _ c.before.if-s-ne-VERSION.false, le-ltb _ _ c.if-n-lt-HEAD_SIZE.false)

pub head_fault_spec : {M : Type 1} → statement M
head_fault_spec =
    tie.close
    (tie.spec
    returns
    number-at-requires
    cast-if2
    add-if2
    returns-2
    returns-3
    returns-4
    shared-slice-read-if5
    returns-5
    returns-6
    returns-7)
