-- `grid::bad_window` meets its contract: a number is off the table, or else it is the area that is bad. Assumes nothing.
use mathlib.Core.Path.{◌≡◌, ◌∙◌, subst}
use Prim.Native.Nat.{ℕ, ◌≤◌}
use borrow.Author.Rules.{rules}
use borrow.Author.Tests.{lt-ltb, le-ltb}
use Rattle.grid.specs.Table.{first_off, sides}
use Rattle.grid.specs.Refusals.{first, off_table, window_refusal}
use Rattle.grid.proofs.Ranges.{read_four}
use Rattle.grid.proofs.Refusals.{bad_area}
use Rattle.grid.proofs.bad_window.Statement.{statement}
use Rattle.grid.proofs.bad_window.Tie as tie

off : (c : tie.After-first_off_of_four-off) → c.first_off_of_four-off.result ≡ first_off (sides c.before.before.before.before.before.args.w)
off c = let g = c.before.before.before.before.struct_told-1.given in
    c.first_off_of_four-off.ensures ∙ read_four _ _ _ _ g.0.1 g.1.0.1 g.1.1.0.1 g.1.1.1.0.1

first-off-of-four-requires : tie.Need-first_off_of_four-off-requires
first-off-of-four-requires c κs = search rules

returns : tie.Need-returns-then-off-lt4
unfolding window_refusal first off_table
returns c = simp (← off c.before, lt-ltb _ _ c.if-off-lt4.true)

returns-2 : tie.Need-returns
unfolding window_refusal first off_table
returns-2 c =
    let a = c.before.before.before.before.before.before in
    let on : 4 ≤ first_off (sides a.args.w) = subst (λ (k : ℕ). 4 ≤ k) (off c.before) c.if-off-lt4.false in
    simp (le-ltb _ _ on, bad_area a.args.w on a.requires)

pub bad_window_spec : {M : Type 1} → statement M
bad_window_spec = tie.close (tie.spec first-off-of-four-requires returns returns-2)
