-- `on_table` decides, and a grid number over 32 is exact (`proofs/Exact.antt`).
use lib.Dec.{T}
use lib.Ieee.{binary32, of_bits, of_int, in_float, div}
use lib.Ieee.Fits.{div-fits}
use mir.Facts.{to_z-of_z}
use Rattle.std.proofs.Common.{◌≡◌, ℤ, sym, ap, ◌∙◌, subst, true}
use Rattle.whole.proofs.Ranges.{within_abs}
use Rattle.grid.proofs.Ranges.{on_within}
use Rattle.grid.specs.Table.{on_table}
use Rattle.intake.specs.Laws.{thirty_two}
use Rattle.intake.specs.Millimetres.{ToMillimetres, done, refused}
use Rattle.intake.proofs.Exact.{castable, quotient_exact}
use Rattle.intake.proofs.to_millimetres.Goals as goal

pub int_to_float-result : goal.int_to_float-result
int_to_float-result c =
    let same = to_z-of_z c.ranges.g in
    let on : on_table c.args.g ≡ true = ap on_table (sym same) ∙ sym c.if-on_table.ensures in
    subst (λ (z : ℤ). T (in_float binary32 z)) (sym same) (castable c.args.g (within_abs (on_within c.args.g on)))

pub returns-then-on_table : goal.returns-then-on_table
unfolding of_bits
returns-then-on_table c =
    let g = c.args.g in
    let same = to_z-of_z c.ranges.g in
    let on : on_table g ≡ true = ap on_table (sym same) ∙ sym c.if-on_table.ensures in
    subst (λ (z : ℤ). ToMillimetres g (record { number = 0; place = 0; mm = div binary32 (of_int binary32 z) thirty_two })) (sym same)
    (done on (record { single = div-fits binary32 (of_int binary32 g) thirty_two; exact = quotient_exact g (within_abs (on_within g on)) }))

pub returns : goal.returns
unfolding of_bits
returns c = refused (ap on_table (sym (to_z-of_z c.ranges.g)) ∙ sym c.if-on_table.ensures)
