-- `crossed_sides::course_past` meets its contract: differences of numbers of the table, as the direction has them. Assumes nothing.
use mathlib.Core.Path.{◌≡◌, sym, transport, ◌∙◌}
use mathlib.Core.List.{[], ◌∷◌}
use lib.IntN.{ℤ, ◌-ℤ◌}
use mir.Syntax.{w32}
use mir.Val.{SFits}
use mir.Facts.{to_z-of_z}
use Rattle.whole.specs.Within.{Within}
use Rattle.whole.proofs.Comparisons.{lt_yes, lt_no}
use Rattle.whole.proofs.Expressions.{◌⊖◌, x0, x1}
use Rattle.whole.proofs.Ranges.{fits}
use Rattle.grid.specs.Table.{farthest}
use Rattle.strokes.proofs.Reading.{read, read_is, read_on_table}
use Rattle.crossed_sides.specs.Workers.{CourseOf, up, down}
use Rattle.crossed_sides.proofs.course_past.Statement.{statement}
use Rattle.crossed_sides.proofs.course_past.Tie as tie

gap_fits : {y z : ℤ} → Within farthest y → Within farthest z → SFits w32 (read y -ℤ read z)
gap_fits {y} {z} hy hz = fits w32 (farthest ∷ farthest ∷ []) (read y ∷ read z ∷ []) (read_on_table hy, (read_on_table hz, tt)) (x0 ⊖ x1) tt

gap_is : {y z : ℤ} → Within farthest y → Within farthest z → y -ℤ z ≡ read (read y -ℤ read z)
gap_is hy hz = sym (to_z-of_z (gap_fits hy hz) ∙ (λ i. read_is hy i -ℤ read_is hz i))

sub-t6 : tie.Need-overflow_sub-result
sub-t6 c = let p = c.before.requires in gap_fits p.1.1.0 p.1.1.1

sub-t7 : tie.Need-overflow_sub-result-then-b-a
sub-t7 c = let p = c.before.requires in gap_fits p.1.1.0 p.1.0

sub-t8 : tie.Need-overflow_sub-result-then-b-a-2
sub-t8 c = let p = c.before.requires in gap_fits p.1.1.0 p.0

returns : tie.Need-returns-then-b-a
returns c =
    let p = c.before.requires in
    let a = c.before.args in
    let long = gap_is p.1.1.0 p.1.1.1 in
    let near = gap_is p.1.1.0 p.1.0 in
    let far = gap_is p.1.1.0 p.0 in
    let at = sym (read_is p.1.0) in
    let to = sym (read_is p.0) in
    transport (λ i. CourseOf a.lo a.hi a.a a.b (record { long = long i; near = near i; far = far i; at = at i; to = to i }))
    (down (lt_yes (read_is p.1.1.1) (read_is p.1.1.0) c.if-b-a.true))

sub-t9 : tie.Need-overflow_sub-result-2
sub-t9 c = let p = c.before.requires in gap_fits p.1.1.1 p.1.1.0

sub-t10 : tie.Need-overflow_sub-result-3
sub-t10 c = let p = c.before.requires in gap_fits p.0 p.1.1.0

sub-t11 : tie.Need-overflow_sub-result-4
sub-t11 c = let p = c.before.requires in gap_fits p.1.0 p.1.1.0

returns-2 : tie.Need-returns
returns-2 c =
    let p = c.before.requires in
    let a = c.before.args in
    let long = gap_is p.1.1.1 p.1.1.0 in
    let near = gap_is p.0 p.1.1.0 in
    let far = gap_is p.1.0 p.1.1.0 in
    let at = sym (read_is p.0) in
    let to = sym (read_is p.1.0) in
    transport (λ i. CourseOf a.lo a.hi a.a a.b (record { long = long i; near = near i; far = far i; at = at i; to = to i }))
    (up (lt_no (read_is p.1.1.1) (read_is p.1.1.0) c.if-b-a.false))

pub course_past_spec : {M : Type 1} → statement M
course_past_spec = tie.close (tie.spec sub-t6 sub-t7 sub-t8 returns sub-t9 sub-t10 sub-t11 returns-2)
