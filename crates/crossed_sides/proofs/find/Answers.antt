-- `crossed_sides::find` meets its contract: the tests of four products are the cases of `out_first` and `in_last`, `entry` and `exit`. Assumes nothing.
use mathlib.Core.Path.{◌≡◌, subst₂, ◌∙◌}
use mathlib.Core.List.{[], ◌∷◌}
use native.Mathlib.Omega.{arith}
use lib.IntN.{ℤ, ◌*ℤ◌}
use mir.Syntax.{w32}
use mir.Val.{SFits}
use mir.Facts.{to_z-of_z}
use Rattle.whole.specs.Within.{Within}
use Rattle.whole.proofs.Comparisons.{lt_yes, lt_no, bits}
use Rattle.whole.proofs.Expressions.{◌⊗◌, x0, x1}
use Rattle.whole.proofs.Ranges.{within_abs, fits_abs, fits}
use Rattle.grid.specs.declared.Stroke.{Stroke}
use Rattle.grid.specs.declared.Window.{Window}
use Rattle.grid.specs.Table.{WindowOnTable, StrokeOnTable}
use Rattle.strokes.proofs.Reading.{read}
use Rattle.crossed_sides.specs.declared.Course.{Course}
use Rattle.crossed_sides.specs.Workers.{CourseOf, LevelIf}
use Rattle.crossed_sides.proofs.Beside.{out_first, in_last}
use Rattle.crossed_sides.proofs.Courses.{small}
use Rattle.crossed_sides.proofs.Found.{entry, exit}
use Rattle.crossed_sides.proofs.find.Goals as goal

-- ---- a product of two numbers of the courses, as the code makes it
number_fits : {z : ℤ} → Within 32766 z → SFits w32 z
number_fits h = fits_abs (omega (arith, within_abs h))

number_is : {z : ℤ} → Within 32766 z → read z ≡ z
number_is h = to_z-of_z (number_fits h)

product_fits : {y z : ℤ} → Within 32766 y → Within 32766 z → SFits w32 (read y *ℤ read z)
product_fits {y} {z} hy hz =
    fits w32 (32766 ∷ 32766 ∷ []) (read y ∷ read z ∷ []) (bits (Within 32766) (number_fits hy) hy, (bits (Within 32766) (number_fits hz) hz, tt)) (x0 ⊗ x1) tt

product_is : {y z : ℤ} → Within 32766 y → Within 32766 z → read (read y *ℤ read z) ≡ y *ℤ z
product_is hy hz = to_z-of_z (product_fits hy hz) ∙ (λ i. number_is hy i *ℤ number_is hz i)

-- ---- the four products of the two courses, whose numbers are small
module _ {w : Window} {s : Stroke} {x y : Course} (on : WindowOnTable w) (st : StrokeOnTable s)
    (cx : CourseOf w.left w.right s.x1 s.x2 x) (cy : CourseOf w.bottom w.top s.y1 s.y2 y) where
  x_small : Within 32766 x.long × (Within 32766 x.near × Within 32766 x.far)
  x_small = small on.left on.right st.x1 st.x2 cx

  y_small : Within 32766 y.long × (Within 32766 y.near × Within 32766 y.far)
  y_small = small on.bottom on.top st.y1 st.y2 cy

  upright_in_fits : SFits w32 (read y.long *ℤ read x.near)
  upright_in_fits = product_fits y_small.0 x_small.1.0

  level_out_fits : SFits w32 (read x.long *ℤ read y.far)
  level_out_fits = product_fits x_small.0 y_small.1.1

  upright_out_fits : SFits w32 (read y.long *ℤ read x.far)
  upright_out_fits = product_fits y_small.0 x_small.1.1

  level_in_fits : SFits w32 (read x.long *ℤ read y.near)
  level_in_fits = product_fits x_small.0 y_small.1.0

  upright_in : read (read y.long *ℤ read x.near) ≡ y.long *ℤ x.near
  upright_in = product_is y_small.0 x_small.1.0

  level_out : read (read x.long *ℤ read y.far) ≡ x.long *ℤ y.far
  level_out = product_is x_small.0 y_small.1.1

  upright_out : read (read y.long *ℤ read x.far) ≡ y.long *ℤ x.far
  upright_out = product_is y_small.0 x_small.1.1

  level_in : read (read x.long *ℤ read y.near) ≡ x.long *ℤ y.near
  level_in = product_is x_small.0 y_small.1.0

pub overflow_mul-upright_in : goal.overflow_mul-upright_in
overflow_mul-upright_in c = let p = c.requires in upright_in_fits p.window_on_table p.stroke_on_table p.course_of p.course_of_2

pub overflow_mul-level_out : goal.overflow_mul-level_out
overflow_mul-level_out c = let p = c.requires in level_out_fits p.window_on_table p.stroke_on_table p.course_of p.course_of_2

pub returns-then-level_out-upright_in : goal.returns-then-level_out-upright_in
returns-then-level_out-upright_in c =
    let p = c.requires in
    let on = p.window_on_table in
    let st = p.stroke_on_table in
    let cx = p.course_of in
    let cy = p.course_of_2 in
    out_first c.args.w c.args.s on cx cy (lt_yes (level_out on st cx cy) (upright_in on st cx cy) c.if-level_out-upright_in.true)

pub overflow_mul-upright_out : goal.overflow_mul-upright_out
overflow_mul-upright_out c = let p = c.requires in upright_out_fits p.window_on_table p.stroke_on_table p.course_of p.course_of_2

pub overflow_mul-level_in : goal.overflow_mul-level_in
overflow_mul-level_in c = let p = c.requires in level_in_fits p.window_on_table p.stroke_on_table p.course_of p.course_of_2

pub returns-then-upright_out-level_in : goal.returns-then-upright_out-level_in
returns-then-upright_out-level_in c =
    let p = c.requires in
    let on = p.window_on_table in
    let st = p.stroke_on_table in
    let cx = p.course_of in
    let cy = p.course_of_2 in
    in_last c.args.w c.args.s on cx cy (lt_yes (upright_out on st cx cy) (level_in on st cx cy) c.if-upright_out-level_in.true)

pub returns : goal.returns
returns c =
    let p = c.requires in
    let on = p.window_on_table in
    let st = p.stroke_on_table in
    let cx = p.course_of in
    let cy = p.course_of_2 in
    let m = lt_no (level_out on st cx cy) (upright_in on st cx cy) c.if-level_out-upright_in.false in
    let n = lt_no (upright_out on st cx cy) (level_in on st cx cy) c.if-upright_out-level_in.false in
    record {
      comes =
          entry c.args.w c.args.s on p.has_length cx cy m n
          (subst₂ (λ (y z : ℤ). LevelIf c.args.s y z c.is_level.result) (upright_in on st cx cy) (level_in on st cx cy) c.is_level.ensures);
      goes =
          exit c.args.w c.args.s on p.has_length cx cy m n
          (subst₂ (λ (y z : ℤ). LevelIf c.args.s y z c.is_level-2.result) (level_out on st cx cy) (upright_out on st cx cy) c.is_level-2.ensures);
    }
