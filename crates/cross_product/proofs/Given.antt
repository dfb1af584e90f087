-- What the workers that find an end ask and get, for a window and a stroke with their courses: by the numbers as the code reads them.
use mathlib.Core.Path.{◌≡◌, refl, sym, transport}
use mathlib.Core.Bool.{true, false}
use mathlib.Core.List.{[], ◌∷◌}
use Prim.Native.Nat.{ℕ}
use native.Mathlib.Omega.{arith}
use lib.IntN.{ℤ, pos, neg_ℤ}
use lib.Signed.{◌≤ℤ◌, ◌<ℤ◌, le_z}
use mir.Syntax.{w32}
use mir.Facts.{to_z-of_z}
use Rattle.whole.specs.Within.{Within}
use Rattle.whole.proofs.Certificates.{ge, le}
use Rattle.whole.proofs.Comparisons.{le_yes, le_no}
use Rattle.whole.proofs.Expressions.{con, ◌⊗◌, neg, x0, x1}
use Rattle.whole.proofs.Polynomials.{ring}
use Rattle.whole.proofs.Ranges.{within_abs, fits_abs}
use Rattle.grid.specs.declared.Stroke.{Stroke}
use Rattle.grid.specs.declared.Window.{Window}
use Rattle.grid.specs.Table.{farthest, WindowOnTable, StrokeOnTable}
use Rattle.rings.specs.Lists.{All}
use Rattle.rings.proofs.Lists.{all_head, all_tail}
use Rattle.spans.specs.Sides.{Condition, FirstOf, no_side, StartSide, EndSide}
use Rattle.spans.specs.Parts.{zeroth, unit}
use Rattle.strokes.specs.declared.End.{End}
use Rattle.strokes.specs.Sides.{conditions, four_sides}
use Rattle.strokes.specs.Workers.{Reaching, OnWay, EndAt}
use Rattle.strokes.proofs.Reading.{read, read_is}
use Rattle.crossed_sides.specs.declared.Course.{Course}
use Rattle.crossed_sides.specs.Line.{ComesIn, GoesOut, entry_side, exit_side}
use Rattle.crossed_sides.specs.Workers.{CourseOf}
use Rattle.crossed_sides.proofs.Corners.{Enters, Leaves}
use Rattle.crossed_sides.proofs.Courses.{in_of, out_of, facing, of_in, of_out, small, sides_on_table}
use Rattle.crossed_sides.proofs.Told.{enters_upright, enters_level, leaves_upright, leaves_level}
use Rattle.cross_product.specs.Workers.{part_way, MeetsUpright, MeetsLevel, EndFound}
use Rattle.cross_product.proofs.Ends.{course_at, course_to, near_way, far_way, own_start_found, start_found, own_end_found, end_found}
use Rattle.cross_product.proofs.Reached.{Reached, reached}

number_is : {z : ℤ} → Within 32766 z → read z ≡ z
number_is h = to_z-of_z {w = w32} (fits_abs (omega (arith, within_abs h)))

-- the tests of the code
pub behind : {z : ℤ} → Within 32766 z → le_z (read z) (pos 0) ≡ true → pos 0 ≤ℤ neg_ℤ z
behind {z} h e = ge (z ∷ []) (con (pos 0)) (neg x0) (le x0 (con (pos 0)) (le_yes (number_is h) refl e)) tt

pub ahead : {z : ℤ} → Within 32766 z → le_z (read z) (pos 0) ≡ false → pos 0 <ℤ z
ahead h e = le_no (number_is h) refl e

pub within_reach : {y z : ℤ} → Within 32766 y → Within 32766 z → le_z (read y) (read z) ≡ true → y ≤ℤ z
within_reach hy hz e = le_yes (number_is hy) (number_is hz) e

pub cut_off : {y z : ℤ} → Within 32766 y → Within 32766 z → le_z (read y) (read z) ≡ false → z <ℤ y
cut_off hy hz e = le_no (number_is hy) (number_is hz) e

-- ---- the courses, by the numbers as they are read
module _ {lo hi a b : ℤ} (wl : Within farthest lo) (wh : Within farthest hi) (wa : Within farthest a) (wb : Within farthest b) where
  pub course_plain : {c : Course} → CourseOf (read lo) (read hi) (read a) (read b) c → CourseOf lo hi a b c
  course_plain {c} k = transport (λ i. CourseOf (read_is wl i) (read_is wh i) (read_is wa i) (read_is wb i) c) k

-- ---- both courses
module _ {w : Window} {s : Stroke} {x y : Course} (on : WindowOnTable w) (st : StrokeOnTable s) (rc : Reaching w s)
    (cx : CourseOf w.left w.right s.x1 s.x2 x) (cy : CourseOf w.bottom w.top s.y1 s.y2 y) where
  pub x_small : Within 32766 x.long × (Within 32766 x.near × Within 32766 x.far)
  x_small = small on.left on.right st.x1 st.x2 cx

  pub y_small : Within 32766 y.long × (Within 32766 y.near × Within 32766 y.far)
  y_small = small on.bottom on.top st.y1 st.y2 cy

  pub all_reached : All Reached (conditions w s)
  all_reached = reached on rc

  -- the sides of the courses are among the four
  pub in_x : (P : Condition → Type 0) → All P (conditions w s) → P (in_of x)
  in_x P a = of_in P (facing cx) (all_head a) (all_head (all_tail a))

  pub out_x : (P : Condition → Type 0) → All P (conditions w s) → P (out_of x)
  out_x P a = of_out P (facing cx) (all_head a) (all_head (all_tail a))

  pub in_y : (P : Condition → Type 0) → All P (conditions w s) → P (in_of y)
  in_y P a = of_in P (facing cy) (all_head (all_tail (all_tail a))) (all_head (all_tail (all_tail (all_tail a))))

  pub out_y : (P : Condition → Type 0) → All P (conditions w s) → P (out_of y)
  out_y P a = of_out P (facing cy) (all_head (all_tail (all_tail a))) (all_head (all_tail (all_tail (all_tail a))))

  -- ---- the start
  module _ (f : FirstOf (ComesIn w s) four_sides (entry_side s true)) where
    start_level_side : Enters (conditions w s) (in_of y)
    start_level_side = enters_level w s on cx cy f

    pub own_start_level : {a : End} → pos 0 ≤ℤ neg_ℤ y.near → EndAt s zeroth no_side a → EndFound StartSide w s a
    own_start_level h t = own_start_found w s on all_reached (in_of y) in_y start_level_side h t

    module _ (h : pos 0 <ℤ y.near) where
      start_level_way : OnWay (part_way y.near y.long)
      start_level_way = near_way y y_small.0 start_level_side.inward (in_y Reached all_reached) h

      pub start_level_asks : MeetsLevel s (read y.at) (read y.near) (read y.long)
      start_level_asks =
          let at = sym (read_is (sides_on_table on.bottom on.top cy).0) in
          let num = sym (number_is y_small.1.0) in
          let den = sym (number_is y_small.0) in
          transport (λ i. MeetsLevel s (at i) (num i) (den i)) (record { way = start_level_way; on = course_at cy })

      pub start_level_found : {k : ℕ} {a : End} → k ≡ entry_side s true → EndAt s (part_way (read y.near) (read y.long)) k a → EndFound StartSide w s a
      start_level_found {k} {a} e t =
          start_found w s on all_reached (in_of y) in_y start_level_side (part_way y.near y.long) start_level_way
          (ring (y.long ∷ y.near ∷ []) (neg x0 ⊗ x1) (neg x1 ⊗ x0) tt) h f
          (transport (λ i. EndAt s (part_way (number_is y_small.1.0 i) (number_is y_small.0 i)) (e i) a) t)

  module _ (f : FirstOf (ComesIn w s) four_sides (entry_side s false)) where
    start_upright_side : Enters (conditions w s) (in_of x)
    start_upright_side = enters_upright w s on cx cy f

    pub own_start_upright : {a : End} → pos 0 ≤ℤ neg_ℤ x.near → EndAt s zeroth no_side a → EndFound StartSide w s a
    own_start_upright h t = own_start_found w s on all_reached (in_of x) in_x start_upright_side h t

    module _ (h : pos 0 <ℤ x.near) where
      start_upright_way : OnWay (part_way x.near x.long)
      start_upright_way = near_way x x_small.0 start_upright_side.inward (in_x Reached all_reached) h

      pub start_upright_asks : MeetsUpright s (read x.at) (read x.near) (read x.long)
      start_upright_asks =
          let at = sym (read_is (sides_on_table on.left on.right cx).0) in
          let num = sym (number_is x_small.1.0) in
          let den = sym (number_is x_small.0) in
          transport (λ i. MeetsUpright s (at i) (num i) (den i)) (record { way = start_upright_way; on = course_at cx })

      pub start_upright_found : {k : ℕ} {a : End} → k ≡ entry_side s false → EndAt s (part_way (read x.near) (read x.long)) k a → EndFound StartSide w s a
      start_upright_found {k} {a} e t =
          start_found w s on all_reached (in_of x) in_x start_upright_side (part_way x.near x.long) start_upright_way
          (ring (x.long ∷ x.near ∷ []) (neg x0 ⊗ x1) (neg x1 ⊗ x0) tt) h f
          (transport (λ i. EndAt s (part_way (number_is x_small.1.0 i) (number_is x_small.0 i)) (e i) a) t)

  -- ---- the end
  module _ (f : FirstOf (GoesOut w s) four_sides (exit_side s true)) where
    end_level_side : Leaves (conditions w s) (out_of y)
    end_level_side = leaves_level w s on cx cy f

    pub own_end_level : {a : End} → y.long ≤ℤ y.far → EndAt s unit no_side a → EndFound EndSide w s a
    own_end_level h t = own_end_found w s on all_reached (out_of y) out_y end_level_side h t

    module _ (h : y.far <ℤ y.long) where
      end_level_way : OnWay (part_way y.far y.long)
      end_level_way = far_way y y_small.0 end_level_side.outward (out_y Reached all_reached) h

      pub end_level_asks : MeetsLevel s (read y.to) (read y.far) (read y.long)
      end_level_asks =
          let at = sym (read_is (sides_on_table on.bottom on.top cy).1) in
          let num = sym (number_is y_small.1.1) in
          let den = sym (number_is y_small.0) in
          transport (λ i. MeetsLevel s (at i) (num i) (den i)) (record { way = end_level_way; on = course_to cy })

      pub end_level_found : {k : ℕ} {a : End} → k ≡ exit_side s true → EndAt s (part_way (read y.far) (read y.long)) k a → EndFound EndSide w s a
      end_level_found {k} {a} e t =
          end_found w s on all_reached (out_of y) out_y end_level_side (part_way y.far y.long) end_level_way
          (ring (y.long ∷ y.far ∷ []) (x0 ⊗ x1) (x1 ⊗ x0) tt) h f
          (transport (λ i. EndAt s (part_way (number_is y_small.1.1 i) (number_is y_small.0 i)) (e i) a) t)

  module _ (f : FirstOf (GoesOut w s) four_sides (exit_side s false)) where
    end_upright_side : Leaves (conditions w s) (out_of x)
    end_upright_side = leaves_upright w s on cx cy f

    pub own_end_upright : {a : End} → x.long ≤ℤ x.far → EndAt s unit no_side a → EndFound EndSide w s a
    own_end_upright h t = own_end_found w s on all_reached (out_of x) out_x end_upright_side h t

    module _ (h : x.far <ℤ x.long) where
      end_upright_way : OnWay (part_way x.far x.long)
      end_upright_way = far_way x x_small.0 end_upright_side.outward (out_x Reached all_reached) h

      pub end_upright_asks : MeetsUpright s (read x.to) (read x.far) (read x.long)
      end_upright_asks =
          let at = sym (read_is (sides_on_table on.left on.right cx).1) in
          let num = sym (number_is x_small.1.1) in
          let den = sym (number_is x_small.0) in
          transport (λ i. MeetsUpright s (at i) (num i) (den i)) (record { way = end_upright_way; on = course_to cx })

      pub end_upright_found : {k : ℕ} {a : End} → k ≡ exit_side s false → EndAt s (part_way (read x.far) (read x.long)) k a → EndFound EndSide w s a
      end_upright_found {k} {a} e t =
          end_found w s on all_reached (out_of x) out_x end_upright_side (part_way x.far x.long) end_upright_way
          (ring (x.long ∷ x.far ∷ []) (x0 ⊗ x1) (x1 ⊗ x0) tt) h f
          (transport (λ i. EndAt s (part_way (number_is x_small.1.1 i) (number_is x_small.0 i)) (e i) a) t)
