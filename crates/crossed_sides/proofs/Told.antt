-- What the first side says of the courses: the course whose side it is enters the window there, or leaves it, and the point there lies inside all four.
use mathlib.Core.Path.{subst}
use mathlib.Core.Bool.{Bool, true, false}
use Prim.Native.Nat.{ℕ}
use lib.Signed.{lt_z}
use Rattle.whole.specs.Choice.{when◌then◌else◌}
use Rattle.whole.proofs.Order.{<→≤}
use Rattle.grid.specs.declared.Stroke.{Stroke}
use Rattle.grid.specs.declared.Window.{Window}
use Rattle.grid.specs.Sides.{Side, left, right, bottom, top}
use Rattle.grid.specs.Table.{WindowOnTable}
use Rattle.spans.specs.Sides.{FirstOf, here, later}
use Rattle.strokes.specs.Sides.{conditions, four_sides}
use Rattle.crossed_sides.specs.declared.Course.{Course}
use Rattle.crossed_sides.specs.Line.{ComesIn, GoesOut, entry_side, exit_side}
use Rattle.crossed_sides.specs.Workers.{CourseOf}
use Rattle.crossed_sides.proofs.Corners.{Enters, Leaves, in_enters, out_leaves}
use Rattle.crossed_sides.proofs.Courses.{in_of, out_of, Facing, rising, falling, facing, not_back}
use Rattle.crossed_sides.proofs.Found.{met_low, met_high, not_in_out}

-- ---- the first of four is the one of its number
module _ {P : Side → Type 0} where
  first_left : FirstOf P four_sides 0 → P left
  first_left (here p) = p

  first_right : FirstOf P four_sides 1 → P right
  first_right (later n (here p)) = p

  first_bottom : FirstOf P four_sides 2 → P bottom
  first_bottom (later n (later m (here p))) = p

  first_top : FirstOf P four_sides 3 → P top
  first_top (later n (later m (later l (here p)))) = p

module _ (w : Window) (s : Stroke) (on : WindowOnTable w) {x y : Course}
    (cx : CourseOf w.left w.right s.x1 s.x2 x) (cy : CourseOf w.bottom w.top s.y1 s.y2 y) where
  abbrev FirstIn : ℕ → Type 0
  FirstIn = FirstOf (ComesIn w s) four_sides

  abbrev FirstOut : ℕ → Type 0
  FirstOut = FirstOf (GoesOut w s) four_sides

  pub enters_upright : FirstIn (entry_side s false) → Enters (conditions w s) (in_of x)
  enters_upright f = go (facing cx)
    where
      go : Facing w.left w.right s.x1 s.x2 x → Enters (conditions w s) (in_of x)
      go (rising h l r) = subst (Enters (conditions w s)) l (in_enters w s on left (first_left (subst FirstIn (met_low 0 1 h) f)))
      go (falling h l r) = subst (Enters (conditions w s)) r (in_enters w s on right (first_right (subst FirstIn (met_high 0 1 h) f)))

  pub enters_level : FirstIn (entry_side s true) → Enters (conditions w s) (in_of y)
  enters_level f = go (facing cy)
    where
      go : Facing w.bottom w.top s.y1 s.y2 y → Enters (conditions w s) (in_of y)
      go (rising h b t) = subst (Enters (conditions w s)) b (in_enters w s on bottom (first_bottom (subst FirstIn (met_low 2 3 h) f)))
      go (falling h b t) = subst (Enters (conditions w s)) t (in_enters w s on top (first_top (subst FirstIn (met_high 2 3 h) f)))

  -- where it goes out a course that does not fall does rise
  pub leaves_upright : FirstOut (exit_side s false) → Leaves (conditions w s) (out_of x)
  leaves_upright f = go (facing cx)
    where
      go : Facing w.left w.right s.x1 s.x2 x → Leaves (conditions w s) (out_of x)
      go (rising h l r) = from (lt_z s.x1 s.x2) f
        where
          from : (t : Bool) → FirstOut (when t then 1 else 0) → Leaves (conditions w s) (out_of x)
          from true g = subst (Leaves (conditions w s)) r (out_leaves w s on right (first_right g))
          from false g = absurd (not_in_out x (not_back cx) (subst (Leaves (conditions w s)) l (out_leaves w s on left (first_left g))))
      go (falling h l r) = subst (Leaves (conditions w s)) l (out_leaves w s on left (first_left (subst FirstOut (met_low 0 1 (<→≤ h)) f)))

  pub leaves_level : FirstOut (exit_side s true) → Leaves (conditions w s) (out_of y)
  leaves_level f = go (facing cy)
    where
      go : Facing w.bottom w.top s.y1 s.y2 y → Leaves (conditions w s) (out_of y)
      go (rising h b t) = from (lt_z s.y1 s.y2) f
        where
          from : (u : Bool) → FirstOut (when u then 3 else 2) → Leaves (conditions w s) (out_of y)
          from true g = subst (Leaves (conditions w s)) t (out_leaves w s on top (first_top g))
          from false g = absurd (not_in_out y (not_back cy) (subst (Leaves (conditions w s)) b (out_leaves w s on bottom (first_bottom g))))
      go (falling h b t) = subst (Leaves (conditions w s)) b (out_leaves w s on bottom (first_bottom (subst FirstOut (met_low 2 3 (<→≤ h)) f)))
