-- A stroke that is not missed by its ends is missed where all corners lie on one side of its line, and only there: else the corners find the side where
-- it comes in, and the point there is kept, or the stroke's own start.
use mathlib.Core.Path.{◌≡◌}
use mathlib.Core.Bool.{Bool, true, false}
use mathlib.Core.List.{[], ◌∷◌}
use mathlib.Core.Logic.{◌⊎◌, inl, inr, ⊎_elim}
use lib.IntN.{ℤ, pos, ◌*ℤ◌, ℤ_discrete}
use lib.Signed.{◌≤ℤ◌, ◌<ℤ◌}
use Rattle.whole.specs.Within.{Within}
use Rattle.whole.proofs.Certificates.{ge, le}
use Rattle.whole.proofs.Expressions.{con, ◌⊗◌, neg, x0, x1}
use Rattle.whole.proofs.Order.{zarith, ≤_total}
use Rattle.whole.proofs.Polynomials.{ring}
use Rattle.grid.specs.declared.Stroke.{Stroke}
use Rattle.grid.specs.declared.Window.{Window}
use Rattle.grid.specs.Table.{WindowOnTable, StrokeOnTable}
use Rattle.rings.specs.Lists.{All}
use Rattle.spans.specs.Sides.{Condition, FirstOf}
use Rattle.strokes.specs.Sides.{conditions, four_sides}
use Rattle.strokes.specs.Strokes.{Keeps}
use Rattle.strokes.specs.Workers.{MayReach, Reaching}
use Rattle.strokes.proofs.Answers.{inside_always}
use Rattle.strokes.proofs.Coordinates.{not_below, not_above}
use Rattle.strokes.proofs.Sides.{meets_keeps}
use Rattle.crossed_sides.specs.declared.Course.{Course}
use Rattle.crossed_sides.specs.Line.{ComesIn, OneSide, entry_side}
use Rattle.crossed_sides.specs.Workers.{CourseOf, up, down, HasLength, LevelIf, plumb, less, not_less}
use Rattle.crossed_sides.proofs.Beside.{out_first, in_last}
use Rattle.crossed_sides.proofs.Corners.{Enters}
use Rattle.crossed_sides.proofs.Courses.{in_of}
use Rattle.crossed_sides.proofs.Found.{entry}
use Rattle.crossed_sides.proofs.Told.{enters_upright, enters_level}
use Rattle.cross_product.specs.Workers.{part_way}
use Rattle.cross_product.specs.Laws.{BothBeyond, to_left, to_right, to_bottom, to_top}
use Rattle.cross_product.proofs.Ends.{near_way}
use Rattle.cross_product.proofs.Fixing.{in_meets}
use Rattle.cross_product.proofs.Given.{x_small, y_small, in_x, in_y}
use Rattle.cross_product.proofs.Reached.{Reached, reached, starts_inside, dot_inside}

-- ---- every way has a course, and every pair of products a level
record Some (lo hi a b : ℤ) : Type 0 where
  course : Course
  is : CourseOf lo hi a b course

some : (lo hi a b : ℤ) → Some lo hi a b
some lo hi a b = ⊎_elim (λ h. record { course = _; is = up h }) (λ h. record { course = _; is = down h }) (≤_total a b)

-- ---- by the two ends
data Ends (lo hi a b : ℤ) : Type 0 where
  below : a <ℤ lo → b <ℤ lo → Ends lo hi a b
  above : hi <ℤ a → hi <ℤ b → Ends lo hi a b
  reach : MayReach lo hi a b → Ends lo hi a b

ends : (lo hi a b : ℤ) → Ends lo hi a b
ends lo hi a b = ⊎_elim
    (λ l. ⊎_elim
    (λ h. reach (record { up = λ m. absurd (omega zarith); down = λ _ _ m. absurd (omega zarith) }))
    (λ h. ⊎_elim (λ k. reach (record { up = λ m. absurd (omega zarith); down = λ _ _ _. k })) (λ k. above h k) (≤_total b hi))
    (≤_total a hi))
    (λ l. ⊎_elim (λ k. reach (record { up = λ _. k; down = λ m _ _. absurd (omega zarith) })) (λ k. below l k) (≤_total lo b))
    (≤_total lo a)

record Level (s : Stroke) (a b : ℤ) : Type 0 where
  level : Bool
  is : LevelIf s a b level

level_of : (s : Stroke) (a b : ℤ) → Level s a b
level_of s a b = go (ℤ_discrete s.x1 s.x2)
  where
    go : Dec (s.x1 ≡ s.x2) → Level s a b
    go (yes e) = record { level = true; is = plumb e }
    go (no n) = ⊎_elim (λ h. record { level = false; is = not_less n h }) (λ h. record { level = true; is = less n h }) (≤_total b a)

-- ---- a stroke that reaches the window and whose line crosses it is kept somewhere
module _ {w : Window} {s : Stroke} (on : WindowOnTable w) (st : StrokeOnTable s) (rc : Reaching w s) (never : (n d : ℤ) → Keeps w s n d → ⊥) where
  kept_at : (c : Course) → Enters (conditions w s) (in_of c) → ((P : Condition → Type 0) → All P (conditions w s) → P (in_of c)) → Within 32766 c.long → ⊥
  kept_at c e member small = ⊎_elim
      (λ h.
      never (pos 0) (pos 1)
      (meets_keeps (record {
        time = record { den = omega zarith; low = omega zarith; high = omega zarith };
        each = starts_inside (in_of c) (reached on rc) e (ge (c.near ∷ []) (con (pos 0)) (neg x0) (le x0 (con (pos 0)) h) tt);
      })))
      (λ h.
      let way = near_way c small e.inward (member Reached (reached on rc)) h in
      never c.near c.long
      (meets_keeps (record {
        time = way.time;
        each = in_meets (in_of c) (part_way c.near c.long) way.time.den (ring (c.long ∷ c.near ∷ []) (neg x0 ⊗ x1) (neg x1 ⊗ x0) tt) e;
      })))
      (≤_total c.near (pos 0))

  beside : HasLength s → OneSide w s
  beside len =
      let a = some w.left w.right s.x1 s.x2 in
      let b = some w.bottom w.top s.y1 s.y2 in
      by a.is b.is
    where
      by : {x y : Course} → CourseOf w.left w.right s.x1 s.x2 x → CourseOf w.bottom w.top s.y1 s.y2 y → OneSide w s
      by {x} {y} cx cy = ⊎_elim
          (λ m. ⊎_elim (λ n. absurd (go m n (level_of s (y.long *ℤ x.near) (x.long *ℤ y.near)))) (λ n. in_last w s on cx cy n)
          (≤_total (x.long *ℤ y.near) (y.long *ℤ x.far)))
          (λ m. out_first w s on cx cy m)
          (≤_total (y.long *ℤ x.near) (x.long *ℤ y.far))
        where
          go : (y.long *ℤ x.near) ≤ℤ (x.long *ℤ y.far) → (x.long *ℤ y.near) ≤ℤ (y.long *ℤ x.far)
              → Level s (y.long *ℤ x.near) (x.long *ℤ y.near) → ⊥
          go m n l = from l.level (entry w s on len cx cy m n l.is)
            where
              from : (t : Bool) → FirstOf (ComesIn w s) four_sides (entry_side s t) → ⊥
              from true f = kept_at y (enters_level w s on cx cy f) (in_y on st rc cx cy) (y_small on st rc cx cy).0
              from false f = kept_at x (enters_upright w s on cx cy f) (in_x on st rc cx cy) (x_small on st rc cx cy).0

  missed_reaching : OneSide w s
  missed_reaching = go (ℤ_discrete s.x1 s.x2) (ℤ_discrete s.y1 s.y2)
    where
      go : Dec (s.x1 ≡ s.x2) → Dec (s.y1 ≡ s.y2) → OneSide w s
      go (yes p) (yes q) =
          absurd (never (pos 0) (pos 1) (inside_always (dot_inside rc p q) (pos 0) (pos 1) (record { den = omega zarith; low = omega zarith; high = omega zarith })))
      go (yes p) (no q) = beside (λ _ e. q e)
      go (no p) q = beside (λ e _. p e)

-- ---- both ways
pub beyond_missed : {w : Window} {s : Stroke} → BothBeyond w s → (n d : ℤ) → Keeps w s n d → ⊥
beyond_missed (to_left a b) n d k = not_below a b k.time k.x
beyond_missed (to_right a b) n d k = not_above a b k.time k.x
beyond_missed (to_bottom a b) n d k = not_below a b k.time k.y
beyond_missed (to_top a b) n d k = not_above a b k.time k.y

pub missed_there : {w : Window} {s : Stroke} → WindowOnTable w → StrokeOnTable s → ((n d : ℤ) → Keeps w s n d → ⊥) → BothBeyond w s ⊎ OneSide w s
missed_there {w} {s} on st never = go (ends w.left w.right s.x1 s.x2) (ends w.bottom w.top s.y1 s.y2)
  where
    go : Ends w.left w.right s.x1 s.x2 → Ends w.bottom w.top s.y1 s.y2 → BothBeyond w s ⊎ OneSide w s
    go (below a b) e = inl (to_left a b)
    go (above a b) e = inl (to_right a b)
    go (reach r) (below a b) = inl (to_bottom a b)
    go (reach r) (above a b) = inl (to_top a b)
    go (reach r) (reach q) = inr (missed_reaching on st (record { x = r; y = q }) never)
