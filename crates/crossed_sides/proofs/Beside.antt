-- Where two products put a corner beyond the line, the other three lie on the same side of it: from corner to corner the cross product changes by
-- the stroke's way times a side of the window, and in each direction this corner is the one that lies nearest to the line or across it.
use mathlib.Core.Logic.{inl, inr}
use lib.IntN.{◌*ℤ◌}
use lib.Signed.{◌<ℤ◌}
use Rattle.whole.proofs.Certificates.{gt, le, lt, ◌⊞◌, ◌⊠◌}
use Rattle.whole.proofs.Expressions.{Expr, var, ◌⊖◌, ◌⊗◌}
use Rattle.grid.specs.declared.Stroke.{Stroke}
use Rattle.grid.specs.declared.Window.{Window}
use Rattle.grid.specs.Table.{WindowOnTable}
use Rattle.rings.specs.Lists.{∅, ◌◂◌}
use Rattle.crossed_sides.specs.declared.Course.{Course}
use Rattle.crossed_sides.specs.Line.{OneSide}
use Rattle.crossed_sides.specs.Workers.{CourseOf, up, down}
use Rattle.crossed_sides.proofs.Corners.{L, B, R, T, corner, naught, ρ}

abbrev X : Expr
X = var 4

abbrev Y : Expr
Y = var 5

-- how far the stroke goes to the right, to the left, up and down
abbrev East : Expr
East = var 6 ⊖ X

abbrev West : Expr
West = X ⊖ var 6

abbrev North : Expr
North = var 7 ⊖ Y

abbrev South : Expr
South = Y ⊖ var 7

module _ (w : Window) (s : Stroke) (on : WindowOnTable w) where
  -- the line comes in over an upright side only after it has gone out over the level one
  pub out_first : {x y : Course} → CourseOf w.left w.right s.x1 s.x2 x → CourseOf w.bottom w.top s.y1 s.y2 y
      → (x.long *ℤ y.far) <ℤ (y.long *ℤ x.near) → OneSide w s
  out_first (up h) (up k) l = inr (
      gt (ρ w s) (corner L T) naught (lt (East ⊗ (T ⊖ Y)) (North ⊗ (L ⊖ X)) l) tt
      ◂ gt (ρ w s) (corner R B) naught (lt (East ⊗ (T ⊖ Y)) (North ⊗ (L ⊖ X)) l ⊞ le X (var 6) h ⊠ lt B T on.tall ⊞ le Y (var 7) k ⊠ lt L R on.wide) tt
      ◂ gt (ρ w s) (corner L B) naught (lt (East ⊗ (T ⊖ Y)) (North ⊗ (L ⊖ X)) l ⊞ le X (var 6) h ⊠ lt B T on.tall) tt
      ◂ gt (ρ w s) (corner R T) naught (lt (East ⊗ (T ⊖ Y)) (North ⊗ (L ⊖ X)) l ⊞ le Y (var 7) k ⊠ lt L R on.wide) tt ◂ ∅)
  out_first (up h) (down k) l = inl (
      gt (ρ w s) naught (corner L T) (lt (East ⊗ (Y ⊖ B)) (South ⊗ (L ⊖ X)) l ⊞ le X (var 6) h ⊠ lt B T on.tall) tt
      ◂ gt (ρ w s) naught (corner R B) (lt (East ⊗ (Y ⊖ B)) (South ⊗ (L ⊖ X)) l ⊞ lt (var 7) Y k ⊠ lt L R on.wide) tt
      ◂ gt (ρ w s) naught (corner L B) (lt (East ⊗ (Y ⊖ B)) (South ⊗ (L ⊖ X)) l) tt
      ◂ gt (ρ w s) naught (corner R T) (lt (East ⊗ (Y ⊖ B)) (South ⊗ (L ⊖ X)) l ⊞ le X (var 6) h ⊠ lt B T on.tall ⊞ lt (var 7) Y k ⊠ lt L R on.wide) tt ◂ ∅)
  out_first (down h) (up k) l = inl (
      gt (ρ w s) naught (corner L T) (lt (West ⊗ (T ⊖ Y)) (North ⊗ (X ⊖ R)) l ⊞ le Y (var 7) k ⊠ lt L R on.wide) tt
      ◂ gt (ρ w s) naught (corner R B) (lt (West ⊗ (T ⊖ Y)) (North ⊗ (X ⊖ R)) l ⊞ lt (var 6) X h ⊠ lt B T on.tall) tt
      ◂ gt (ρ w s) naught (corner L B) (lt (West ⊗ (T ⊖ Y)) (North ⊗ (X ⊖ R)) l ⊞ lt (var 6) X h ⊠ lt B T on.tall ⊞ le Y (var 7) k ⊠ lt L R on.wide) tt
      ◂ gt (ρ w s) naught (corner R T) (lt (West ⊗ (T ⊖ Y)) (North ⊗ (X ⊖ R)) l) tt ◂ ∅)
  out_first (down h) (down k) l = inr (
      gt (ρ w s) (corner L T) naught (lt (West ⊗ (Y ⊖ B)) (South ⊗ (X ⊖ R)) l ⊞ lt (var 6) X h ⊠ lt B T on.tall ⊞ lt (var 7) Y k ⊠ lt L R on.wide) tt
      ◂ gt (ρ w s) (corner R B) naught (lt (West ⊗ (Y ⊖ B)) (South ⊗ (X ⊖ R)) l) tt
      ◂ gt (ρ w s) (corner L B) naught (lt (West ⊗ (Y ⊖ B)) (South ⊗ (X ⊖ R)) l ⊞ lt (var 7) Y k ⊠ lt L R on.wide) tt
      ◂ gt (ρ w s) (corner R T) naught (lt (West ⊗ (Y ⊖ B)) (South ⊗ (X ⊖ R)) l ⊞ lt (var 6) X h ⊠ lt B T on.tall) tt ◂ ∅)

  -- or over a level side only after it has gone out over the upright one
  pub in_last : {x y : Course} → CourseOf w.left w.right s.x1 s.x2 x → CourseOf w.bottom w.top s.y1 s.y2 y
      → (y.long *ℤ x.far) <ℤ (x.long *ℤ y.near) → OneSide w s
  in_last (up h) (up k) l = inl (
      gt (ρ w s) naught (corner L T) (lt (North ⊗ (R ⊖ X)) (East ⊗ (B ⊖ Y)) l ⊞ le X (var 6) h ⊠ lt B T on.tall ⊞ le Y (var 7) k ⊠ lt L R on.wide) tt
      ◂ gt (ρ w s) naught (corner R B) (lt (North ⊗ (R ⊖ X)) (East ⊗ (B ⊖ Y)) l) tt
      ◂ gt (ρ w s) naught (corner L B) (lt (North ⊗ (R ⊖ X)) (East ⊗ (B ⊖ Y)) l ⊞ le Y (var 7) k ⊠ lt L R on.wide) tt
      ◂ gt (ρ w s) naught (corner R T) (lt (North ⊗ (R ⊖ X)) (East ⊗ (B ⊖ Y)) l ⊞ le X (var 6) h ⊠ lt B T on.tall) tt ◂ ∅)
  in_last (up h) (down k) l = inr (
      gt (ρ w s) (corner L T) naught (lt (South ⊗ (R ⊖ X)) (East ⊗ (Y ⊖ T)) l ⊞ lt (var 7) Y k ⊠ lt L R on.wide) tt
      ◂ gt (ρ w s) (corner R B) naught (lt (South ⊗ (R ⊖ X)) (East ⊗ (Y ⊖ T)) l ⊞ le X (var 6) h ⊠ lt B T on.tall) tt
      ◂ gt (ρ w s) (corner L B) naught (lt (South ⊗ (R ⊖ X)) (East ⊗ (Y ⊖ T)) l ⊞ le X (var 6) h ⊠ lt B T on.tall ⊞ lt (var 7) Y k ⊠ lt L R on.wide) tt
      ◂ gt (ρ w s) (corner R T) naught (lt (South ⊗ (R ⊖ X)) (East ⊗ (Y ⊖ T)) l) tt ◂ ∅)
  in_last (down h) (up k) l = inr (
      gt (ρ w s) (corner L T) naught (lt (North ⊗ (X ⊖ L)) (West ⊗ (B ⊖ Y)) l ⊞ lt (var 6) X h ⊠ lt B T on.tall) tt
      ◂ gt (ρ w s) (corner R B) naught (lt (North ⊗ (X ⊖ L)) (West ⊗ (B ⊖ Y)) l ⊞ le Y (var 7) k ⊠ lt L R on.wide) tt
      ◂ gt (ρ w s) (corner L B) naught (lt (North ⊗ (X ⊖ L)) (West ⊗ (B ⊖ Y)) l) tt
      ◂ gt (ρ w s) (corner R T) naught (lt (North ⊗ (X ⊖ L)) (West ⊗ (B ⊖ Y)) l ⊞ lt (var 6) X h ⊠ lt B T on.tall ⊞ le Y (var 7) k ⊠ lt L R on.wide) tt ◂ ∅)
  in_last (down h) (down k) l = inl (
      gt (ρ w s) naught (corner L T) (lt (South ⊗ (X ⊖ L)) (West ⊗ (Y ⊖ T)) l) tt
      ◂ gt (ρ w s) naught (corner R B) (lt (South ⊗ (X ⊖ L)) (West ⊗ (Y ⊖ T)) l ⊞ lt (var 6) X h ⊠ lt B T on.tall ⊞ lt (var 7) Y k ⊠ lt L R on.wide) tt
      ◂ gt (ρ w s) naught (corner L B) (lt (South ⊗ (X ⊖ L)) (West ⊗ (Y ⊖ T)) l ⊞ lt (var 6) X h ⊠ lt B T on.tall) tt
      ◂ gt (ρ w s) naught (corner R T) (lt (South ⊗ (X ⊖ L)) (West ⊗ (Y ⊖ T)) l ⊞ lt (var 7) Y k ⊠ lt L R on.wide) tt ◂ ∅)
