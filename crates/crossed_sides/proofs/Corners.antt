-- The line comes in over a side exactly where the stroke goes inward over it and the line's point on the side lies in the closed window, and goes out so too.
-- For the cross product of a corner is p·q' − p'·q, by the conditions of its two sides.
use mathlib.Core.List.{List, [], ◌∷◌}
use lib.IntN.{pos, ◌*ℤ◌}
use lib.Signed.{◌≤ℤ◌}
use Rattle.whole.proofs.Certificates.{ge, gt, gt_by, po, nn, nat, le, lt, ◌⊠◌}
use Rattle.whole.proofs.Expressions.{Expr, Env, var, con, ◌⊖◌, ◌⊗◌, neg}
use Rattle.grid.specs.declared.Stroke.{Stroke}
use Rattle.grid.specs.declared.Window.{Window}
use Rattle.grid.specs.Sides.{Side, left, right, bottom, top}
use Rattle.grid.specs.Table.{WindowOnTable}
use Rattle.rings.specs.Lists.{All, ∅, ◌◂◌}
use Rattle.rings.proofs.Lists.{all_head, all_tail}
use Rattle.spans.specs.Sides.{Condition, Inward, Outward}
use Rattle.strokes.specs.Sides.{condition, conditions}
use Rattle.crossed_sides.specs.Line.{ComesIn, GoesOut}

-- ---- the window's numbers, the stroke's, and what is made of them
abbrev pub L : Expr
L = var 0

abbrev pub B : Expr
B = var 1

abbrev pub R : Expr
R = var 2

abbrev pub T : Expr
T = var 3

abbrev DX : Expr
DX = var 6 ⊖ var 4

abbrev DY : Expr
DY = var 7 ⊖ var 5

abbrev pub P : Side → Expr
P left = neg DX
P right = DX
P bottom = neg DY
P top = DY

abbrev pub Q : Side → Expr
Q left = var 4 ⊖ L
Q right = R ⊖ var 4
Q bottom = var 5 ⊖ B
Q top = T ⊖ var 5

abbrev pub corner : Expr → Expr → Expr
corner x y = DX ⊗ (y ⊖ var 5) ⊖ DY ⊗ (x ⊖ var 4)

abbrev pub naught : Expr
naught = con (pos 0)

-- q of j times p of k, and q of k times p of j: where the line of k is crossed inward, the point there lies inside j where the first is not the greater
abbrev one : Side → Side → Expr
one j k = Q j ⊗ P k

-- the stroke crosses the line of k inward, or outward, and its point there meets the conditions cs
pub record Enters (cs : List Condition) (k : Condition) : Type 0 where
  pub inward : Inward k.p
  pub inside : All (λ (c : Condition). (c.q *ℤ k.p) ≤ℤ (k.q *ℤ c.p)) cs

pub record Leaves (cs : List Condition) (k : Condition) : Type 0 where
  pub outward : Outward k.p
  pub inside : All (λ (c : Condition). (k.q *ℤ c.p) ≤ℤ (c.q *ℤ k.p)) cs

-- what holds of all four conditions holds of each
module _ {P : Condition → Type 0} {l r b t : Condition} (h : All P (l ∷ r ∷ b ∷ t ∷ [])) where
  left_of : P l
  left_of = all_head h

  right_of : P r
  right_of = all_head (all_tail h)

  bottom_of : P b
  bottom_of = all_head (all_tail (all_tail h))

  top_of : P t
  top_of = all_head (all_tail (all_tail (all_tail h)))

module _ (w : Window) (s : Stroke) where
  abbrev pub ρ : Env
  ρ = w.left ∷ w.bottom ∷ w.right ∷ w.top ∷ s.x1 ∷ s.y1 ∷ s.x2 ∷ s.y2 ∷ []

  module _ (on : WindowOnTable w) where
    -- ---- coming in
    pub in_enters : (k : Side) → ComesIn w s k → Enters (conditions w s) (condition w s k)
    in_enters left h =
        let i = gt_by ρ (lt B T on.tall) (P left) naught (lt (corner L B) (corner L T) h.apart) tt in record {
          inward = i;
          inside = ge ρ (one left left) (one left left) (nat 0) tt
              ◂ ge ρ (one right left) (one left right) (lt (P left) naught i ⊠ lt L R on.wide) tt
              ◂ ge ρ (one bottom left) (one left bottom) (le (corner L B) naught h.right) tt
              ◂ ge ρ (one top left) (one left top) (nn (corner L T) h.left) tt ◂ ∅;
        }
    in_enters right h =
        let i = gt_by ρ (lt B T on.tall) (P right) naught (lt (corner R T) (corner R B) h.apart) tt in record {
          inward = i;
          inside = ge ρ (one left right) (one right left) (lt (P right) naught i ⊠ lt L R on.wide) tt
              ◂ ge ρ (one right right) (one right right) (nat 0) tt
              ◂ ge ρ (one bottom right) (one right bottom) (nn (corner R B) h.left) tt
              ◂ ge ρ (one top right) (one right top) (le (corner R T) naught h.right) tt ◂ ∅;
        }
    in_enters bottom h =
        let i = gt_by ρ (lt L R on.wide) (P bottom) naught (lt (corner R B) (corner L B) h.apart) tt in record {
          inward = i;
          inside = ge ρ (one left bottom) (one bottom left) (nn (corner L B) h.left) tt
              ◂ ge ρ (one right bottom) (one bottom right) (le (corner R B) naught h.right) tt
              ◂ ge ρ (one bottom bottom) (one bottom bottom) (nat 0) tt
              ◂ ge ρ (one top bottom) (one bottom top) (lt (P bottom) naught i ⊠ lt B T on.tall) tt ◂ ∅;
        }
    in_enters top h =
        let i = gt_by ρ (lt L R on.wide) (P top) naught (lt (corner L T) (corner R T) h.apart) tt in record {
          inward = i;
          inside = ge ρ (one left top) (one top left) (le (corner L T) naught h.right) tt
              ◂ ge ρ (one right top) (one top right) (nn (corner R T) h.left) tt
              ◂ ge ρ (one bottom top) (one top bottom) (lt (P top) naught i ⊠ lt B T on.tall) tt
              ◂ ge ρ (one top top) (one top top) (nat 0) tt ◂ ∅;
        }

    -- ---- going out
    pub out_leaves : (k : Side) → GoesOut w s k → Leaves (conditions w s) (condition w s k)
    out_leaves left h =
        let o = gt_by ρ (lt B T on.tall) naught (P left) (lt (corner L T) (corner L B) h.apart) tt in record {
          outward = o;
          inside = ge ρ (one left left) (one left left) (nat 0) tt
              ◂ ge ρ (one left right) (one right left) (po (P left) o ⊠ lt L R on.wide) tt
              ◂ ge ρ (one left bottom) (one bottom left) (nn (corner L B) h.left) tt
              ◂ ge ρ (one left top) (one top left) (le (corner L T) naught h.right) tt ◂ ∅;
        }
    out_leaves right h =
        let o = gt_by ρ (lt B T on.tall) naught (P right) (lt (corner R B) (corner R T) h.apart) tt in record {
          outward = o;
          inside = ge ρ (one right left) (one left right) (po (P right) o ⊠ lt L R on.wide) tt
              ◂ ge ρ (one right right) (one right right) (nat 0) tt
              ◂ ge ρ (one right bottom) (one bottom right) (le (corner R B) naught h.right) tt
              ◂ ge ρ (one right top) (one top right) (nn (corner R T) h.left) tt ◂ ∅;
        }
    out_leaves bottom h =
        let o = gt_by ρ (lt L R on.wide) naught (P bottom) (lt (corner L B) (corner R B) h.apart) tt in record {
          outward = o;
          inside = ge ρ (one bottom left) (one left bottom) (le (corner L B) naught h.right) tt
              ◂ ge ρ (one bottom right) (one right bottom) (nn (corner R B) h.left) tt
              ◂ ge ρ (one bottom bottom) (one bottom bottom) (nat 0) tt
              ◂ ge ρ (one bottom top) (one top bottom) (po (P bottom) o ⊠ lt B T on.tall) tt ◂ ∅;
        }
    out_leaves top h =
        let o = gt_by ρ (lt L R on.wide) naught (P top) (lt (corner R T) (corner L T) h.apart) tt in record {
          outward = o;
          inside = ge ρ (one top left) (one left top) (nn (corner L T) h.left) tt
              ◂ ge ρ (one top right) (one right top) (le (corner R T) naught h.right) tt
              ◂ ge ρ (one top bottom) (one bottom top) (po (P top) o ⊠ lt B T on.tall) tt
              ◂ ge ρ (one top top) (one top top) (nat 0) tt ◂ ∅;
        }

    -- ---- and the other way
    pub enters_in : (k : Side) → Enters (conditions w s) (condition w s k) → ComesIn w s k
    enters_in left h = record {
      left = ge ρ naught (corner L T) (le (one top left) (one left top) (top_of h.inside)) tt;
      right = ge ρ (corner L B) naught (le (one bottom left) (one left bottom) (bottom_of h.inside)) tt;
      apart = gt ρ (corner L B) (corner L T) (lt (P left) naught h.inward ⊠ lt B T on.tall) tt;
    }
    enters_in right h = record {
      left = ge ρ naught (corner R B) (le (one bottom right) (one right bottom) (bottom_of h.inside)) tt;
      right = ge ρ (corner R T) naught (le (one top right) (one right top) (top_of h.inside)) tt;
      apart = gt ρ (corner R T) (corner R B) (lt (P right) naught h.inward ⊠ lt B T on.tall) tt;
    }
    enters_in bottom h = record {
      left = ge ρ naught (corner L B) (le (one left bottom) (one bottom left) (left_of h.inside)) tt;
      right = ge ρ (corner R B) naught (le (one right bottom) (one bottom right) (right_of h.inside)) tt;
      apart = gt ρ (corner R B) (corner L B) (lt (P bottom) naught h.inward ⊠ lt L R on.wide) tt;
    }
    enters_in top h = record {
      left = ge ρ naught (corner R T) (le (one right top) (one top right) (right_of h.inside)) tt;
      right = ge ρ (corner L T) naught (le (one left top) (one top left) (left_of h.inside)) tt;
      apart = gt ρ (corner L T) (corner R T) (lt (P top) naught h.inward ⊠ lt L R on.wide) tt;
    }

    pub leaves_out : (k : Side) → Leaves (conditions w s) (condition w s k) → GoesOut w s k
    leaves_out left h = record {
      left = ge ρ naught (corner L B) (le (one left bottom) (one bottom left) (bottom_of h.inside)) tt;
      right = ge ρ (corner L T) naught (le (one left top) (one top left) (top_of h.inside)) tt;
      apart = gt ρ (corner L T) (corner L B) (po (P left) h.outward ⊠ lt B T on.tall) tt;
    }
    leaves_out right h = record {
      left = ge ρ naught (corner R T) (le (one right top) (one top right) (top_of h.inside)) tt;
      right = ge ρ (corner R B) naught (le (one right bottom) (one bottom right) (bottom_of h.inside)) tt;
      apart = gt ρ (corner R B) (corner R T) (po (P right) h.outward ⊠ lt B T on.tall) tt;
    }
    leaves_out bottom h = record {
      left = ge ρ naught (corner R B) (le (one bottom right) (one right bottom) (right_of h.inside)) tt;
      right = ge ρ (corner L B) naught (le (one bottom left) (one left bottom) (left_of h.inside)) tt;
      apart = gt ρ (corner L B) (corner R B) (po (P bottom) h.outward ⊠ lt L R on.wide) tt;
    }
    leaves_out top h = record {
      left = ge ρ naught (corner L T) (le (one top left) (one left top) (left_of h.inside)) tt;
      right = ge ρ (corner R T) naught (le (one top right) (one right top) (right_of h.inside)) tt;
      apart = gt ρ (corner R T) (corner L T) (po (P top) h.outward ⊠ lt L R on.wide) tt;
    }
