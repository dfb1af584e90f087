-- The strokes of a drawing are few, four numbers each, and its window is the one of its head.
use mathlib.Core.Path.{◌≡◌, refl, subst}
use mathlib.Core.List.{List, [], ◌∷◌}
use Prim.Native.Nat.{ℕ, zero, suc, ◌+◌, ◌*◌, ◌≤◌}
use native.Mathlib.Omega.{arith}
use lib.ListN.{length}
use Rattle.grid.specs.Refusals.{most_strokes}
use Rattle.grid.specs.declared.Window.{Window}
use Rattle.grid.specs.declared.Stroke.{Stroke}
use Rattle.drawing.specs.Intake.{Intake}
use Rattle.format.specs.Format.{head_size, window_at}
use Rattle.drawing.specs.Pen.{fresh, turn_at, drawn_stroke}
use Rattle.drawing.specs.Drawings.{Drawing, fault, drawn, in_front, onward, walk, meaning, numbers_of}
use Rattle.drawing.specs.declared.pen.Pen.{Pen}
use Rattle.drawing.specs.declared.pen.Turn.{Turn}
use Rattle.drawing.proofs.Turns.{Leaves, leaves}
use Rattle.drawing.proofs.Heads.{opened}

pub four_each : (ss : List Stroke) → length (numbers_of ss) ≡ 4 * length ss
unfolding numbers_of
four_each [] = refl
four_each (s ∷ ss) = omega (arith, four_each ss)

-- of a walk that comes with n strokes and the window w
abbrev Keeps : Window → ℕ → Drawing → Type 0
Keeps w n (fault place) = Unit
Keeps w n (drawn v ss) = (v ≡ w) × (n + length ss ≤ most_strokes)

one_less : (w : Window) (n : ℕ) (s : Stroke) (d : Drawing) → Keeps w (n + 1) d → Keeps w n (in_front s d)
one_less w n s (fault place) k = tt
one_less w n s (drawn v ss) k = (k.0, omega arith)

turn_keeps : (w : Window) (n at : ℕ) (pen : Pen) (r : ℕ → Pen → Drawing) → pen.strokes ≤ most_strokes
    → ((next : ℕ) (to : Pen) → to.strokes ≤ most_strokes → Keeps w to.strokes (r next to))
    → (t : Turn) → Leaves n at pen t → Keeps w pen.strokes (onward w pen r t)
turn_keeps w n at pen r h k Turn.End l = (refl, omega arith)
turn_keeps w n at pen r h k (Turn.Fault place) l = tt
turn_keeps w n at pen r h k (Turn.Goes to next) l = subst (λ (m : ℕ). Keeps w m (r next to)) l.2 (k next to (omega arith))
turn_keeps w n at pen r h k (Turn.Draws to next) l =
    one_less w pen.strokes (drawn_stroke pen to) (r next to) (subst (λ (m : ℕ). Keeps w m (r next to)) l.2 (k next to (omega arith)))

module _ (intake : Intake) (bs : List ℕ) (w : Window) where
  walk_keeps : (n at : ℕ) (pen : Pen) → pen.strokes ≤ most_strokes → Keeps w pen.strokes (walk intake bs w n at pen)
  unfolding walk
  walk_keeps zero at pen h = (refl, omega arith)
  walk_keeps (suc n) at pen h = turn_keeps w (length bs) at pen (walk intake bs w n) h (walk_keeps n) (turn_at intake bs at pen) (leaves intake bs at pen)

pub kept : (intake : Intake) (bs : List ℕ) (w : Window) (ss : List Stroke) → meaning intake bs ≡ drawn w ss
    → (w ≡ (intake.window (window_at bs)).window) × (length ss ≤ most_strokes)
kept intake bs w ss e =
    let v = (intake.window (window_at bs)).window in
    let k = subst (Keeps v 0) (opened intake bs w ss e).drawing (walk_keeps intake bs v (length bs) head_size fresh (omega arith)) in
    (k.0, omega (arith, k.1))
