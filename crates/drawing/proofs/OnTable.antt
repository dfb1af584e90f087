-- The window of a drawing and its pen stay on the table: of the window only the area may be refused, and of its strokes nothing.
use mathlib.Core.Path.{◌≡◌, refl, sym, subst}
use mathlib.Core.Bool.{true, ◌&&◌}
use mathlib.Core.List.{List}
use Prim.Native.Nat.{ℕ, zero, suc, ◌*◌, ◌%◌}
use native.Mathlib.Omega.{arith}
use borrow.Author.Tests.{eq-eqb, le-leb, le-ltb}
use lib.Dec.{eqb, ltb}
use lib.ListN.{length}
use lib.Signed.{lt_z}
use Rattle.whole.specs.Choice.{when◌then◌else◌}
use Rattle.whole.proofs.Comparisons.{by-test}
use Rattle.grid.specs.Table.{on_table, first_off}
use Rattle.grid.specs.Refusals.{none, first, off_table, no_area, bad_strokes, window_refusal, strokes_refusal, most_strokes}
use Rattle.grid.specs.declared.Refusal.{Refusal}
use Rattle.grid.specs.declared.Stroke.{Stroke}
use Rattle.grid.specs.declared.Window.{Window}
use Rattle.intake.proofs.Answers.{to_point, to_window}
use Rattle.intake.proofs.Theorems.{point_on_table, window_on_table}
use Rattle.format.specs.Format.{head_size, window_at, record_at}
use Rattle.drawing.specs.Pen.{same, fresh, after, turn, turn_at, drawn_stroke}
use Rattle.drawing.specs.Drawings.{Drawing, fault, drawn, in_front, onward, walk, meaning, numbers_of}
use Rattle.format.specs.declared.Step.{Step}
use Rattle.format.specs.declared.Found.{Found}
use Rattle.intake.specs.declared.Point.{Point}
use Rattle.drawing.specs.declared.pen.Pen.{Pen}
use Rattle.drawing.specs.declared.pen.Turn.{Turn}
use Rattle.drawing.proofs.Computed.{computed}
use Rattle.drawing.proofs.Heads.{opened}
use Rattle.drawing.proofs.Strokes.{four_each, kept}

abbrev PointOn : Point → Type 0
PointOn p = (on_table p.x ≡ true) × (on_table p.y ≡ true)

abbrev PenOn : Pen → Type 0
PenOn pen = PointOn pen.here × PointOn pen.start

abbrev TurnOn : Turn → Type 0
TurnOn Turn.End = Unit
TurnOn (Turn.Fault place) = Unit
TurnOn (Turn.Goes to next) = PenOn to
TurnOn (Turn.Draws to next) = PenOn to

abbrev DrawingOn : Drawing → Type 0
DrawingOn (fault place) = Unit
DrawingOn (drawn w ss) = first_off (numbers_of ss) ≡ length (numbers_of ss)

-- ---- one turn

module _ (at : ℕ) (pen : Pen) (h : PenOn pen) where
  step_on : (next : ℕ) (s : Step) → TurnOn (after computed at next pen s)
  unfolding after
  step_on next (Step.Move x y) =
      let p = point_on_table (to_point (record { x = x; y = y }) refl) in
      by-test (eqb (computed.point (record { x = x; y = y })).number 0) TurnOn (λ _. ((p.x, p.y), (p.x, p.y))) (λ _. tt)
  step_on next (Step.Line x y) =
      let p = point_on_table (to_point (record { x = x; y = y }) refl) in
      by-test pen.moved TurnOn
      (λ _. by-test (ltb pen.strokes most_strokes) TurnOn
      (λ _. by-test (eqb (computed.point (record { x = x; y = y })).number 0) TurnOn (λ _. ((p.x, p.y), h.1)) (λ _. tt))
      (λ _. tt))
      (λ _. tt)
  step_on next Step.Close =
      by-test pen.moved TurnOn
      (λ _. by-test (same pen.here pen.start) TurnOn (λ _. h) (λ _. by-test (ltb pen.strokes most_strokes) TurnOn (λ _. (h.1, h.1)) (λ _. tt)))
      (λ _. tt)

  found_on : (f : Found) → TurnOn (turn computed at pen f)
  found_on (Found.Record s next) = step_on next s
  found_on Found.Bad = tt
  found_on Found.End = tt

-- ---- all turns

stroke_on : (pen to : Pen) → PenOn pen → PenOn to → (d : Drawing) → DrawingOn d → DrawingOn (in_front (drawn_stroke pen to) d)
unfolding numbers_of first_off
stroke_on pen to p q (fault place) h = tt
stroke_on pen to p q (drawn w ss) h = simp (p.0.0, p.0.1, q.0.0, q.0.1, h)

onward_on : (w : Window) (pen : Pen) (r : ℕ → Pen → Drawing) → PenOn pen → ((next : ℕ) (to : Pen) → PenOn to → DrawingOn (r next to)) → (t : Turn) → TurnOn t
    → DrawingOn (onward w pen r t)
unfolding numbers_of first_off
onward_on w pen r h k Turn.End u = refl
onward_on w pen r h k (Turn.Fault place) u = tt
onward_on w pen r h k (Turn.Goes to next) u = k next to u
onward_on w pen r h k (Turn.Draws to next) u = stroke_on pen to h u (r next to) (k next to u)

module _ (bs : List ℕ) (w : Window) where
  walk_on : (n at : ℕ) (pen : Pen) → PenOn pen → DrawingOn (walk computed bs w n at pen)
  unfolding walk turn_at numbers_of first_off
  walk_on zero at pen h = refl
  walk_on (suc n) at pen h = onward_on w pen (walk computed bs w n) h (walk_on n) (turn_at computed bs at pen) (found_on at pen h (record_at bs at))

pub strokes_taken : (bs : List ℕ) (w : Window) (ss : List Stroke) → meaning computed bs ≡ drawn w ss → (strokes_refusal (numbers_of ss)).number ≡ 0
unfolding strokes_refusal bad_strokes off_table first on_table
strokes_taken bs w ss e =
    let v = (computed.window (window_at bs)).window in
    let on = subst DrawingOn (opened computed bs w ss e).drawing (walk_on bs v (length bs) head_size fresh ((refl, refl), (refl, refl))) in
    let few = (kept computed bs w ss e).1 in
    let l = four_each ss in
    simp (
      eq-eqb (length (numbers_of ss) % 4) 0 (omega arith),
      le-leb (length (numbers_of ss)) (4 * most_strokes) (omega arith),
      on,
      le-ltb (length (numbers_of ss)) (length (numbers_of ss)) (omega arith),
    )

-- ---- the window, of which only the area may be refused

on_four : (w : Window) → on_table w.left ≡ true → on_table w.bottom ≡ true → on_table w.right ≡ true → on_table w.top ≡ true → window_refusal w ≡ no_area w
unfolding window_refusal off_table first_off first no_area
on_four w l b r t = simp (l, b, r, t)
    (by-test (lt_z w.left w.right && lt_z w.bottom w.top) (λ (f : Refusal). (when eqb f.number 0 then none else f) ≡ f) (λ _. refl) (λ _. refl))

pub area_only : (bs : List ℕ) (w : Window) (ss : List Stroke) → meaning computed bs ≡ drawn w ss → window_refusal w ≡ no_area w
area_only bs w ss e =
    let v = (computed.window (window_at bs)).window in
    let o = window_on_table (to_window (window_at bs) refl) in
    subst (λ (x : Window). window_refusal x ≡ no_area x) (sym (kept computed bs w ss e).0) (on_four v o.left o.bottom o.right o.top)
