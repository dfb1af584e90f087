-- `codes::crossing` meets its contract: each arm is `meeting` at the side of its number. Assumes nothing.
use mathlib.Core.Path.{◌≡◌, sym, ap, subst, ◌∙◌, transport}
use Prim.Native.Nat.{ℕ}
use Rattle.whole.specs.Within.{Within}
use Rattle.fraction.specs.declared.Fraction.{Fraction}
use Rattle.grid.specs.declared.Stroke.{Stroke}
use Rattle.grid.specs.declared.Window.{Window}
use Rattle.grid.specs.Table.{farthest, WindowOnTable, StrokeOnTable}
use Rattle.grid.specs.Sides.{Side, left, right, bottom, top, place_of, side_at, number_of}
use Rattle.strokes.proofs.Reading.{read, read_is, read_on_table}
use Rattle.codes.specs.Workers.{Apart, WayMeets, StrokeMeets}
use Rattle.codes.proofs.Crossings.{from, to, number_on, from_on, to_on, apart_ends, meets_side, side_of, top_of}
use Rattle.codes.proofs.crossing.Statement.{statement}
use Rattle.codes.proofs.crossing.Tie as tie

module _ {w : Window} {s : Stroke} (k : Side) (hw : WindowOnTable w) (hs : StrokeOnTable s) where
  asked : {j : Side} → j ≡ k → Apart s j
      → Within farthest (read (number_of w k)) × (Within farthest (read (from s k)) × (Within farthest (read (to s k)) × (read (from s k) ≡ read (to s k) → ⊥)))
  asked e h = (
    read_on_table (number_on k hw),
    (read_on_table (from_on k hs), (read_on_table (to_on k hs), λ q. apart_ends s k (subst (Apart s) e h) (sym (read_is (from_on k hs)) ∙ q ∙ read_is (to_on k hs)))),
  )

  met : {j : Side} {f : Fraction} → j ≡ k → WayMeets (read (number_of w k)) (read (from s k)) (read (to s k)) f → StrokeMeets w s j f
  met {j} {f} e m =
      subst (λ (j : Side). StrokeMeets w s j f) (sym e)
      (meets_side w s k (transport (λ i. WayMeets (read_is (number_on k hw) i) (read_is (from_on k hs) i) (read_is (to_on k hs) i) f) m))

-- the side of an arm, by its number
arm : (k : Side) {n : ℕ} → n ≡ place_of k → side_at n ≡ k
arm k e = ap side_at e ∙ side_of k

meeting-requires : tie.Need-meeting-requires
meeting-requires c κs = let m = c.before.before.before in let p = m.before.requires in asked left p.0 p.1.0 (arm left m.in-0.is) p.1.1

meeting-requires-2 : tie.Need-meeting-requires-in-1
meeting-requires-2 c κs = let m = c.before.before.before in let p = m.before.requires in asked right p.0 p.1.0 (arm right m.in-1.is) p.1.1

meeting-requires-3 : tie.Need-meeting-requires-in-2
meeting-requires-3 c κs = let m = c.before.before.before in let p = m.before.requires in asked bottom p.0 p.1.0 (arm bottom m.in-2.is) p.1.1

meeting-requires-4 : tie.Need-meeting-requires-in_default
meeting-requires-4 c κs = let m = c.before.before.before in let p = m.before.requires in
    asked top p.0 p.1.0 (top_of _ m.in_default.in_default-own.rest.0.0.1 m.in_default.in_default-own.rest.0.1 m.in_default.in_default-own.rest.1) p.1.1

returns : tie.Need-returns-in-0
returns c = let m = c.before.before.before.before in let p = m.before.requires in met left p.0 p.1.0 (arm left m.in-0.is) c.meeting.ensures

returns-2 : tie.Need-returns-in-1
returns-2 c = let m = c.before.before.before.before in let p = m.before.requires in met right p.0 p.1.0 (arm right m.in-1.is) c.meeting-in-1.ensures

returns-3 : tie.Need-returns-in-2
returns-3 c = let m = c.before.before.before.before in let p = m.before.requires in met bottom p.0 p.1.0 (arm bottom m.in-2.is) c.meeting-in-2.ensures

returns-4 : tie.Need-returns-in_default
returns-4 c = let m = c.before.before.before.before in let p = m.before.requires in
    met top p.0 p.1.0 (top_of _ m.in_default.in_default-own.rest.0.0.1 m.in_default.in_default-own.rest.0.1 m.in_default.in_default-own.rest.1) c.meeting-in_default.ensures

pub crossing_spec : {M : Type 1} → statement M
crossing_spec = tie.close (tie.spec meeting-requires meeting-requires-2 meeting-requires-3 meeting-requires-4 returns returns-2 returns-3 returns-4)
