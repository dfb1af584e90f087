-- The intake's answers are computed: what is said of the intake is said of `computed`.
use mathlib.Core.Path.{◌≡◌, refl, ap, ◌∙◌}
use mathlib.Core.List.{List}
use Prim.Native.Nat.{ℕ, ◌+◌, ◌*◌}
use borrow.Author.Tests.{ne_eqb}
use lib.ListN.{length}
use Rattle.std.specs.Prelude.{Ok, Err}
use Rattle.grid.specs.declared.Refusal.{Refusal}
use Rattle.grid.specs.declared.Window.{Window}
use Rattle.intake.specs.Millimetres.{PointOnGrid, WindowOnGrid}
use Rattle.intake.specs.declared.Point.{Point}
use Rattle.intake.specs.declared.PointMm.{PointMm}
use Rattle.intake.specs.declared.WindowMm.{WindowMm}
use Rattle.intake.proofs.Answers.{point_of, point_is, to_point, point_found_is, window_of, window_is, to_window, window_found_is}
use Rattle.intake.proofs.Places.{point_refused, window_refused}
use Rattle.format.specs.Format.{head_size}
use Rattle.drawing.specs.Pen.{landed, fresh}
use Rattle.drawing.specs.Drawings.{fault, walk, windowed}
use Rattle.drawing.specs.declared.pen.Turn.{Turn}
use Rattle.drawing.specs.Intake.{Intake, ByIntake}

abbrev pub computed : Intake
computed = record { point = point_of; window = window_of }

pub is_computed : {A : Type 0} {f : Intake → A} {r : A} → ByIntake f r → r ≡ f computed
is_computed {f = f} b = b.is ∙ ap f (λ i. record { point = λ p. point_is (b.points p) i; window = λ w. window_is (b.windows w) i })

pub by_computed : {A : Type 0} {f : Intake → A} {r : A} → r ≡ f computed → ByIntake f r
by_computed e = record { intake = computed; points = λ p. to_point p refl; windows = λ w. to_window w refl; is = e }

-- ---- by what the intake gave
module _ {p : PointMm} (at : ℕ) (go : Point → Turn) where
  pub point_lands : {q : Point} → PointOnGrid p (Ok q) → landed (computed.point p) at go ≡ go q
  point_lands t = simp (← point_found_is t)

  pub point_fails : {r : Refusal} → PointOnGrid p (Err r) → landed (computed.point p) at go ≡ Turn.Fault (at + 1 + 4 * r.place)
  point_fails t = simp (← point_found_is t, ne_eqb _ _ (point_refused t).0)

module _ {w : WindowMm} (bs : List ℕ) where
  pub window_opens : {v : Window} → WindowOnGrid w (Ok v) → windowed computed bs (computed.window w) ≡ walk computed bs v (length bs) head_size fresh
  window_opens t = simp (← window_found_is t)

  pub window_fails : {r : Refusal} → WindowOnGrid w (Err r) → windowed computed bs (computed.window w) ≡ fault (5 + 4 * r.place)
  window_fails t = simp (← window_found_is t, ne_eqb _ _ (window_refused t))
