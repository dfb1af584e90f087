-- A drawing's head has no fault: what is known of its records.
use mathlib.Core.Path.{◌≡◌}
use mathlib.Core.List.{List}
use Prim.Native.Nat.{ℕ}
use native.Mathlib.Omega.{arith}
use borrow.Author.Tests.{eqb-true}
use lib.Dec.{eqb}
use Rattle.whole.proofs.Comparisons.{by-test}
use Rattle.grid.specs.declared.Window.{Window}
use Rattle.grid.specs.declared.Stroke.{Stroke}
use Rattle.format.specs.Format.{head_size, head_fault, window_at}
use Rattle.drawing.specs.Intake.{Intake}
use Rattle.drawing.specs.Pen.{fresh}
use Rattle.drawing.specs.Drawings.{Drawing, fault, drawn, meaning}
use Rattle.drawing.proofs.Walks.{rest}

module _ (intake : Intake) (bs : List ℕ) where
  -- what the records mean
  abbrev pub records : Drawing
  records = rest intake bs (intake.window (window_at bs)).window head_size fresh

  pub record Opened (d : Drawing) : Type 0 where
    pub head : head_fault bs ≡ head_size
    pub drawing : records ≡ d

  pub opened : (w : Window) (ss : List Stroke) → meaning intake bs ≡ drawn w ss → Opened (drawn w ss)
  unfolding meaning
  opened w ss =
      let P : Drawing → Type 0 = λ d. d ≡ drawn w ss → Opened (drawn w ss) in
      by-test (eqb (head_fault bs) head_size) P
      (λ h. by-test (eqb (intake.window (window_at bs)).number 0) P (λ _ e. record { head = eqb-true _ _ h; drawing = e }) (λ _ e. absurd (no_fault e)))
      (λ _ e. absurd (no_fault e))
    where
      no_fault : {place : ℕ} → fault place ≡ drawn w ss → ⊥
      no_fault e = let z : ◌≡◌ {A = ℕ} 0 1 = cc in omega arith
