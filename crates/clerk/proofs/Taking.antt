-- A strip in millimetres is taken to the grid or refused by the intake, whose refusals have no number 0: so it is as the answer of the intake says.
use mathlib.Core.Path.{refl, ap}
use mathlib.Core.List.{List}
use Prim.Native.Nat.{ℕ}
use lib.IntN.{ℤ}
use Rattle.std.specs.Prelude.{Result, Ok, Err}
use Rattle.grid.specs.declared.Refusal.{Refusal}
use Rattle.grid.specs.declared.Window.{Window}
use Rattle.intake.specs.Millimetres.{WindowOnGrid, WindowToGrid, refused_window, told_window}
use Rattle.intake.specs.declared.WindowMm.{WindowMm}
use Rattle.intake.proofs.Places.{window_refused}
use Rattle.answers.specs.Answers.{refusal_text, Exactly}
use Rattle.clerk.specs.Commands.{BooksOnGrid, BooksAs}

module _ {mm : WindowMm} where
  told : {r : Result Window Refusal} → WindowOnGrid mm r → WindowToGrid mm (told_window r)
  told o =
      record {
        left = o.left;
        bottom = o.bottom;
        right = o.right;
        top = o.top;
        left_taken = o.left_taken;
        bottom_taken = o.bottom_taken;
        right_taken = o.right_taken;
        top_taken = o.top_taken;
        answer = ap told_window o.is;
      }

  module _ {renter : ℤ} {before : List ℤ} {text : List ℕ} {number : ℕ} where
    pub taken_to_grid : {after : List ℤ} {w : Window} → WindowOnGrid mm (Ok w) → BooksOnGrid renter w before after text number
        → BooksAs renter mm before after text number
    taken_to_grid {w} o b = record { taken = told_window (Ok w); grid = told o; refused = λ n. absurd (n refl); done = λ _. b }

    pub refused_by_intake : {r : Refusal} → WindowOnGrid mm (Err r) → Exactly (refusal_text r.number r.place) r.number text number
        → BooksAs renter mm before before text number
    refused_by_intake {r} o e =
        record { taken = refused_window r; grid = told o; refused = λ _. (refl, e); done = λ z. absurd (window_refused o z) }
