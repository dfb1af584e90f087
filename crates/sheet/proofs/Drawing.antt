-- A text is read as what it was found to be, and a sheet that is drawn is on the page.
use mathlib.Core.Path.{◌≡◌, subst}
use mathlib.Core.List.{List}
use Prim.Native.Nat.{ℕ}
use lib.IntN.{ℤ}
use Rattle.std.specs.Prelude.{⊤, Result, Ok, Err}
use Rattle.text.specs.Pages.{Put}
use Rattle.book_text.specs.Readings.{ReadsAs}
use Rattle.sheet_art.specs.SheetArt.{sheet}
use Rattle.sheet.specs.Sheets.{Draws, drawn, faulty}

module _ {t : List ℕ} {v : Result ⊤ ℕ} {zs : List ℤ} where
  pub is_drawn : {before page : List ℕ} {end : ℕ} → v ≡ Ok tt → ReadsAs t v zs → Put before page 0 end (sheet zs) → Draws t page (Ok end)
  is_drawn e r p = drawn (subst (λ (x : Result ⊤ ℕ). ReadsAs t x zs) e r) p.fits p.text

  pub is_faulty : {page : List ℕ} {line : ℕ} → v ≡ Err line → ReadsAs t v zs → Draws t page (Err line)
  is_faulty e r = faulty (subst (λ (x : Result ⊤ ℕ). ReadsAs t x zs) e r)
