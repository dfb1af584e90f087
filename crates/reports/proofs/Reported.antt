-- The report on a drawing by how the drawing was cut, and as it stands at the front of a page.
use Rattle.std.specs.Prelude.{Option, Some, None, Result, Err}
use mathlib.Core.Path.{◌≡◌, refl, sym, subst}
use mathlib.Core.List.{List}
use Prim.Native.Nat.{ℕ, ◌*◌, ◌/◌}
use native.Mathlib.Omega.{arith}
use lib.IntN.{ℤ}
use lib.ListN.{length, take}
use lib.Seq.{length-take-le}
use Rattle.grid.specs.Refusals.{refuse, bad_drawing, no_area}
use Rattle.grid.specs.declared.Refusal.{Refusal}
use Rattle.io.specs.Counts.{IsPrefixLen}
use Rattle.text.specs.Pages.{Put}
use Rattle.cutting.specs.Sheets as Sheets
use Rattle.cutting.specs.declared.Sheet.{Sheet}
use Rattle.reports.specs.Reports.{RefusedText, CutText, Report, faulty, without_area, sound}

module _ {refused : RefusedText} {cut : CutText} {bytes before after : List ℕ} {end : ℕ} where
  front : {text : List ℕ} {r : Option Refusal} → Put before after 0 end text → Report refused cut bytes text r
      → Report refused cut bytes (take end after) r × IsPrefixLen end after
  front {r = r} p l = (subst (λ (t : List ℕ). Report refused cut bytes t r) (sym p.text) l, (p.fits, sym (length-take-le _ _ p.fits)))

  pub refused_report : {r : Refusal} {strokes rows : List ℤ} → Sheets.CutDrawing bytes (Err r) strokes rows
      → Put before after 0 end (refused r.number r.place) → Report refused cut bytes (take end after) (Some r) × IsPrefixLen end after
  refused_report {r} {strokes} {rows} c p = go refl c
    where
      by : {x : Refusal} → x ≡ r
          → (Put before after 0 end (refused x.number x.place) → Report refused cut bytes (take end after) (Some x) × IsPrefixLen end after)
          → Report refused cut bytes (take end after) (Some r) × IsPrefixLen end after
      by same f =
          subst (λ (x : Refusal). Put before after 0 end (refused x.number x.place) → Report refused cut bytes (take end after) (Some x) × IsPrefixLen end after)
          same f p

      go : {o : Result Sheet Refusal} → o ≡ Err r → Sheets.CutDrawing bytes o strokes rows
          → Report refused cut bytes (take end after) (Some r) × IsPrefixLen end after
      go e (Sheets.faulty m) = let same : refuse bad_drawing 0 ≡ r = cc in by same (λ q. front q (faulty m))
      go e (Sheets.without_area {w = w} m n) =
          let same : refuse (no_area w).number (no_area w).place ≡ r = cc in by same (λ q. front q (without_area m n))
      go e (Sheets.cut c) = absurd (let z : ◌≡◌ {A = ℕ} 0 1 = cc in omega arith)

  pub cut_report : {sheet : Sheet} {strokes rows : List ℤ} → Sheets.CutSheet bytes sheet strokes rows
      → Put before after 0 end (cut sheet.window (take (sheet.drawn * 4) strokes) sheet.drawn (take (sheet.kept * 5) rows) sheet.kept)
      → Report refused cut bytes (take end after) None × IsPrefixLen end after
  cut_report {sheet} c p =
      let k : length c.kept_rows / 5 ≡ sheet.kept = omega (arith, c.kept_count) in
      front p
      (subst (λ (t : List ℕ). Report refused cut bytes t None)
      (λ i. cut sheet.window (sym c.strokes_start i) (sym c.count i) (sym c.rows_start i) (k i)) (sound c.means c.area c.are))
