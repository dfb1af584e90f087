-- A reading with room for every drawing refuses it, or gives all of its strokes; the batch, with room for all of them, refuses none.
use mathlib.Core.Path.{◌≡◌, refl, sym, ap, ◌∙◌, subst}
use mathlib.Core.Bool.{Bool, true, false}
use mathlib.Core.List.{List, [], ◌∷◌, ◌++◌}
use Prim.Native.Nat.{ℕ, suc, ◌*◌, ◌/◌, ◌%◌, ◌≤◌}
use native.Mathlib.Omega.{arith}
use borrow.Author.Tests.{eqb-true, eqb-false, le-leb}
use lib.Dec.{eqb}
use lib.IntN.{ℤ}
use lib.ListN.{length, take, drop}
use lib.Seq.{take_at}
use Rattle.whole.specs.Choice.{when◌then◌else◌}
use Rattle.grid.specs.Calls.{written, answered_by, GivenBy}
use Rattle.grid.specs.Refusals.{refuse, no_area, room_refusal, most_strokes}
use Rattle.grid.specs.declared.Answer.{Answer}
use Rattle.grid.specs.declared.Refusal.{Refusal}
use Rattle.grid.specs.declared.Stroke.{Stroke}
use Rattle.grid.specs.declared.Window.{Window}
use Rattle.drawing.specs.Drawings.{Drawing, fault, drawn, Means, numbers_of, refused, told, ReadsAs, ReadDrawing}
use Rattle.drawing.specs.declared.DrawingAnswer.{DrawingAnswer}
use Rattle.drawing.proofs.Strokes.{four_each}
use Rattle.drawing.proofs.Theorems.{few_strokes, on_table_lem}
use Rattle.strokes.specs.declared.StrokeAnswer.{StrokeAnswer}
use Rattle.cuts.specs.Cuts.{is_given}
use Rattle.batch.specs.Batches.{five_of, rows, RowsOf, batch_refusal, Batch}
use Rattle.batch.proofs.Refusing.{nothing_refused as none_refused}
use Rattle.batch.proofs.Rows.{rows_of_short}
use Rattle.cutting.specs.Sheets.{CutDrawing, faulty, without_area}
use Rattle.cutting.specs.declared.Sheet.{Sheet}
use Rattle.std.specs.Prelude.{Result, Err}

-- a list that is given where it has room: the whole answer, and the list at the front
module _ {A : Type 0} {blank : Refusal → A} {full : List ℤ → A} {Gives : List ℤ → Type 0} {a : A} {before after : List ℤ} where
  whole_answer_lem : (g : GivenBy blank full Gives a before after) → length g.numbers ≤ length before → a ≡ full g.numbers
  unfolding answered_by room_refusal
  whole_answer_lem g h = g.answer ∙ rw (le-leb _ _ h)

  at_front : (g : GivenBy blank full Gives a before after) → length g.numbers ≤ length before → take (length g.numbers) after ≡ g.numbers
  unfolding written
  at_front g h = rw (g.output, le-leb _ _ h) (take_at g.numbers (drop (length g.numbers) before) (length g.numbers) refl)

-- ---- the reading

abbrev pub refusal_of : DrawingAnswer → Result Sheet Refusal
refusal_of a = Err (record { number = a.number; place = a.place })

pub record Drawn (bs : List ℕ) (a : DrawingAnswer) (after : List ℤ) : Type 0 where
  pub lines : List Stroke
  pub means : Means bs (drawn a.window lines)
  pub area : (no_area a.window).number ≡ 0
  pub few : length lines ≤ most_strokes
  pub count : a.count ≡ length lines
  pub fits : a.count * 4 ≤ length after
  pub start : take (a.count * 4) after ≡ numbers_of lines

-- by the answer's number
pub record Read (bs : List ℕ) (a : DrawingAnswer) (after : List ℤ) : Type 0 where
  pub refuses : (a.number ≡ 0 → ⊥) → (rows : List ℤ) → CutDrawing bs (refusal_of a) after rows
  pub draws : a.number ≡ 0 → Drawn bs a after

refusing : {bs : List ℕ} {a : DrawingAnswer} {after : List ℤ} (n p : ℕ) → a ≡ refused (refuse n p) → (n ≡ 0 → ⊥)
    → ((rows : List ℤ) → CutDrawing bs (Err (refuse n p)) after rows) → Read bs a after
refusing {bs} {a} {after} n p e h r = record {
  refuses = λ _ rows. subst (λ (x : DrawingAnswer). CutDrawing bs (refusal_of x) after rows) (sym e) (r rows);
  draws = λ z. absurd (h (sym (ap (λ (x : DrawingAnswer). x.number) e) ∙ z));
}

pub read : {bs : List ℕ} {a : DrawingAnswer} {before after : List ℤ} → 16384 ≤ length before → length after ≡ length before → ReadDrawing bs a before after
    → Read bs a after
read {bs} {a} {before} {after} room same r = go r.drawing r.means r.call
  where
    go : (d : Drawing) → Means bs d → ReadsAs d a before after → Read bs a after
    go (fault place) m g =
        let n : ◌≡◌ {A = ℕ} 11 0 → ⊥ = λ z. omega arith in
        refusing 11 0 (g.refused n).answer n (λ rows. faulty m)
    go (drawn w ss) m g = by (eqb (no_area w).number 0) refl
      where
        by : (b : Bool) → eqb (no_area w).number 0 ≡ b → Read bs a after
        by false z =
            let n = eqb-false (no_area w).number 0 z in
            refusing (no_area w).number (no_area w).place (g.refused n).answer n (λ rows. without_area m n)
        by true z =
            let n = eqb-true (no_area w).number 0 z in
            let t = g.done n in
            let xs = t.numbers in
            let few : length ss ≤ 4096 = few_strokes bs m in
            let long : length xs ≡ 4 * length ss = ap length t.gives ∙ four_each ss in
            let fits : length xs ≤ length before = omega arith in
            let done : a ≡ told (drawn w ss) = whole_answer_lem t fits in
            record {
              refuses = λ h rows. absurd (h (ap (λ (x : DrawingAnswer). x.number) done));
              draws = λ _. subst (λ (x : DrawingAnswer). Drawn bs x after) (sym done) (record {
                lines = ss;
                means = m;
                area = n;
                few = few;
                count = refl;
                fits = omega arith;
                start = ap (λ (k : ℕ). take k after) {x = length ss * 4} {y = length xs} (omega arith) ∙ at_front t fits ∙ t.gives;
              });
            }

-- ---- the batch

rows_by_five : (k : ℕ) (rest : List StrokeAnswer) → length (rows false k rest) % 5 ≡ 0
unfolding rows
rows_by_five k [] = refl
rows_by_five k (a ∷ rest) = go (is_given false a) (rows_by_five (suc k) rest)
  where
    go : (b : Bool) → length (rows false (suc k) rest) % 5 ≡ 0
        → length ((when b then five_of k a else []) ++ rows false (suc k) rest) % 5 ≡ 0
    go true h = omega arith
    go false h = h

pub record Kept (w : Window) (zs : List ℤ) (b : Answer) (after : List ℤ) : Type 0 where
  pub number : b.number ≡ 0
  pub place : b.place ≡ 0
  pub numbers : List ℤ
  pub are : RowsOf w zs numbers
  pub count : b.count / 5 * 5 ≡ length numbers
  pub start : take (b.count / 5 * 5) after ≡ numbers

nothing_refused : (bs : List ℕ) {w : Window} {ss : List Stroke} → Means bs (drawn w ss) → (no_area w).number ≡ 0 → (batch_refusal w (numbers_of ss)).number ≡ 0
nothing_refused bs {w} {ss} m n =
    let t = on_table_lem bs m in
    none_refused w (numbers_of ss) (ap (λ (f : Refusal). f.number) t.0 ∙ n) t.1

pub kept : {bs : List ℕ} {a : DrawingAnswer} {out : List ℤ} {b : Answer} {before after : List ℤ} (d : Drawn bs a out) → 20480 ≤ length before
    → Batch a.window (take (a.count * 4) out) b before after → Kept a.window (numbers_of d.lines) b after
kept {bs} {a} {b = b} {before = before} {after = after} d room q =
    let ss = d.lines in
    let g = (subst (λ (zs : List ℤ). Batch a.window zs b before after) d.start q).done (nothing_refused bs d.means d.area) in
    let xs = g.numbers in
    let fits : length xs ≤ length before = omega (arith, d.few, rows_of_short g.gives, four_each ss) in
    let done : b ≡ record { number = 0; place = 0; count = length xs } = whole_answer_lem g fits in
    let whole : length xs / 5 * 5 ≡ length xs = omega (arith, ap length g.gives.are, rows_by_five 0 g.gives.answers) in
    let count : b.count / 5 * 5 ≡ length xs = ap (λ (x : Answer). x.count / 5 * 5) done ∙ whole in
    record {
      number = ap (λ (x : Answer). x.number) done;
      place = ap (λ (x : Answer). x.place) done;
      numbers = xs;
      are = g.gives;
      count = count;
      start = ap (λ (k : ℕ). take k after) count ∙ at_front g fits;
    }
