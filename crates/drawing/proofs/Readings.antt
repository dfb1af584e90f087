-- A reading of bytes that mean d: its answer and its output are computed from d and are the only ones, and each way out of the call is such a reading.
use mathlib.Core.Path.{◌≡◌, refl, sym, ap, ◌∙◌}
use mathlib.Core.List.{List}
use Prim.Native.Nat.{ℕ, ◌*◌, ◌≤◌}
use native.Mathlib.Omega.{arith}
use borrow.Author.Tests.{eq-eqb, ne_eqb, eqb-true, eqb-false, leb-true, leb-false}
use Rattle.std.specs.Prelude.{⊤, Ok, Err, is_ok, is_err}
use lib.Dec.{eqb, leb}
use lib.IntN.{ℤ}
use lib.ListN.{length}
use Rattle.whole.specs.Choice.{when◌then◌else◌}
use Rattle.whole.proofs.Comparisons.{by-test, ff_tt}
use Rattle.grid.specs.Refusals.{refuse, bad_drawing, no_area, tested, window_refusal, room_refusal}
use Rattle.grid.specs.Calls.{written, answered_by}
use Rattle.grid.specs.declared.Refusal.{Refusal}
use Rattle.grid.specs.declared.Stroke.{Stroke}
use Rattle.grid.specs.declared.Window.{Window}
use Rattle.grid.proofs.Tested.{was_fine, was_refused}
use Rattle.grid.proofs.Calls.{lent_refused, lent_done, given_short, given_whole, call_unique}
use Rattle.drawing.specs.Drawings.{Drawing, fault, drawn, meaning, numbers_of, numbers, drawing_refusal, refused, told, surveyed, ReadsAs, ReadDrawing}
use Rattle.drawing.specs.declared.Surveyed.{Surveyed}
use Rattle.drawing.specs.declared.DrawingAnswer.{DrawingAnswer}
use Rattle.drawing.proofs.Computed.{computed, by_computed}
use Rattle.drawing.proofs.OnTable.{area_only}
use Rattle.drawing.proofs.Strokes.{four_each}

unfoldable pub read_answer : Drawing → ℕ → DrawingAnswer
read_answer d room = when eqb (drawing_refusal d).number 0 then answered_by refused (λ _. told d) (numbers d) room else refused (drawing_refusal d)

unfoldable pub read_output : Drawing → List ℤ → List ℤ
read_output d out = when eqb (drawing_refusal d).number 0 then written (numbers d) out else out

pub reads : (d : Drawing) (out : List ℤ) → ReadsAs d (read_answer d (length out)) out (read_output d out)
unfolding read_answer read_output
reads d out = record {
  refused = λ h. record { answer = simp (ne_eqb _ _ h); untouched = simp (ne_eqb _ _ h) };
  done = λ h. record { numbers = numbers d; gives = refl; answer = simp (eq-eqb _ _ h); output = simp (eq-eqb _ _ h) };
}

pub reads_unique : (d : Drawing) {a b : DrawingAnswer} {out after after' : List ℤ} → ReadsAs d a out after → ReadsAs d b out after' → (a ≡ b) × (after ≡ after')
reads_unique d p q = call_unique (drawing_refusal d) (λ xs ys x y. x ∙ sym y) p q

pub to_reading : (bs : List ℕ) {d : Drawing} {a b : DrawingAnswer} {out after : List ℤ} → meaning computed bs ≡ d → a ≡ b → ReadsAs d b out after
    → ReadDrawing bs a out after
to_reading bs {d} e f r = record { drawing = d; means = by_computed (sym e); call = rw f r }

-- ---- the ways of a reading

-- a fault is found: its answer
pub faulty : (d : Drawing) {r : Refusal} {out : List ℤ} → Err r ≡ surveyed d → ReadsAs d (refused r) out out
faulty (fault place) {r} e = let same : r ≡ refuse bad_drawing 0 = cc in rw same (lent_refused refl (λ z. omega (arith, z)))
faulty (drawn w ss) e = absurd (ff_tt (ap is_ok e))

pub record Seen (d : Drawing) (s : Surveyed) : Type 0 where
  pub strokes : List Stroke
  pub drawing : d ≡ drawn s.window strokes
  pub counted : s.strokes ≡ length strokes

pub seen : (d : Drawing) {s : Surveyed} → Ok s ≡ surveyed d → Seen d s
seen (fault place) e = absurd (ff_tt (ap is_err e))
seen (drawn w ss) {s} e =
    let same : record { window = w; strokes = length ss } ≡ s = cc in record {
      strokes = ss;
      drawing = ap (λ (f : Surveyed). drawn f.window ss) same;
      counted = sym (ap (λ (f : Surveyed). f.strokes) same);
    }

-- what is refused of a drawing: 3, or else 8
abbrev pub decision : Window → ℕ → ℕ → Refusal
decision w needed room = when eqb (no_area w).number 0 then room_refusal needed room else no_area w

module _ (w : Window) (ss : List Stroke) (out : List ℤ) where
  abbrev Refuses : Refusal → Type 0
  Refuses r = (r.number ≡ 0 → ⊥) → ReadsAs (drawn w ss) (refused r) out out

  pub refuses : Refuses (decision w (4 * length ss) (length out))
  unfolding room_refusal
  refuses =
      by-test (eqb (no_area w).number 0) Refuses
      (λ a. by-test (leb (4 * length ss) (length out)) Refuses (λ _ h. absurd (h refl)) λ b h.
      rw (← four_each ss) (lent_done (eqb-true _ _ a) (given_short (numbers_of ss) refl (omega (arith, four_each ss, leb-false (4 * length ss) (length out) b)))))
      (λ a h. lent_refused refl h)

  -- nothing is refused: there is room, and the strokes' numbers are all that is left to write
  pub record Free : Type 0 where
    pub has_room : 4 * length ss ≤ length out
    pub reads : (after : List ℤ) → after ≡ written (numbers_of ss) out → ReadsAs (drawn w ss) (told (drawn w ss)) out after

  pub free : (decision w (4 * length ss) (length out)).number ≡ 0 → Free
  unfolding room_refusal
  free =
      let P : Refusal → Type 0 = λ r. r.number ≡ 0 → Free in
      by-test (eqb (no_area w).number 0) P
      (λ a. by-test (leb (4 * length ss) (length out)) P
      (λ b _. let l = leb-true (4 * length ss) (length out) b in
      record { has_room = l; reads = λ after e. lent_done (eqb-true _ _ a) (given_whole (numbers_of ss) refl (omega (arith, four_each ss)) e) })
      (λ _ h. absurd (omega arith)))
      (λ a h. absurd (eqb-false (no_area w).number 0 a h))

-- ---- what the tests say of a drawing that was surveyed
module _ (bs : List ℕ) (s : Surveyed) (found : Ok s ≡ surveyed (meaning computed bs)) (out : List ℤ) where
  abbrev pub it : Seen (meaning computed bs) s
  it = seen (meaning computed bs) found

  abbrev decided : Refusal
  decided = decision s.window (4 * length it.strokes) (length out)

  area : window_refusal s.window ≡ no_area s.window
  area = area_only bs s.window it.strokes it.drawing

  told_refused : {r : Refusal} → r ≡ decided → (r.number ≡ 0 → ⊥) → ReadDrawing bs (refused r) out out
  told_refused e n =
      to_reading bs it.drawing (ap refused e) (refuses s.window it.strokes out (λ z. n (ap (λ (q : Refusal). q.number) e ∙ z)))

  pub window_refuses : {r : Refusal} → Err r ≡ tested (window_refusal s.window) → ReadDrawing bs (refused r) out out
  window_refuses {r} e =
      let known = was_refused (window_refusal s.window) e in
      let is : r ≡ no_area s.window = known.0 ∙ area in
      let applies : (no_area s.window).number ≡ 0 → ⊥ = λ z. known.1 (ap (λ (q : Refusal). q.number) area ∙ z) in
      told_refused (is ∙ sym (simp (ne_eqb _ _ applies))) (λ z. applies (ap (λ (q : Refusal). q.number) (sym is) ∙ z))

  module _ {u : ⊤} (fine : Ok u ≡ tested (window_refusal s.window)) where
    room_decides : room_refusal (4 * s.strokes) (length out) ≡ decided
    room_decides =
        let z : (no_area s.window).number ≡ 0 = ap (λ (q : Refusal). q.number) (sym area) ∙ was_fine (window_refusal s.window) fine in
        ap (λ (n : ℕ). room_refusal (4 * n) (length out)) it.counted ∙ sym (simp (eq-eqb _ _ z))

    pub room_refuses : {r : Refusal} → Err r ≡ tested (room_refusal (4 * s.strokes) (length out)) → ReadDrawing bs (refused r) out out
    room_refuses e =
        let known = was_refused (room_refusal (4 * s.strokes) (length out)) e in
        told_refused (known.0 ∙ room_decides) (λ z. known.1 (ap (λ (q : Refusal). q.number) (sym known.0) ∙ z))

    pub nothing_refuses : {v : ⊤} → Ok v ≡ tested (room_refusal (4 * s.strokes) (length out)) → Free s.window it.strokes out
    nothing_refuses e =
        free s.window it.strokes out (ap (λ (q : Refusal). q.number) (sym room_decides) ∙ was_fine (room_refusal (4 * s.strokes) (length out)) e)
