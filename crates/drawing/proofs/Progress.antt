-- The second pass half way: the numbers of the strokes so far stand at the front of the output, and those of the rest are still to come.
use mathlib.Core.Path.{◌≡◌, refl, sym, ◌∙◌, subst}
use mathlib.Core.List.{List, ◌++◌}
use Prim.Native.Nat.{ℕ, ◌+◌, ◌*◌, ◌≤◌}
use native.Mathlib.Omega.{arith}
use lib.IntN.{ℤ}
use lib.ListN.{length}
use lib.Seq.{sets}
use Rattle.grid.specs.Table.{ends}
use Rattle.grid.specs.Calls.{written}
use Rattle.grid.specs.declared.Stroke.{Stroke}
use Rattle.grid.proofs.Fill.{Filled, filled_start, filled_room, filled_put, filled_end}
use Rattle.format.specs.Format.{most_bytes, head_size, window_at}
use Rattle.format.proofs.Heads.{whole_head}
use Rattle.drawing.specs.Pen.{fresh, turn_at, drawn_stroke}
use Rattle.drawing.specs.Drawings.{Drawing, fault, drawn, in_front, onward, meaning, numbers_of, numbers, Drawable}
use Rattle.drawing.specs.declared.pen.Pen.{Pen}
use Rattle.drawing.specs.declared.pen.Turn.{Turn}
use Rattle.drawing.proofs.Computed.{computed, is_computed}
use Rattle.drawing.proofs.Turns.{led}
use Rattle.drawing.proofs.Walks.{rest, turned}
use Rattle.drawing.proofs.Strokes.{four_each}
use Rattle.drawing.proofs.Heads.{records, opened}

-- no fault is met
abbrev Drawn : Drawing → Type 0
Drawn (fault place) = ⊥
Drawn (drawn w ss) = Unit

one_more : (s : Stroke) (d : Drawing) → Drawn (in_front s d) → Drawn d × (numbers (in_front s d) ≡ ends s ++ numbers d)
unfolding numbers_of
one_more s (fault place) h = absurd h
one_more s (drawn w ss) h = (tt, refl)

module _ (bs : List ℕ) where
  abbrev left : ℕ → Pen → Drawing
  left at pen = rest computed bs (computed.window (window_at bs)).window at pen

  abbrev all : List ℤ
  all = numbers (records computed bs)

  pub record Progress (out₀ out : List ℤ) (at : ℕ) (pen : Pen) : Type 0 where
    pub small : length bs ≤ most_bytes
    pub means : meaning computed bs ≡ records computed bs
    pub room : length all ≤ length out₀
    pub sound : Drawn (left at pen)
    pub filled : Filled all (numbers (left at pen)) out out₀ (4 * pen.strokes)

  pub starts : (out : List ℤ) → Drawable bs (length out) → Progress out out head_size fresh
  starts out d =
      let m = is_computed d.means in
      let o = opened computed bs d.window d.strokes (sym m) in
      record {
        small = (whole_head bs o.head).1;
        means = sym m ∙ sym o.drawing;
        room = rw o.drawing (omega (arith, four_each d.strokes, d.has_room));
        sound = subst Drawn (sym o.drawing) tt;
        filled = filled_start all out;
      }

  module _ (out₀ out : List ℤ) (at : ℕ) (pen : Pen) (p : Progress out₀ out at pen) where
    -- what is still to come, as the turn leaves it
    ahead : {t : Turn} → turn_at computed bs at pen ≡ t
        → let d = onward (computed.window (window_at bs)).window pen left t in Drawn d × Filled all (numbers d) out out₀ (4 * pen.strokes)
    ahead e = subst (λ (d : Drawing). Drawn d × Filled all (numbers d) out out₀ (4 * pen.strokes))
        (turned computed bs (computed.window (window_at bs)).window at pen e) (p.sound, p.filled)

    pub finishes : turn_at computed bs at pen ≡ Turn.End → out ≡ written (numbers (meaning computed bs)) out₀
    unfolding numbers_of
    finishes e = rw p.means (filled_end (ahead e).1)

    pub never_fails : {place : ℕ} → turn_at computed bs at pen ≡ Turn.Fault place → ⊥
    never_fails e = (ahead e).0

    pub goes : {to : Pen} {next : ℕ} → turn_at computed bs at pen ≡ Turn.Goes to next → Progress out₀ out next to
    goes {to} {next} e =
        let a = ahead e in
        let n : to.strokes ≡ pen.strokes = (led computed bs at pen e).2 in
        record {
          small = p.small;
          means = p.means;
          room = p.room;
          sound = a.0;
          filled = subst (λ (k : ℕ). Filled all (numbers (left next to)) out out₀ (4 * k)) (sym n) a.1;
        }

    pub draws : {to : Pen} {next : ℕ} → turn_at computed bs at pen ≡ Turn.Draws to next
        → (4 * pen.strokes + 4 ≤ length out) × Progress out₀ (sets out (4 * pen.strokes) (ends (drawn_stroke pen to))) next to
    draws {to} {next} e =
        let a = ahead e in
        let m = one_more (drawn_stroke pen to) (left next to) a.0 in
        let f : Filled all (ends (drawn_stroke pen to) ++ numbers (left next to)) out out₀ (4 * pen.strokes) = rw m.1 at a.1 in
        let n : 4 * pen.strokes + 4 ≡ 4 * to.strokes = omega (arith, (led computed bs at pen e).2) in (
          omega (arith, filled_room f, p.room, f.same),
          record {
            small = p.small;
            means = p.means;
            room = p.room;
            sound = m.0;
            filled =
                subst (Filled all (numbers (left next to)) (sets out (4 * pen.strokes) (ends (drawn_stroke pen to))) out₀) n
                (filled_put (ends (drawn_stroke pen to)) f p.room);
          },
        )
