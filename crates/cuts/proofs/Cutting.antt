-- What is given of a stroke that is kept whole, of one that is not given, and of one that is given by the two ends of what is kept.
use mathlib.Core.Path.{◌≡◌, refl, sym, ap, ◌∙◌, subst}
use mathlib.Core.Bool.{Bool, true, false, not}
use Rattle.std.specs.Prelude.{Some, None}
use Prim.Native.Nat.{ℕ, ◌≤◌}
use lib.IntN.{ℤ}
use Rattle.whole.specs.Choice.{when◌then◌else◌}
use Rattle.fraction.proofs.Computed.{lowest_of_is}
use Rattle.grid.specs.declared.Stroke.{Stroke}
use Rattle.grid.specs.declared.Window.{Window}
use Rattle.grid.specs.Table.{WindowOnTable, StrokeOnTable}
use Rattle.spans.specs.Parts.{Time}
use Rattle.strokes.specs.Strokes.{Keeps}
use Rattle.strokes.specs.Workers.{WayOf, Apart, Overlap, StartOf, FinishOf, whole_answer}
use Rattle.strokes.specs.declared.End.{End}
use Rattle.strokes.specs.declared.StrokeAnswer.{StrokeAnswer}
use Rattle.strokes.specs.declared.ways.Way.{Way}
use Rattle.strokes.proofs.Answers.{nothing_kept, span_kept, whole_answer_lem}
use Rattle.strokes.proofs.Meetings.{ends_span, ends_meet}
use Rattle.strokes.proofs.Reading.{read, way_plain}
use Rattle.strokes.proofs.Sides.{start_side, end_side}
use Rattle.strokes.proofs.Unique.{clipped_unique}
use Rattle.cuts.specs.Cuts.{is_given, touches_at, part_between, part_kept, cut_of, CutIs, SaysGiven}
use Rattle.cuts.proofs.Given.{whole_given, missed_left_out}
use Rattle.cuts.proofs.Touching.{left_out_by_ways, given_by_ways}

-- what is given, where it is known whether anything is
chosen : (touches : Bool) {b : Bool} (a : StrokeAnswer) → is_given touches a ≡ b
    → (when b then Some (part_kept a) else None) ≡ cut_of touches a
chosen touches a e = ap (λ (b : Bool). when b then Some (part_kept a) else None) (sym e)

-- ---- the ways of the two coordinates, which are read as they are
module _ {w : Window} {s : Stroke} {r : Way} (on : WindowOnTable w) (t : StrokeOnTable s) where
  pub way_of_x : WayOf (read w.left) (read w.right) (read s.x1) (read s.x2) r → WayOf w.left w.right s.x1 s.x2 r
  way_of_x = way_plain on.left on.right t.x1 t.x2

  pub way_of_y : WayOf (read w.bottom) (read w.top) (read s.y1) (read s.y2) r → WayOf w.bottom w.top s.y1 s.y2 r
  way_of_y = way_plain on.bottom on.top t.y1 t.y2

module _ {w : Window} {s : Stroke} (touches : Bool) where
  -- ---- all of it
  pub whole_gives : ((n d : ℤ) → Time n d → Keeps w s n d) → SaysGiven touches w s true
  whole_gives always a c = subst (λ (b : StrokeAnswer). true ≡ is_given touches b) (clipped_unique (whole_answer_lem always) c) (whole_given touches s)

  pub whole_cut_lem : ((n d : ℤ) → Time n d → Keeps w s n d) → CutIs touches w s (Some s)
  whole_cut_lem always a c =
      subst (λ (b : StrokeAnswer). Some s ≡ cut_of touches b) (clipped_unique (whole_answer_lem always) c)
      (chosen touches (whole_answer s) (sym (whole_given touches s)))

  -- ---- nothing of it
  pub none_gives : ((n d : ℤ) → Keeps w s n d → ⊥) → SaysGiven touches w s false
  none_gives never a c = sym (missed_left_out a touches (ap (λ (b : StrokeAnswer). b.kept) (sym (clipped_unique (nothing_kept never) c))))

  pub left_out_cut : SaysGiven touches w s false → CutIs touches w s None
  left_out_cut gives a c = chosen touches a (sym (gives a c))

-- ---- a part of it, where the ways must overlap by k
module _ {w : Window} {s : Stroke} {x y : Way} (on : WindowOnTable w) (f : WayOf w.left w.right s.x1 s.x2 x)
    (g : WayOf w.bottom w.top s.y1 s.y2 y) (k : ℕ) (few : k ≤ 1) where
  pub ways_give : (b : Bool) → (b ≡ true → Apart k x y) → (b ≡ false → Overlap k x y) → SaysGiven (touches_at k) w s (not b)
  ways_give true apart o a c = sym (left_out_by_ways on f g k few (apart refl) a c)
  ways_give false apart o a c = sym (given_by_ways on f g k few (o refl) a c)

  pub part_cut_lem : {i j : End} → StartOf s x y i → FinishOf s x y j → Overlap k x y → CutIs (touches_at k) w s (Some (part_between i j))
  part_cut_lem {i} {j} p q o a c =
      let same = clipped_unique
      (span_kept (ends_span f g p q) (ends_meet f g p q o) i j p.point q.point (start_side f g p.side) (end_side f g q.side)
      (lowest_of_is _ p.way.time.den) (lowest_of_is _ q.way.time.den)) c in
      ap (λ (b : StrokeAnswer). Some (part_kept b)) same
      ∙ chosen (touches_at k) a (given_by_ways on f g k few o a c)
