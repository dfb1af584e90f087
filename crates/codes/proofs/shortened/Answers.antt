-- `codes::shortened` meets its contract: the decision is by the trailing zeros of the end's code, so the crossing is the step that the rule takes. Assumes nothing.
use mathlib.Core.Path.{◌≡◌, refl, sym, subst}
use Prim.Native.Nat.{ℕ}
use Rattle.fraction.specs.declared.Fraction.{Fraction}
use Rattle.grid.specs.declared.Stroke.{Stroke}
use Rattle.grid.specs.declared.Window.{Window}
use Rattle.grid.specs.Sides.{Side, place_of, side_at}
use Rattle.spans.specs.Sides.{StartSide, EndSide}
use Rattle.strokes.specs.Sides.{conditions}
use Rattle.strokes.specs.Workers.{OnWay}
use Rattle.codes.specs.Codes.{code as Codes·code, lowest_bit}
use Rattle.codes.specs.Steps.{decided, start, end}
use Rattle.codes.specs.Workers.{Apart, StrokeMeets, KindOf, PieceOf, Shortened}
use Rattle.codes.specs.declared.Piece.{Piece}
use Rattle.codes.specs.declared.PieceEnd.{PieceEnd}
use Rattle.codes.specs.declared.Ruling.TheVariants.{Shorten}
use Rattle.codes.specs.declared.Which.{Which}
use Rattle.codes.specs.declared.Which.TheVariants.{Start, End}
use Rattle.codes.proofs.Pieces.{decided_start, decided_end, place_start, place_end, start_apart, start_part, start_fixed, end_apart, end_part, end_fixed}
use Rattle.codes.proofs.shortened.Goals as goal

-- an end of a piece that lies on the line of the side k
record CutAt (w : Window) (s : Stroke) (k : Side) (e : PieceEnd) : Type 0 where
  meets : StrokeMeets w s k e.t
  code : e.code ≡ Codes·code w s e.t
  side : e.side ≡ place_of k

abbrev code_of : Piece → Which → ℕ
code_of p Start = p.start.code
code_of p End = p.end.code

-- the side of the lowest set bit of the end's code
abbrev side : Piece → Which → Side
side p q = side_at (lowest_bit (code_of p q))

module _ {w : Window} {s : Stroke} {p : Piece} (h : PieceOf w s p) where
  abbrev Ruled : Which → Type 0
  Ruled q = KindOf (decided w s p.start.t p.end.t) (Shorten q)

  -- ---- what `crossing` and `code` ask
  asks_apart : (q : Which) → Ruled q → Apart s (side p q)
  asks_apart Start k = start_apart h (side p Start) (decided_start h refl k.0 k.1)
  asks_apart End k = end_apart h (side p End) (decided_end h refl k)

  asks_place : (q : Which) → Ruled q → place_of (side p q) ≡ lowest_bit (code_of p q)
  asks_place Start k = place_start h refl k.0 k.1
  asks_place End k = place_end h refl k

  asks_way : (q : Which) → Ruled q → (f : Fraction) → StrokeMeets w s (side p q) f → OnWay f
  asks_way Start k f m = (start_part h (side p Start) (decided_start h refl k.0 k.1) m).start
  asks_way End k f m = (end_part h (side p End) (decided_end h refl k) m).end

  -- ---- what they give
  start_cut : {e : PieceEnd} → Ruled Start → CutAt w s (side p Start) e → Shortened w s p (record { start = e; end = p.end })
  start_cut k m =
      let d = decided_start h refl k.0 k.1 in
      record {
        step = start (side p Start) d m.meets.line;
        piece = record {
          part = start_part h (side p Start) d m.meets;
          a = m.code;
          b = h.b;
          start_side = subst (StartSide (conditions w s) _) (sym m.side) (start_fixed h (side p Start) d m.meets);
          end_side = h.end_side;
        };
      }

  end_cut : {e : PieceEnd} → Ruled End → CutAt w s (side p End) e → Shortened w s p (record { start = p.start; end = e })
  end_cut k m =
      let d = decided_end h refl k in
      record {
        step = end (side p End) d m.meets.line;
        piece = record {
          part = end_part h (side p End) d m.meets;
          a = h.a;
          b = m.code;
          start_side = h.start_side;
          end_side = subst (EndSide (conditions w s) _) (sym m.side) (end_fixed h (side p End) d m.meets);
        };
      }

pub crossing-t-requires-clause-apart : goal.crossing-t-requires-clause-apart
crossing-t-requires-clause-apart c = let h = c.requires.piece_of in asks_apart h Start (subst (Ruled h) c.in-Start.is c.requires.kind_of)

pub code-requires-clause-on_way : goal.code-requires-clause-on_way
code-requires-clause-on_way c = let h = c.requires.piece_of in
    asks_way h Start (subst (Ruled h) c.in-Start.is c.requires.kind_of) c.crossing-t.result c.crossing-t.ensures

pub crossing-t-requires-in-End-clause-apart : goal.crossing-t-requires-in-End-clause-apart
crossing-t-requires-in-End-clause-apart c = let h = c.requires.piece_of in asks_apart h End (subst (Ruled h) c.in-End.is c.requires.kind_of)

pub code-requires-in-End-clause-on_way : goal.code-requires-in-End-clause-on_way
code-requires-in-End-clause-on_way c = let h = c.requires.piece_of in
    asks_way h End (subst (Ruled h) c.in-End.is c.requires.kind_of) c.crossing-t-in-End.result c.crossing-t-in-End.ensures

pub returns-in-Start : goal.returns-in-Start
returns-in-Start c =
    let h = c.requires.piece_of in
    let k = subst (Ruled h) c.in-Start.is c.requires.kind_of in
    let start : PieceEnd = record { t = c.crossing-t.result; code = c.code.result; side = lowest_bit c.args.p.start.code } in
    subst (λ (b : PieceEnd). Shortened c.args.w c.args.s c.args.p (record { start = start; end = b })) (sym c.same.ensures)
    (start_cut h k (record { meets = c.crossing-t.ensures; code = c.code.ensures; side = sym (asks_place h Start k) }))

pub returns-in-End : goal.returns-in-End
returns-in-End c =
    let h = c.requires.piece_of in
    let k = subst (Ruled h) c.in-End.is c.requires.kind_of in
    let end : PieceEnd = record { t = c.crossing-t-in-End.result; code = c.code-in-End.result; side = lowest_bit c.args.p.end.code } in
    subst (λ (a : PieceEnd). Shortened c.args.w c.args.s c.args.p (record { start = a; end = end })) (sym c.same-in-End.ensures)
    (end_cut h k (record { meets = c.crossing-t-in-End.ensures; code = c.code-in-End.ensures; side = sym (asks_place h End k) }))
