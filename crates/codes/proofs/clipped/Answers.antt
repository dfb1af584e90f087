-- `codes::clipped` meets its contract: the piece that is the whole stroke is reached at first, each shortening reaches the next, and of those there are at
-- most four. Assumes nothing.
use mathlib.Core.Path.{◌≡◌, ◌∙◌, sym, subst₂}
use Prim.Native.Nat.{ℕ}
use native.Mathlib.Omega.{arith}
use Rattle.grid.specs.declared.Stroke.{Stroke}
use Rattle.grid.specs.declared.Window.{Window}
use Rattle.grid.specs.Table.{StrokeOnTable}
use Rattle.spans.proofs.Sides.{own_start, own_end}
use Rattle.strokes.proofs.Reading.{read, read_is}
use Rattle.codes.specs.Workers.{end_code, PieceOf}
use Rattle.codes.specs.declared.PieceEnd.{PieceEnd}
use Rattle.codes.proofs.Decided.{or_keep, and_missed}
use Rattle.codes.proofs.Pieces.{start_code, end_code_lem, whole_part, whole_piece, whole_kept, small_a, small_b, decided_is, finished_kept, finished_missed}
use Rattle.codes.proofs.Shortenings.{Reached, reached_first, reached_next, reached_less}
use Rattle.codes.proofs.clipped.Goals as goal

-- the piece that is the whole stroke, with the codes of its two ends
piece : {w : Window} {s : Stroke} {a b : ℕ} → StrokeOnTable s → a ≡ end_code w (read s.x1) (read s.y1) → b ≡ end_code w (read s.x2) (read s.y2)
    → PieceOf w s (whole_piece a b)
piece {w} {s} on e f = record {
  part = whole_part;
  a = e ∙ (λ i. end_code w (read_is on.x1 i) (read_is on.y1 i)) ∙ start_code w s;
  b = f ∙ (λ i. end_code w (read_is on.x2 i) (read_is on.y2 i)) ∙ end_code_lem w s;
  start_side = own_start;
  end_side = own_end;
}

pub returns-then-a-b-eq0 : goal.returns-then-a-b-eq0
returns-then-a-b-eq0 c =
    let q = piece c.requires.stroke_on_table c.end_code-a.ensures c.end_code-b.ensures in
    finished_kept q reached_first (sym (decided_is q) ∙ or_keep (small_a q) (small_b q) c.if-a-b-eq0.true) (whole_kept _ _ c.whole.ensures)

pub returns-then-a-b-ne0 : goal.returns-then-a-b-ne0
returns-then-a-b-ne0 c =
    let q = piece c.requires.stroke_on_table c.end_code-a.ensures c.end_code-b.ensures in
    finished_missed q reached_first (sym (decided_is q) ∙ and_missed (small_a q) (small_b q) c.if-a-b-ne0.true) c.missed.ensures

pub loop-which-init : goal.loop-which-init
loop-which-init c =
    let q = piece c.requires.stroke_on_table c.end_code-a.ensures c.end_code-b.ensures in
    let e = sym c.own_end-start.ensures in
    let f = sym c.own_end-end.ensures in
    record {
      piece_of = subst₂ (λ (u v : PieceEnd). PieceOf c.args.w c.args.s (record { start = u; end = v })) e f q;
      reached = subst₂ (λ (u v : PieceEnd). Reached c.args.w c.args.s u.t v.t 0) e f reached_first;
    }

pub decision-requires-clause-a_bound : goal.decision-requires-clause-a_bound
decision-requires-clause-a_bound c = small_a c.loop-which.invariant.piece_of

pub decision-requires-clause-b_bound : goal.decision-requires-clause-b_bound
decision-requires-clause-b_bound c = small_b c.loop-which.invariant.piece_of

pub returns-in-Keep : goal.returns-in-Keep
returns-in-Keep c =
    let i = c.loop-which.invariant in
    finished_kept i.piece_of i.reached (sym (decided_is i.piece_of) ∙ sym c.decision.ensures ∙ c.in-Keep.ensures) c.kept.ensures

pub returns-in-Missed : goal.returns-in-Missed
returns-in-Missed c =
    let i = c.loop-which.invariant in
    finished_missed i.piece_of i.reached (sym (decided_is i.piece_of) ∙ sym c.decision.ensures ∙ c.in-Missed.ensures) c.missed-in-Missed.ensures

pub loop-which-smaller : goal.loop-which-smaller
loop-which-smaller c = omega (arith, reached_less c.loop-which.invariant.reached c.shortened-piece.ensures.step)

pub loop-which-preserved : goal.loop-which-preserved
loop-which-preserved c =
    let h = c.shortened-piece.ensures in
    record { piece_of = h.piece; reached = reached_next c.loop-which.invariant.reached h.step }
