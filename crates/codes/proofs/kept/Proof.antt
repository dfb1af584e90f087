-- `codes::kept` meets its contract: the ends of a span of kept fractions give the answer (`span_kept` of strokes). Assumes nothing.
use mathlib.Core.Path.{refl, sym, subst}
use borrow.Author.Rules.{rules}
use Rattle.fraction.specs.declared.Fraction.{Fraction}
use Rattle.fraction.specs.Fraction.{LowestOf}
use Rattle.spans.specs.Sides.{StartSide, EndSide}
use Rattle.strokes.specs.Sides.{conditions}
use Rattle.strokes.specs.Strokes.{Clipped}
use Rattle.strokes.specs.Workers.{OnWay}
use Rattle.strokes.proofs.Answers.{span_kept}
use Rattle.codes.proofs.kept.Statement.{statement}
use Rattle.codes.proofs.kept.Tie as tie

end-at-requires : tie.Need-end_at-a-requires
end-at-requires c κs = search rules

end-at-requires-2 : tie.Need-end_at-b-requires
end-at-requires-2 c κs = search rules

kept-answer-requires : tie.Need-kept_answer-answer-requires
kept-answer-requires c κs =
    let p = c.before.before.requires.1 in
    (subst OnWay (sym c.before.end_at-a.ensures.t) p.start, subst OnWay (sym c.end_at-b.ensures.t) p.end)

returns : tie.Need-returns
returns c =
    let a = c.before.before.before in
    let p = c.before.before.end_at-a in
    let q = c.before.end_at-b in
    let r = c.kept_answer-answer.ensures in record {
      clipped = λ w g i o.
          subst (Clipped w a.args.s) (sym r.answer)
          (span_kept g a.requires.1.order p.result q.result p.ensures.point q.ensures.point
          (subst (StartSide (conditions w a.args.s) a.args.p.start.t) (sym p.ensures.side) i)
          (subst (EndSide (conditions w a.args.s) a.args.p.end.t) (sym q.ensures.side) o)
          (subst (λ (f : Fraction). LowestOf f.num f.den c.kept_answer-answer.result.t0) p.ensures.t r.first)
          (subst (λ (f : Fraction). LowestOf f.num f.den c.kept_answer-answer.result.t1) q.ensures.t r.last));
      count = refl;
    }

pub kept_spec : {M : Type 1} → statement M
kept_spec = tie.close (tie.spec end-at-requires end-at-requires-2 kept-answer-requires returns)
