-- `spans::cut` meets its contract: each way through it is one law of Cutting, with the sides. Assumes nothing.
use mathlib.Core.Path.{◌≡◌, refl, sym, ap, subst, ◌∙◌}
use mathlib.Core.Bool.{true, false}
use mathlib.Core.List.{List, [], ◌∷◌}
use Prim.Native.Nat.{ℕ}
use lib.IntN.{ℤ, pos, ◌-ℤ◌}
use lib.Signed.{◌≤ℤ◌, ◌<ℤ◌}
use mir.Syntax.{w64}
use mir.Facts.{to_z-of_z}
use Rattle.whole.specs.Within.{Within}
use Rattle.whole.proofs.Comparisons.{lt_yes, lt_no}
use Rattle.whole.proofs.Expressions.{Env}
use Rattle.whole.proofs.Machine.{Code, par, lit, sub, machine, value}
use Rattle.whole.proofs.Order.{zarith}
use Rattle.whole.proofs.Ranges.{Bounds}
use Rattle.fraction.specs.declared.Fraction.{Fraction}
use Rattle.fraction.specs.Fraction.{Comparable, less_than}
use Rattle.fraction.proofs.Comparing.{less_taken, less_left}
use Rattle.spans.specs.Spans.{largest, SidedCut}
use Rattle.spans.specs.declared.SidedSpan.{SidedSpan}
use Rattle.spans.proofs.Cutting.{minus_within, comes_sooner, leaves_later, untouched}
use Rattle.spans.proofs.Parts.{comparable}
use Rattle.spans.proofs.SidedCuts.{sided_as_before, sided_in, sided_never, sided_out}
use Rattle.spans.proofs.cut.Goals.{then-q-p+else-less-2, else-q-p}
use Rattle.spans.proofs.cut.Goals as goal

abbrev β : List ℕ
β = largest ∷ largest ∷ []

abbrev minus : ℕ → Code
minus i = sub w64 (lit (pos 0)) (par w64 i)

-- the fraction at which the stroke comes in, and that at which it leaves, as the code makes them
abbrev made : Env → Code → Code → Fraction
made ρ n d = record { num = machine ρ n; den = machine ρ d }

module _ (p q : ℤ) where
  abbrev in_at : Fraction
  in_at = record { num = pos 0 -ℤ q; den = pos 0 -ℤ p }

  abbrev out_at : Fraction
  out_at = record { num = q; den = p }

  module _ (wp : Within largest p) (wq : Within largest q) where
    bounds : Bounds β (p ∷ q ∷ [])
    bounds = (wp, (wq, tt))

    comes_in : made (p ∷ q ∷ []) (minus 1) (minus 0) ≡ in_at
    comes_in = λ i. record { num = value β (p ∷ q ∷ []) bounds (minus 1) tt i; den = value β (p ∷ q ∷ []) bounds (minus 0) tt i }

    goes_out : made (p ∷ q ∷ []) (par w64 1) (par w64 0) ≡ out_at
    goes_out = λ i. record { num = value β (p ∷ q ∷ []) bounds (par w64 1) tt i; den = value β (p ∷ q ∷ []) bounds (par w64 0) tt i }

pub less-requires : goal.less-requires
less-requires c =
    let z = c.requires.sized in
    let wp = c.requires.within in
    let wq = c.requires.within_2 in
    subst (Comparable c.args.s.span.first) (sym (comes_in c.args.p c.args.q wp wq))
    (comparable z.n0 z.d0 (minus_within wq) (minus_within wp))

pub returns-then-less : goal.returns-then-less
returns-then-less c =
    let f = c.args.s in
    let e = comes_in c.args.p c.args.q c.requires.within c.requires.within_2 in
    let made_span : Fraction → SidedSpan = λ g. record { span = record { first = g; last = f.span.last }; side0 = c.args.side; side1 = f.side1 } in
    let l : less_than f.span.first (in_at c.args.p c.args.q) ≡ true = cc (e) in
    subst (SidedCut c.args.p c.args.q c.args.side f) (ap made_span (sym e) ∙ sym c.sided.ensures)
    (sided_in c.requires.proper_span (lt_yes (to_z-of_z c.ranges.q) refl c.if-q-lt0.true) (lt_yes (to_z-of_z c.ranges.p) refl c.if-p-lt0.true)
    (less_taken f.span.first (in_at c.args.p c.args.q) l))

pub returns-then-p-lt0 : goal.returns-then-p-lt0
returns-then-p-lt0 c =
    let f = c.args.s in
    let e = comes_in c.args.p c.args.q c.requires.within c.requires.within_2 in
    let l : less_than f.span.first (in_at c.args.p c.args.q) ≡ false = cc (e) in
    subst (SidedCut c.args.p c.args.q c.args.side f) (sym c.sided-then-p-lt0.ensures)
    (sided_as_before
    (comes_sooner c.args.p c.args.q f.span c.requires.proper_span (lt_yes (to_z-of_z c.ranges.p) refl c.if-p-lt0.true)
    (less_left f.span.first (in_at c.args.p c.args.q) l)))

pub returns-then-q-lt0 : goal.returns-then-q-lt0
returns-then-q-lt0 c =
    subst (SidedCut c.args.p c.args.q c.args.side c.args.s) (sym c.sided-then-q-lt0.ensures)
    (sided_never c.requires.proper_span (lt_yes (to_z-of_z c.ranges.q) refl c.if-q-lt0.true) (lt_no (to_z-of_z c.ranges.p) refl c.if-p-lt0.false))

pub less-requires-then-q-p : goal.less-requires-then-q-p
less-requires-then-q-p c =
    let z = c.requires.sized in
    let wp = c.requires.within in
    let wq = c.requires.within_2 in
    subst (λ (g : Fraction). Comparable g c.args.s.span.last) (sym (goes_out c.args.p c.args.q wp wq))
    (comparable wq wp z.n1 z.d1)

pub returns-then-less-2 : goal.returns-then-less-2
returns-then-less-2 c =
    let f = c.args.s in
    let e = goes_out c.args.p c.args.q c.requires.within c.requires.within_2 in
    let made_span : Fraction → SidedSpan = λ g. record { span = record { first = f.span.first; last = g }; side0 = f.side0; side1 = c.args.side } in
    let l : less_than (out_at c.args.p c.args.q) f.span.last ≡ true = cc (e) in
    subst (SidedCut c.args.p c.args.q c.args.side f) (ap made_span (sym e) ∙ sym c.sided-then-less-2.ensures)
    (sided_out c.requires.proper_span (lt_no (to_z-of_z c.ranges.q) refl c.if-q-lt0.false)
    (lt_yes (to_z-of_z c.ranges.q) (to_z-of_z c.ranges.p) c.if-q-p.true) (less_taken (out_at c.args.p c.args.q) f.span.last l))

-- it leaves no sooner than the span does, or both ends are on the right side
pub returns : goal.returns
returns c =
    let f = c.args.s in
    let e = goes_out c.args.p c.args.q c.requires.within c.requires.within_2 in
    let h : pos 0 ≤ℤ c.args.q = lt_no (to_z-of_z c.ranges.q) refl c.if-q-lt0.false in
    subst (SidedCut c.args.p c.args.q c.args.side f) (sym c.sided-2.ensures)
    (sided_as_before
    (elim c.if-q-p.branch [
      | then-q-p+else-less-2 w ↦
          let k : c.args.q <ℤ c.args.p = lt_yes (to_z-of_z c.ranges.q) (to_z-of_z c.ranges.p) w.if-q-p.true in
          let l : less_than (out_at c.args.p c.args.q) f.span.last ≡ false = cc (e) in
          leaves_later c.args.p c.args.q f.span c.requires.proper_span (omega zarith) (less_left (out_at c.args.p c.args.q) f.span.last l)
      | else-q-p w ↦ untouched c.args.p c.args.q f.span c.requires.proper_span h (lt_no (to_z-of_z c.ranges.q) (to_z-of_z c.ranges.p) w.if-q-p.false)
    ]))
