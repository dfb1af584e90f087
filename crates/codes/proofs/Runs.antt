-- The rule's run is the only one, and it has at most four shortenings.
-- A code depends on the fraction's value alone, and a stroke meets the line of a side that it passes at one fraction alone.
use mathlib.Core.Path.{◌≡◌, refl, sym, ap, subst, ◌∙◌}
use mathlib.Core.List.{[], ◌∷◌}
use Prim.Native.Nat.{ℕ, suc, ◌≤◌}
use native.Mathlib.Omega.{arith}
use lib.Bits.{bit_or}
use lib.IntN.{ℤ, pos, ◌*ℤ◌}
use lib.Signed.{◌<ℤ◌, lt_z}
use Rattle.whole.proofs.Comparisons.{same_test}
use Rattle.whole.specs.Choice.{when◌then◌else◌}
use Rattle.whole.proofs.Certificates.{gt_by, eq, po, ◌⊞◌, ◌⊠◌}
use Rattle.whole.proofs.Expressions.{var, con, ◌⊕◌, ◌⊗◌}
use Rattle.whole.proofs.Order.{zarith}
use Rattle.fraction.specs.declared.Fraction.{Fraction}
use Rattle.grid.specs.declared.Stroke.{Stroke}
use Rattle.grid.specs.declared.Window.{Window}
use Rattle.grid.specs.Sides.{Side, left, right, bottom, top, place_of, side_at}
use Rattle.grid.proofs.Refusals.{done_or_refused}
use Rattle.spans.specs.Parts.{zeroth, unit}
use Rattle.strokes.specs.Strokes.{stroke_call_refusal}
use Rattle.strokes.proofs.Unique.{one_stroke_answer}
use Rattle.codes.specs.Codes.{past, code, decision}
use Rattle.codes.specs.Laws.{OneCountedAnswer, NeverMoreThanFour, EnginesAgree}
use Rattle.codes.specs.Steps.{decided, OnLine, Shortening, start, end, Run, kept, lost, shorten}
use Rattle.codes.proofs.Crossings.{side_of, place_small}
use Rattle.codes.proofs.Decided.{start_beyond, end_beyond}
use Rattle.codes.proofs.Forms.{form, same_fraction, slope, base, beyond_form, form_beyond, on_form}
use Rattle.codes.proofs.Sides.{open_sides, open-≤, shut}
use Rattle.codes.proofs.Shortenings.{Ordered, first_ordered, shortened_ordered, shortened_falls}

-- ---- at most four
module _ {w : Window} {s : Stroke} where
  run_few : {f g : Fraction} {n : ℕ} → Ordered f g → Run w s f g n → n ≤ open_sides (shut w s f g)
  run_few o (kept e) = omega arith
  run_few o (lost e) = omega arith
  run_few o (shorten t r) = omega (arith, run_few (shortened_ordered o t) r, shortened_falls o t)

  whole_run_few : {n : ℕ} → Run w s zeroth unit n → n ≤ 4
  whole_run_few r = omega (arith, run_few first_ordered r, open-≤ (shut w s zeroth unit))

-- ---- two fractions of one value
record Same (f g : Fraction) : Type 0 where
  den : pos 0 <ℤ f.den
  other : pos 0 <ℤ g.den
  same : f.num *ℤ g.den ≡ g.num *ℤ f.den

turned : {f g : Fraction} → Same f g → Same g f
turned h = record { den = h.other; other = h.den; same = sym h.same }

itself : {f : Fraction} → pos 0 <ℤ f.den → Same f f
itself h = record { den = h; other = h; same = refl }

positive : (u v : ℤ) {f g : Fraction} → Same f g → pos 0 <ℤ form u v f → pos 0 <ℤ form u v g
positive u v {f} {g} h p =
    gt_by (u ∷ v ∷ f.num ∷ f.den ∷ g.num ∷ g.den ∷ []) (po (var 3) h.den) (con (pos 0)) (var 0 ⊗ var 4 ⊕ var 1 ⊗ var 5)
    (po (var 5) h.other ⊠ po (var 0 ⊗ var 2 ⊕ var 1 ⊗ var 3) p ⊞ eq (var 0) (var 4 ⊗ var 3) (var 2 ⊗ var 5) (sym h.same)) tt

module _ (w : Window) (s : Stroke) where
  past_positive : (k : Side) {f g : Fraction} → Same f g → pos 0 <ℤ past w s k f → pos 0 <ℤ past w s k g
  past_positive k {f} {g} h p = form_beyond w s k g (positive (slope w s k) (base w s k) h (beyond_form w s k f p))

  beyond_same : (k : Side) {f g : Fraction} → Same f g → lt_z (pos 0) (past w s k f) ≡ lt_z (pos 0) (past w s k g)
  beyond_same k {f} {g} h = same_test (past_positive k h) (past_positive k (turned h))

  code_same : {f g : Fraction} → Same f g → code w s f ≡ code w s g
  unfolding code
  code_same h = λ i. bit_or (bit_or (when beyond_same left h i then 1 else 0) (when beyond_same right h i then 2 else 0))
      (bit_or (when beyond_same bottom h i then 4 else 0) (when beyond_same top h i then 8 else 0))

  decided_same : {f g f' g' : Fraction} → Same f f' → Same g g' → decided w s f g ≡ decided w s f' g'
  decided_same p q = λ i. decision (code_same p i) (code_same q i)

-- ---- a side's number tells the side
same_side : {j k : Side} → place_of j ≡ place_of k → j ≡ k
same_side {j} {k} e = sym (side_of j) ∙ ap side_at e ∙ side_of k

-- ---- one run
module _ {w : Window} {s : Stroke} where
  decides_more : {f g f' g' : Fraction} → Shortening w s f g f' g' → 2 ≤ decided w s f g
  decides_more (start k e on) = omega arith
  decides_more (end k e on) = omega arith

  meets_once : (k : Side) (x : Fraction) {c c' : Fraction} → pos 0 <ℤ past w s k x → OnLine w s k c → OnLine w s k c' → Same c c'
  meets_once k x {c} {c'} beyond p q = record {
    den = p.den;
    other = q.den;
    same = same_fraction (slope w s k) (base w s k) x c c' (beyond_form w s k x beyond) (on_form w s k c p.on) (on_form w s k c' q.on);
  }

  shortened_same : {f g f' g' a b a' b' : Fraction} → Same f f' → Same g g' → Shortening w s f g a b → Shortening w s f' g' a' b' → Same a a' × Same b b'
  shortened_same {f} {g} p q (start k e on) (start {h = c} k' e' on') =
      let d = decided_same w s p q in
      let i : k' ≡ k = same_side (omega arith) in
      (meets_once k f (start_beyond w s f g k e).0 on (subst (λ (j : Side). OnLine w s j c) i on'), q)
  shortened_same {f} {g} p q (end k e on) (end {h = c} k' e' on') =
      let d = decided_same w s p q in
      let i : k' ≡ k = same_side (omega arith) in
      (p, meets_once k g (end_beyond w s f g k e).1 on (subst (λ (j : Side). OnLine w s j c) i on'))
  shortened_same p q (start k e on) (end k' e' on') = absurd (omega (arith, decided_same w s p q, place_small k))
  shortened_same p q (end k e on) (start k' e' on') = absurd (omega (arith, decided_same w s p q, place_small k'))

  run_same : {f g f' g' : Fraction} {m n : ℕ} → Same f f' → Same g g' → Run w s f g m → Run w s f' g' n → m ≡ n
  run_same p q (shorten t r) (shorten t' r') = let h = shortened_same p q t t' in ap suc (run_same h.0 h.1 r r')
  run_same p q (shorten t r) (kept e) = absurd (omega (arith, decided_same w s p q, decides_more t))
  run_same p q (shorten t r) (lost e) = absurd (omega (arith, decided_same w s p q, decides_more t))
  run_same p q (kept e) (shorten t r) = absurd (omega (arith, decided_same w s p q, decides_more t))
  run_same p q (lost e) (shorten t r) = absurd (omega (arith, decided_same w s p q, decides_more t))
  run_same p q (kept e) (kept e') = refl
  run_same p q (kept e) (lost e') = refl
  run_same p q (lost e) (kept e') = refl
  run_same p q (lost e) (lost e') = refl

  pub run_unique : {m n : ℕ} → Run w s zeroth unit m → Run w s zeroth unit n → m ≡ n
  run_unique p q = run_same (itself (omega zarith)) (itself (omega zarith)) p q

-- ---- the laws of the call
pub one_counted_answer : OneCountedAnswer
one_counted_answer w s a b p q =
    let answer = one_stroke_answer w s a.answer b.answer p.clipping q.clipping in
    let count = done_or_refused (stroke_call_refusal w s)
    (λ z. run_unique (p.done z) (q.done z)) (λ n. p.refused n ∙ sym (q.refused n)) in
    λ i. record { answer = answer i; shortenings = count i }

pub never_more_than_four : NeverMoreThanFour
never_more_than_four w s r p =
    done_or_refused (stroke_call_refusal w s) (λ z. whole_run_few (p.done z)) (λ n. omega (arith, p.refused n))

pub engines_agree : EnginesAgree
engines_agree w s r a p q = one_stroke_answer w s r.answer a p.clipping q
