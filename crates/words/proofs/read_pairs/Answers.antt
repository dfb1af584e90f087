-- The bytes are those that stand in the output and those of the text that is left.
use mathlib.Core.List.{List}
use mathlib.Core.Path.{◌≡◌, subst, ap, ◌∙◌}
use Prim.Native.Nat.{ℕ, ◌+◌, ◌*◌, ◌/◌, ◌<◌, ◌≤◌}
use native.Mathlib.Omega.{arith}
use lib.ListN.{length, get_or, take, drop, set, drop_of_length-le}
use Rattle.words.specs.Digits.{digit_of}
use Rattle.words.specs.Words.{pairs}
use Rattle.words.proofs.Lists.{after, one_more, all_read, no_list}
use Rattle.words.proofs.Pairs.{pair_more, high_none, low_none, pairs_long}
use Rattle.words.proofs.read_pairs.Goals as goal
use Rattle.words.proofs.read_pairs.Goals.{then-text-ne0-via-then-text-ne0, then-text-ne0-via-else-text-ne0+then-out-count}

pub returns-then-text-ne0 : goal.returns-then-text-ne0
returns-then-text-ne0 c = λ xs e.
    elim c.then-text-ne0.branch [
      | then-text-ne0-via-then-text-ne0 w ↦ omega (arith, pairs_long _ xs e)
      | then-text-ne0-via-else-text-ne0+then-out-count w ↦ omega (arith, pairs_long _ xs e)
    ]

pub returns-in_err-high : goal.returns-in_err-high
returns-in_err-high c = let l = c.loop-i in
    rw c.from_residual.ensures
    (no_list _ l.out (l.invariant ∙ ap (after (take l.i l.out)) (high_none _ (2 * l.i) (omega arith) c.in_err-high.ensures)))

pub returns-in_err-low : goal.returns-in_err-low
returns-in_err-low c = let l = c.loop-i in
    rw c.from_residual-in_err-low.ensures
    (no_list _ l.out (l.invariant ∙ ap (after (take l.i l.out))
    (low_none _ (2 * l.i) (omega arith) (subst (λ (d : ℕ). d < 16) c.in_ok-high.ensures.0 c.in_ok-high.ensures.1) c.in_err-low.ensures)))

-- a byte more is read
turn : (text out : List ℕ) (i high low : ℕ) → i < length out → 2 * i + 2 ≤ length text → pairs text ≡ after (take i out) (pairs (drop (2 * i) text))
    → (high ≡ digit_of (get_or text (2 * i) 0)) × (high < 16) → (low ≡ digit_of (get_or text (2 * i + 1) 0)) × (low < 16)
    → pairs text ≡ after (take (i + 1) (set out i (high * 16 + low))) (pairs (drop (2 * (i + 1)) text))
turn text out i high low h k e a b =
    let next : 2 * (i + 1) ≡ 2 * i + 2 = omega arith in
    rw (next, a.0, b.0)
    (e ∙ ap (after (take i out)) (pair_more text (2 * i) k (subst (λ (d : ℕ). d < 16) a.0 a.1) (subst (λ (d : ℕ). d < 16) b.0 b.1))
    ∙ one_more out i _ _ h)

pub loop-i-preserved : goal.loop-i-preserved
loop-i-preserved c = let l = c.loop-i in
    turn c.args.text.now l.out l.i _ _ (omega arith) (omega arith) l.invariant c.in_ok-high.ensures c.in_ok-low.ensures

pub returns : goal.returns
unfolding pairs
returns c = let l = c.loop-i in let w = c.args.text.now in
    let same : l.i ≡ length w / 2 = omega arith in
    let none_left : length w ≤ 2 * (length w / 2) = omega arith in
    let e = rw same at l.invariant in
    all_read _ l.out (length w / 2) (omega arith) (e ∙ ap (λ r. after (take (length w / 2) l.out) (pairs r)) (drop_of_length-le w none_left))
