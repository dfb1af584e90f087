-- Cutting as a function, so that worked examples compute: each case is a law of Cutting. And all conditions of a window, one after the other.
use mathlib.Core.Path.{◌≡◌, refl, sym, subst, subst₂}
use mathlib.Core.List.{List, [], ◌∷◌, ◌++◌, append_assoc, append-nil}
use Prim.Native.Nat.{ℕ, suc, ◌≤◌}
use native.Mathlib.Omega.{arith}
use lib.IntN.{ℤ, pos, ◌-ℤ◌, ◌*ℤ◌}
use lib.ListN.{length, length-append}
use lib.Signed.{lt_z}
use Rattle.whole.specs.Choice.{when◌then◌else◌}
use Rattle.whole.specs.Within.{Within}
use Rattle.whole.proofs.Comparisons.{by-test, lt_yes, lt_no}
use Rattle.whole.proofs.Order.{zarith}
use Rattle.rings.specs.Lists.{All, ∅, ◌◂◌}
use Rattle.spans.specs.Sides.{Condition}
use Rattle.spans.specs.Spans.{ProperSpan, whole_span, SidedCut, KeptBy}
use Rattle.spans.specs.declared.SidedSpan.{SidedSpan}
use Rattle.spans.proofs.Cutting.{comes_sooner, leaves_later, untouched}
use Rattle.spans.proofs.SidedCuts.{kept_by_none, kept_by_more, sided_as_before, sided_in, sided_never, sided_out}

unfoldable pub cut_by : ℤ → ℤ → ℕ → SidedSpan → SidedSpan
cut_by p q k s =
    when lt_z q (pos 0)
    then (when lt_z p (pos 0)
    then (when lt_z (s.span.first.num *ℤ (pos 0 -ℤ p)) ((pos 0 -ℤ q) *ℤ s.span.first.den) then record {
      span = record { first = record { num = pos 0 -ℤ q; den = pos 0 -ℤ p }; last = s.span.last };
      side0 = k;
      side1 = s.side1;
    } else s)
    else record {
      span = record { first = record { num = pos 1; den = pos 1 }; last = record { num = pos 0; den = pos 1 } };
      side0 = s.side0;
      side1 = s.side1;
    })
    else (when lt_z q p then (when lt_z (q *ℤ s.span.last.den) (s.span.last.num *ℤ p) then record {
      span = record { first = s.span.first; last = record { num = q; den = p } };
      side0 = s.side0;
      side1 = k;
    } else s) else s)

cut_by_is : (p q : ℤ) (k : ℕ) (s : SidedSpan) → ProperSpan s.span → SidedCut p q k s (cut_by p q k s)
unfolding cut_by
cut_by_is p q k s g =
    by-test (lt_z q (pos 0)) C
    (λ a. let hq = lt_yes refl refl a in
    by-test (lt_z p (pos 0)) C
    (λ b. let hp = lt_yes refl refl b in
    by-test (lt_z (s.span.first.num *ℤ (pos 0 -ℤ p)) ((pos 0 -ℤ q) *ℤ s.span.first.den)) C
    (λ c. sided_in g hq hp (lt_yes refl refl c))
    (λ c. sided_as_before (comes_sooner p q s.span g hp (lt_no refl refl c))))
    (λ b. sided_never g hq (lt_no refl refl b)))
    (λ a. let hq = lt_no refl refl a in
    by-test (lt_z q p) C
    (λ b. let hp = lt_yes refl refl b in
    by-test (lt_z (q *ℤ s.span.last.den) (s.span.last.num *ℤ p)) C
    (λ c. sided_out g hq hp (lt_yes refl refl c))
    (λ c. sided_as_before (leaves_later p q s.span g (omega zarith) (lt_no refl refl c))))
    (λ b. sided_as_before (untouched p q s.span g hq (lt_no refl refl b))))
  where
    C : SidedSpan → Type 0
    C r = SidedCut p q k s r

-- ---- by the conditions cs, of which the first has the number k
unfoldable pub cut_from : ℕ → List Condition → SidedSpan → SidedSpan
cut_from k [] s = s
cut_from k (c ∷ cs) s = cut_from (suc k) cs (cut_by c.p c.q k s)

unfoldable pub kept_of : List Condition → SidedSpan
kept_of cs = cut_from 0 cs whole_span

module _ {A : ℕ} (one : 1 ≤ A) where
  cut_from_is : (done : List Condition) {cs : List Condition} {s : SidedSpan} → All (λ (c : Condition). Within A c.p × Within A c.q) cs
      → KeptBy A done s → KeptBy A (done ++ cs) (cut_from (length done) cs s)
  unfolding cut_from
  cut_from_is done {s = s} ∅ g = subst (λ (cs : List Condition). KeptBy A cs s) (sym (append-nil done)) g
  cut_from_is done {cs = c ∷ cs} {s = s} (w ◂ ws) g =
      let m = cut_from_is (done ++ c ∷ []) ws (kept_by_more g (cut_by_is c.p c.q (length done) s g.span.proper) one w.0 w.1) in
      let n : length (done ++ c ∷ []) ≡ suc (length done) = omega (arith, length-append done (c ∷ [])) in
      subst₂ (λ (ds : List Condition) (k : ℕ). KeptBy A ds (cut_from k cs (cut_by c.p c.q (length done) s))) (append_assoc done (c ∷ []) cs) n m

  pub kept_of_is : (cs : List Condition) → All (λ (c : Condition). Within A c.p × Within A c.q) cs → KeptBy A cs (kept_of cs)
  unfolding kept_of
  kept_of_is cs w = cut_from_is [] w (kept_by_none one)
