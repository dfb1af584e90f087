-- A walk along the lines of a text: one line more, the line that is looked for, and the end of the text before it.
use mathlib.Core.Path.{◌≡◌, refl, sym, ap, ◌∙◌}
use mathlib.Core.List.{List, []}
use Prim.Native.Nat.{ℕ, zero, suc, ◌+◌, ◌-◌, ◌<◌, ◌≤◌}
use native.Mathlib.Omega.{arith}
use lib.ListN.{length, take, drop, drop_of_length-le}
use lib.Seq.{drop-drop}
use Rattle.text.specs.Runs.{run, is_not}
use Rattle.slips.specs.Texts.{from, line_after}

-- nothing has no lines
none_from : (n : ℕ) → from n [] ≡ []
unfolding from run
none_from zero = refl
none_from (suc n) = none_from n

one_on : (u : List ℕ) (n : ℕ) → 0 < n → line_after n u ≡ line_after (n - 1) (drop (run (is_not 10) u + 1) u)
unfolding line_after from
one_on u zero h = absurd (omega arith)
one_on u (suc n) h = let e : suc n - 1 ≡ n = omega arith in rw e refl

none_after : (n : ℕ) → line_after n [] ≡ []
unfolding line_after run
none_after n = rw (none_from n) refl

-- from the place i the line ends at the place e
module _ (t : List ℕ) (i : ℕ) {e : ℕ} (p : e ≡ i + run (is_not 10) (drop i t)) {whole : List ℕ} {n : ℕ} (q : whole ≡ line_after n (drop i t)) where
  pub passed : 0 < n → whole ≡ line_after (n - 1) (drop (e + 1) t)
  passed h =
      let s : i + (run (is_not 10) (drop i t) + 1) ≡ e + 1 = omega arith in
      q ∙ one_on _ n h ∙ ap (line_after (n - 1)) (drop-drop _ i t ∙ ap (λ (k : ℕ). drop k t) s)

  pub too_few : 0 < n → e ≡ length t → take (length t - e) (drop e t) ≡ whole
  too_few h z =
      let past : length t ≤ e + 1 = omega arith in
      let here : length t - e ≡ 0 = omega arith in
      ap (λ (k : ℕ). take k (drop e t)) here ∙ sym (passed h ∙ ap (line_after (n - 1)) (drop_of_length-le t past) ∙ none_after (n - 1))

  pub found : n ≤ 0 → take (e - i) (drop i t) ≡ whole
  unfolding line_after from
  found h =
      let z : n ≡ 0 = omega arith in
      let s : e - i ≡ run (is_not 10) (drop i t) = omega arith in
      ap (λ (k : ℕ). take k (drop i t)) s ∙ sym (q ∙ ap (λ (k : ℕ). line_after k (drop i t)) z)
