-- The line that is found by its number is the one at which the text ended: both count the line ends before it.
use mathlib.Core.Path.{◌≡◌, refl, sym, ap, ◌∙◌}
use mathlib.Core.List.{List}
use Prim.Native.Nat.{ℕ, zero, suc, ◌+◌, ◌-◌}
use native.Mathlib.Omega.{arith}
use lib.ListN.{take, drop}
use lib.Seq.{drop-drop}
use Rattle.text.specs.Runs.{run, is_not}
use Rattle.pen_line.specs.Lines.{spoken}
use Rattle.slips.specs.Texts.{from, line_after}
use Rattle.pen.specs.Texts.{line_end, Told, start, next}
use Rattle.pen.specs.Laws.{SameLine}
use Rattle.pen.proofs.Drawings.{from_one}

-- one line more, taken from the end
one_more : (n : ℕ) (t : List ℕ) → from (suc n) t ≡ drop (run (is_not 10) (from n t) + 1) (from n t)
unfolding from
one_more zero t = refl
one_more (suc n) t = one_more n (drop (run (is_not 10) t + 1) t)

starts_there : {t : List ℕ} {room : ℕ} {bs : List ℕ} {n i : ℕ} → Told t room n i bs → from (n - 1) t ≡ drop i t
unfolding from
starts_there start = refl
starts_there {t} (next {n = n} {i = i} p w a) =
    let k : n + 1 - 1 ≡ suc (n - 1) = omega (arith, from_one p) in
    let e : i + (run (is_not 10) (drop i t) + 1) ≡ line_end t i + 1 = omega arith in
    ap (λ (m : ℕ). from m t) k ∙ one_more (n - 1) t
    ∙ ap (λ (u : List ℕ). drop (run (is_not 10) u + 1) u) (starts_there p)
    ∙ drop-drop _ i t ∙ ap (λ (m : ℕ). drop m t) e

pub same_line : SameLine
unfolding line_after
same_line t bs room n i p =
    let long : line_end t i - i ≡ run (is_not 10) (drop i t) = omega arith in
    ap (λ (m : ℕ). spoken (take m (drop i t))) long
    ∙ ap (λ (u : List ℕ). spoken (take (run (is_not 10) u) u)) (sym (starts_there p))
