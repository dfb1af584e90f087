-- The numbers of a line M c1 .. cM x1 y1 x2 y2: M stands first, the stroke last, and between them the corners.
use mathlib.Core.Path.{◌≡◌, refl, sym, ap, ◌∙◌}
use mathlib.Core.List.{List, [], ◌∷◌, ◌++◌}
use Rattle.std.specs.Prelude.{None, Some}
use Prim.Native.Nat.{ℕ, suc, ◌+◌, ◌-◌, ◌≤◌, ◌<◌}
use native.Mathlib.Numerals.{add-one}
use native.Mathlib.Nat.{add-zero}
use native.Mathlib.Omega.{arith}
use lib.IntN.{ℤ, pos}
use lib.ListN.{length, take, drop, get_or, length-append, length-drop}
use lib.Seq.{take-add, length-take-le, get_or-take, get_or-drop}
use Rattle.grid.specs.Table.{ends, stroke_at}
use Rattle.arguments.specs.Arguments.{Numbers}
use Rattle.stroke_commands.specs.Lines.{CornerArguments, AsksCorners}

four : (zs : List ℤ) → 4 ≤ length zs → take 4 zs ≡ ends (stroke_at zs 0)
four [] h = absurd (omega arith)
four (a ∷ []) h = absurd (omega arith)
four (a ∷ b ∷ []) h = absurd (omega arith)
four (a ∷ b ∷ c ∷ []) h = absurd (omega arith)
four (a ∷ b ∷ c ∷ d ∷ zs) h = refl

stroke_behind : (zs : List ℤ) (p : ℕ) → p + 4 ≤ length zs → take 4 (drop p zs) ≡ ends (stroke_at zs p)
stroke_behind zs p h = four (drop p zs) (simp length-drop (omega arith)) ∙ simp (get_or-drop, add-zero)

-- m corners between their count and a stroke
cut : (m : ℕ) (zs : List ℤ) → m + 5 ≤ length zs → take (m + 5) zs ≡ get_or zs 0 (pos 0) ∷
    (take m (drop 1 zs) ++ ends (stroke_at zs (m + 1)))
cut m [] h = absurd (omega arith)
cut m (z ∷ zs) h =
    let five : m + 5 ≡ suc (m + 4) = omega arith in
    let behind : take 4 (drop (m + 1) (z ∷ zs)) ≡ ends (stroke_at (z ∷ zs) (m + 1)) = stroke_behind (z ∷ zs) (m + 1)
    (omega arith) in
    rw five (ap (λ l. z ∷ l)
    (take-add m 4 zs ∙ ap (λ l. take m zs ++ l) (ap (λ k. take 4 (drop k (z ∷ zs))) (sym (add-one m)) ∙ behind)))

module _ (text : List ℕ) (out : List ℤ) (places : length out ≡ 69) where
  pub no_numbers : Numbers text out None → (c : CornerArguments) → AsksCorners text c → ⊥
  no_numbers read c a =
      let long = read _ a.numbers in
      absurd (omega (arith, simp length-append at long, a.few))

module _ (text : List ℕ) (out : List ℤ) (n : ℕ) (read : Numbers text out (Some n)) (places : length out ≡ 69) where
  -- the numbers of a line that asks for corners are those that were read
  same_numbers : (c : CornerArguments) → AsksCorners text c → pos (length c.corners) ∷ c.corners ++ ends c.stroke ≡ take n out
  same_numbers c a = let e = sym a.numbers ∙ read.1 in cc

  -- five numbers are the fewest
  pub too_few : n < 5 → (c : CornerArguments) → AsksCorners text c → ⊥
  too_few h c a =
      let long = ap length (same_numbers c a) in
      omega (arith, length-take-le n out read.0, simp length-append at long)

  pub other_count : (get_or out 0 (pos 0) ≡ pos (n - 5) → ⊥) → (c : CornerArguments) → AsksCorners text c → ⊥
  other_count ne c a =
      let same = same_numbers c a in
      let all = ap length same in
      let long : length c.corners + 5 ≡ n = omega
      (arith, length-take-le n out read.0, simp length-append at all) in
      let front : pos (length c.corners) ≡ get_or out 0 (pos 0) = ap (λ zs. get_or zs 0 (pos 0)) same
      ∙ get_or-take n out 0 (pos 0) (omega arith) in
      ne (sym front ∙ ap pos (omega arith))

  pub asks_corners : 5 ≤ n → get_or out 0 (pos 0) ≡ pos (n - 5) →
      AsksCorners text (record { corners = take (n - 4 - 1) (drop 1 out); stroke = stroke_at out (n - 4) })
  asks_corners h e =
      let m : ℕ = n - 5 in
      let whole : n ≡ m + 5 = omega arith in
      let long : length (take m (drop 1 out)) ≡ m = length-take-le m (drop 1 out)
      (simp length-drop (omega (arith, read.0))) in
      let between : n - 4 - 1 ≡ m = omega arith in
      let behind : n - 4 ≡ m + 1 = omega arith in
      rw (between, behind) record {
        numbers = read.1 ∙ ap Some
            (ap (λ k. take k out) whole ∙ cut m out (omega (arith, read.0))
            ∙ ap (λ z. z ∷ (take m (drop 1 out) ++ ends (stroke_at out (m + 1)))) (e ∙ ap pos (sym long)));
        few = omega (arith, read.0);
      }
