-- The index is put after the four numbers, and could as well be put before them.
use lib.Seq.{set_comm}
use mir.Facts.{to_z-of_z}
use Rattle.std.proofs.Common.{◌≡◌, ℕ, ℤ, suc, ◌+◌, List, [], ◌∷◌, ap, ◌∙◌, arith}
use Rattle.std.proofs.lemmas.List.Edits.{sets}
use lib.ListN.{set}
use Rattle.grid.specs.Table.{ends}
use Rattle.batch.proofs.put_whole.Goals as goal

module _ (out : List ℤ) (n : ℕ) (k a b c d : ℤ) where
  abbrev one : List ℤ → List ℤ
  one l = set l (suc n) a

  abbrev two : List ℤ → List ℤ
  two l = set (one l) (suc (suc n)) b

  abbrev three : List ℤ → List ℤ
  three l = set (two l) (suc (suc (suc n))) c

  index_first : set (set (three out) (suc (suc (suc (suc n)))) d) n k ≡ sets out n (k ∷ a ∷ b ∷ c ∷ d ∷ [])
  index_first =
      set_comm (three out) (suc (suc (suc (suc n)))) n d k (λ e. omega (arith, e))
      ∙ ap (λ (l : List ℤ). set l (suc (suc (suc (suc n)))) d)
      (set_comm (two out) (suc (suc (suc n))) n c k (λ e. omega (arith, e))
      ∙ ap (λ (l : List ℤ). set l (suc (suc (suc n))) c)
      (set_comm (one out) (suc (suc n)) n b k (λ e. omega (arith, e))
      ∙ ap (λ (l : List ℤ). set l (suc (suc n)) b) (set_comm out (suc n) n a k (λ e. omega (arith, e)))))

pub returns : goal.returns
returns c =
    let a = c.args in
    let next : a.n + 1 ≡ suc a.n = omega arith in
    (λ i. set (c.put_stroke.ensures i) a.n (to_z-of_z c.ranges.k i))
    ∙ ap (λ (m : ℕ). set (sets a.out.now m (ends a.s)) a.n a.k) next
    ∙ index_first a.out.now a.n a.k a.s.x1 a.s.y1 a.s.x2 a.s.y2
