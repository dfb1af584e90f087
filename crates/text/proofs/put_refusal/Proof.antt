-- `text::put_refusal` meets its contract: four pieces, one after the other. Assumes nothing.
use mathlib.Core.Path.{◌≡◌, subst}
use mathlib.Core.List.{List, [], ◌∷◌, ◌++◌, append_assoc}
use Prim.Native.Nat.{ℕ}
use native.Mathlib.Omega.{arith}
use Rattle.text.specs.Pages.{Put, ascii, natural}
use Rattle.text.proofs.Puts.{put_then}
use borrow.Author.Rules.{rules}
use Rattle.text.proofs.put_refusal.Statement.{statement}
use Rattle.text.proofs.put_refusal.Tie as tie

put-requires : tie.Need-put-a-requires
put-requires c κs = search rules

put-count-requires : tie.Need-put_count-b-requires
put-count-requires c κs = search rules

put-requires-2 : tie.Need-put-c-requires
put-requires-2 c κs = search rules

put-count-requires-2 : tie.Need-put_count-requires
put-count-requires-2 c κs = search rules

same_length : tie.Need-shape_of-page
same_length c = search rules

words : (n p : List ℕ) (b : ℕ) → ascii "refused " ++ ((n ++ 32 ∷ []) ++ (ascii "place " ++ (p ++ b ∷ []))) ≡ (ascii "refused " ++ (n ++ ascii " place " ++ p)) ++ b ∷ []
words n p b = simp append_assoc

returns : tie.Need-returns
returns c =
    let third = c.before.before.before.before.before.before in
    let second = third.before.before.before.before.before in
    let first = second.before.before.before.before in
    let a = first.before.before.before.before.args in
    let p = first.put-a.ensures in
    let q = second.put_count-b.ensures in
    let r = third.put-c.ensures in
    let s = c.before.before.put_count.ensures in (
      subst (Put _ _ _ _) (words (natural a.number) (natural a.place) a.last) (put_then p (put_then q.0 (put_then r s.0))),
      omega (arith, p.ends, q.1, r.ends, s.1),
    )

pub put_refusal_spec : {M : Type 1} → statement M
put_refusal_spec =
    tie.close
    (tie.spec
    put-requires
    put-count-requires
    put-requires-2
    put-count-requires-2
    same_length
    returns)
