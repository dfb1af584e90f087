-- Laws of what is put into a page: nothing, a byte more, and one word after another.
use mathlib.Core.Path.{◌≡◌, refl, sym, ap, ap₂, ◌∙◌, subst}
use mathlib.Core.List.{List, [], ◌∷◌, ◌++◌, append_assoc, append-nil}
use Prim.Native.Nat.{ℕ, ◌+◌, ◌<◌, ◌≤◌}
use native.Mathlib.Numerals.{add-one}
use native.Mathlib.Omega.{arith}
use lib.ListN.{length, take, drop, set, length-set, length-append, length-drop, take-append-drop}
use lib.Seq.{take-suc-set, take-add, drop_at, drop-drop, drop-set-lt, length-take-le}
use borrow.Rule.Slice.PartMut.{put_mid}
use Rattle.std.proofs.lemmas.Slice.{take-put_mid, drop-put_mid}
use Rattle.text.specs.Pages.{Put}

pub put_nothing : (page : List ℕ) {at : ℕ} → at ≤ length page → Put page page at at []
put_nothing page h = record { text = sym (append-nil _); rest = refl; ends = omega arith; fits = h; same = refl }

-- what is the same from a place on is so from a later one
later : (a b : List ℕ) (i k n : ℕ) → i + n ≡ k → drop i a ≡ drop i b → drop k a ≡ drop k b
later a b i k n e h = ap (λ (x : ℕ). drop x a) (sym e) ∙ sym (drop-drop n i a) ∙ ap (drop n) h ∙ drop-drop n i b ∙ ap (λ (x : ℕ). drop x b) e

pub put_byte : {before after word : List ℕ} {at end : ℕ} (b : ℕ) → end < length after → Put before after at end word
    → Put before (set after end b) at (end + 1) (word ++ b ∷ [])
put_byte {before} {after} {word} {at} {end} b h p =
    record {
      text = rw add-one (take-suc-set after end b h ∙ ap (λ (x : List ℕ). x ++ b ∷ []) p.text ∙ append_assoc (take at before) word (b ∷ []));
      rest = drop-set-lt (end + 1) after end b (omega arith) ∙ later after before end (end + 1) 1 refl p.rest;
      ends = omega (arith, p.ends, length-append word (b ∷ []));
      fits = omega (arith, length-set after end b);
      same = length-set after end b ∙ p.same;
    }

-- the place where it ends may be written in another way
pub put_to : {before after word : List ℕ} {at end : ℕ} (to : ℕ) → end ≡ to → Put before after at end word → Put before after at to word
put_to {before} {after} {word} {at} to e p = subst (λ (n : ℕ). Put before after at n word) e p

pub put_then : {a b c u v : List ℕ} {i j k : ℕ} → Put a b i j u → Put b c j k v → Put a c i k (u ++ v)
put_then {a} {b} {c} {u} {v} {i} {j} {k} p q =
    record {
      text = q.text ∙ ap (λ (x : List ℕ). x ++ v) p.text ∙ append_assoc (take i a) u v;
      rest = q.rest ∙ later b a j k (length v) (sym q.ends) p.rest;
      ends = omega (arith, p.ends, q.ends, length-append u v);
      fits = q.fits;
      same = q.same ∙ p.same;
    }

-- a word that was copied into a part of the page
pub put_copied : (page word : List ℕ) {part : List ℕ} (at k : ℕ) → part ≡ word → k ≡ length word → at + length word ≤ length page
    → Put page (put_mid at k page part) at (at + length word) word
put_copied page word {part} at k e l h =
    let end = at + length word in
    let after = put_mid at k page part in
    let long : length part ≡ length word = ap length e in
    let text : take end after ≡ take at page ++ word = take-put_mid at k page part end (omega arith) (omega arith) ∙ ap (λ (x : List ℕ). take at page ++ x) e in
    let rest : drop end after ≡ drop end page = drop-put_mid at k page part end (omega arith) (omega arith) (omega arith) in
    let same : length after ≡ length page =
    ap length (sym (take-append-drop end after)) ∙ length-append (take end after) (drop end after)
    ∙ omega (arith, ap length text, ap length rest, length-append (take at page) word, length-take-le at page (omega arith), length-drop end page) in
    record { text = text; rest = rest; ends = refl; fits = omega arith; same = same }

-- put up to a place from which another word stands already
pub put_in_front : {a b c u v : List ℕ} {i j : ℕ} → Put a b i j u → Put b c 0 i v → take j c ≡ v ++ u
put_in_front {a} {b} {c} {u} {v} {i} {j} p q =
    let e : i + length u ≡ j = sym p.ends in
    let ia : i ≤ length a = omega (arith, p.ends, p.fits, p.same) in
    let ib : i ≤ length b = omega (arith, p.ends, p.fits) in
    let kept : take (length u) (drop i b) ≡ u =
    sym (drop_at (take i b) (take (length u) (drop i b)) i (length-take-le i b ib))
    ∙ ap (drop i) (sym (take-add i (length u) b) ∙ ap (λ (x : ℕ). take x b) e ∙ p.text)
    ∙ drop_at (take i a) u i (length-take-le i a ia) in
    ap (λ (x : ℕ). take x c) (sym e) ∙ take-add i (length u) c ∙ ap₂ ◌++◌ q.text (ap (take (length u)) q.rest ∙ kept)

-- a page, a place and a word leave one page
pub put_unique : {before after after' word : List ℕ} {at end end' : ℕ} → Put before after at end word
    → Put before after' at end' word → (end ≡ end') × (after ≡ after')
put_unique {before} {after} {after'} {end = end} p q =
    let e = p.ends ∙ sym q.ends in
    let front = p.text ∙ sym q.text ∙ ap (λ (x : ℕ). take x after') (sym e) in
    let back = p.rest ∙ ap (λ (x : ℕ). drop x before) e ∙ sym q.rest ∙ ap (λ (x : ℕ). drop x after') (sym e) in
    (e, sym (take-append-drop end after) ∙ ap₂ ◌++◌ front back ∙ take-append-drop end after')
