-- A long division on a page: what is put and the decimals that are left to put make all of them.
use mathlib.Core.Path.{◌≡◌, refl, sym, ap, ◌∙◌, subst}
use mathlib.Core.List.{List, [], ◌++◌, append_assoc, append-nil}
use Prim.Native.Nat.{ℕ, zero, suc, ◌+◌, ◌*◌, ◌/◌, ◌%◌, ◌≤◌}
use native.Mathlib.Numerals.{add-one}
use lib.ListN.{length}
use borrow.Author.Tests.{eq-eqb, ne_eqb}
use Rattle.text.specs.Pages.{Put, natural}
use Rattle.text.proofs.Puts.{put_nothing, put_then}
use Rattle.measures.specs.Measures.{decimals}

pub record Dividing (part : ℕ) (before after : List ℕ) (at end left more : ℕ) : Type 0 where
  pub word : List ℕ
  pub put : Put before after at end word
  pub all : word ++ decimals more left ≡ decimals 5 part

pub dividing_start : (part : ℕ) (page : List ℕ) {at : ℕ} → at ≤ length page → Dividing part page page at at part 5
dividing_start part page h = record { word = []; put = put_nothing page h; all = refl }

module _ {part : ℕ} {before after : List ℕ} {at end left more : ℕ} (d : Dividing part before after at end left more) where
  pub dividing_on : (k : ℕ) {next : List ℕ} {to : ℕ} → more ≡ k + 1 → (left ≡ 0 → ⊥) → Put after next end to (natural (left * 10 / 32))
      → Dividing part before next at to (left * 10 % 32) k
  unfolding decimals
  dividing_on k {next} {to} e h p =
      let s : decimals more left ≡ natural (left * 10 / 32) ++ decimals k (left * 10 % 32) = rw (e, add-one, ne_eqb left 0 h) in
      record { word = d.word ++ natural (left * 10 / 32); put = put_then d.put p; all = rw append_assoc (rw s at d.all) }

  all_put : decimals more left ≡ [] → Put before after at end (decimals 5 part)
  all_put e = subst (Put before after at end) (sym (append-nil d.word) ∙ ap (λ (t : List ℕ). d.word ++ t) (sym e) ∙ d.all) d.put

  pub nothing_left : left ≡ 0 → Put before after at end (decimals 5 part)
  unfolding decimals
  nothing_left e = all_put (none more)
    where
      none : (k : ℕ) → decimals k left ≡ []
      none zero = refl
      none (suc k) = rw (eq-eqb left 0 e)

  pub none_more : more ≡ 0 → Put before after at end (decimals 5 part)
  unfolding decimals
  none_more e = all_put (rw e)
