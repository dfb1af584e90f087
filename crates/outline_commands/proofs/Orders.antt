-- The side order is the first argument, and the list stands behind it.
use mathlib.Core.Path.{◌≡◌, subst}
use mathlib.Core.List.{List}
use Prim.Native.Nat.{ℕ}
use native.Mathlib.Omega.{arith}
use lib.IntN.{ℤ}
use Rattle.std.specs.Prelude.{Option, None, Some}
use Rattle.words.specs.Words.{numeral, unsigned}
use Rattle.arguments.specs.Arguments.{first_word, behind_first}
use Rattle.lending.specs.Lent.{ReadList}
use Rattle.lending.specs.declared.Listed.{Listed}

pub no_order : (text : List ℕ) (n : ℕ) → unsigned 0xffff_ffff (numeral (first_word text)) ≡ None → unsigned 0xffff_ffff (numeral (first_word text)) ≡ Some n → ⊥
no_order text n e h = let z : ◌≡◌ {A = ℕ} 0 1 = cc in omega arith

pub list_behind : (text behind : List ℕ) (out : List ℤ) (r : Option Listed) → behind ≡ behind_first text → ReadList behind out r → ReadList (behind_first text) out r
list_behind text behind out r e h = subst (λ (t : List ℕ). ReadList t out r) e h
