-- A number that the machine has under another form: it fits, and is read back as itself.
use mathlib.Core.Path.{◌≡◌, sym, ap, ◌∙◌, subst}
use lib.IntN.{ℤ}
use mir.Syntax.{Width}
use mir.Val.{SFits, to_z, of_z}
use mir.Facts.{to_z-of_z}

pub record Reads (w : Width) (m z : ℤ) : Type 0 where
  pub fits : SFits w m
  pub is : to_z w (of_z w m) ≡ z

pub reads : {w : Width} {m z : ℤ} → m ≡ z → SFits w z → Reads w m z
reads {w} e f = record { fits = subst (SFits w) (sym e) f; is = ap (λ (z : ℤ). to_z w (of_z w z)) e ∙ to_z-of_z f }
