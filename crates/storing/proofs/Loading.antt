-- What is understood as a book is a sound one: a text that is read as one, and no file.
use mathlib.Core.Path.{◌≡◌, subst}
use mathlib.Core.List.{List}
use Prim.Native.Nat.{ℕ}
use lib.IntN.{ℤ}
use lib.ListN.{take}
use Rattle.std.specs.Prelude.{⊤, Option, Result, Ok}
use Rattle.book_text.specs.Texts.{Sound}
use Rattle.book_text.specs.Readings.{ReadsAs}
use Rattle.book_text.proofs.Theorems.{writes_back, sound_empty}
use Rattle.storing.specs.Storing.{Understands, no_file, a_text}

pub understood_sound : {text : List ℕ} {h : Option ℕ} {v : Result ⊤ ℕ} {zs : List ℤ} → v ≡ Ok tt → Understands text h v zs → Sound zs
understood_sound e no_file = sound_empty
understood_sound {text} {h} {v} {zs} e (a_text {count} r) =
    let t = take count text in (writes_back t zs (subst (λ (x : Result ⊤ ℕ). ReadsAs t x zs) e r)).0
