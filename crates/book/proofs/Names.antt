-- A word with ".new" put behind it is a new file's name.
use mathlib.Core.Path.{◌≡◌, ap, ◌∙◌}
use mathlib.Core.List.{List}
use Prim.Native.Nat.{ℕ}
use native.Mathlib.Omega.{arith}
use lib.ListN.{length, take, drop, length-append}
use lib.Seq.{drop_at, length-take-le}
use Rattle.text.specs.Pages.{Put, ascii}
use Rattle.storing.specs.Storing.{IsNewName}

pub new_name : {a b c word : List ℕ} {middle end : ℕ} (long : ℕ) → long ≡ length word → Put a b 0 middle word → Put b c middle end (ascii ".new")
    → IsNewName (take end c) long
new_name {a} {b} {c} {word} {middle} {end} long e p q =
    let front : length (take middle b) ≡ long = length-take-le middle b p.fits ∙ (omega (arith, p.ends)) in
    record {
      size = ap length q.text ∙ length-append (take middle b) (ascii ".new") ∙ (omega (arith, front));
      end = ap (drop long) q.text ∙ drop_at (take middle b) (ascii ".new") long front;
    }
