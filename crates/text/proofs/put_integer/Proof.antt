-- `text::put_integer` meets its contract: the digits of a number below 0 stand after its minus. Assumes nothing.
use mathlib.Core.Path.{◌≡◌, ◌∙◌}
use native.Mathlib.Omega.{arith}
use lib.IntN.{nat_abs}
use lib.ListN.{length-set}
use mir.Facts.{to_z-of_z}
use Rattle.text.proofs.Numbers.{positive, negative}
use borrow.Author.Rules.{rules}
use Rattle.text.proofs.put_integer.Statement.{statement}
use Rattle.text.proofs.put_integer.Tie as tie

size-requires : tie.Need-size-size-requires
size-requires c κs = search rules

size_is : (c : tie.After-size-size) → c.size-size.result ≡ nat_abs c.before.before.args.z
size_is c = simp (to_z-of_z c.before.before.ranges.z) at c.size-size.ensures

slice-write-page : tie.Need-bounds-page-at
slice-write-page c = search rules

add-put-natural : tie.Need-overflow_add-at
add-put-natural c = search rules

put-natural-requires : tie.Need-put_natural-requires
put-natural-requires c κs = simp length-set (omega arith)

same_length : tie.Need-shape_of-page-then-z-lt0
same_length c = c.before.before.put_natural.ensures.0.same ∙ simp length-set

returns : tie.Need-returns-then-z-lt0
returns c =
    let s = c.before.before.before.before.before.before.before in
    let p = c.before.before.put_natural.ensures in (
      negative s.args.z (simp (to_z-of_z s.ranges.z) at c.before.before.before.before.if-z-lt0.true) (size_is c.before.before.before.before.before)
          (omega arith) p.0,
      omega (arith, p.1),
    )

put-natural-requires-2 : tie.Need-put_natural-requires-2
put-natural-requires-2 c κs = search rules

same-length-2 : tie.Need-shape_of-page
same-length-2 c = search rules

returns-2 : tie.Need-returns
returns-2 c =
    let s = c.before.before.before.before.before.before.before in
    let p = c.before.before.put_natural-2.ensures in (
      positive s.args.z (simp (to_z-of_z s.ranges.z) at c.before.before.before.before.if-z-lt0.false) (size_is c.before.before.before.before.before)
          p.0,
      omega (arith, p.1),
    )

pub put_integer_spec : {M : Type 1} → statement M
put_integer_spec =
    tie.close
    (tie.spec
    size-requires
    slice-write-page
    add-put-natural
    put-natural-requires
    same_length
    returns
    put-natural-requires-2
    same-length-2
    returns-2)
