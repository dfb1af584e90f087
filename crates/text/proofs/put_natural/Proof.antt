-- `text::put_natural` meets its contract: the digits are those that `io` writes, and a u64 has at most 20. Assumes nothing.
use mathlib.Core.Path.{◌∙◌, subst}
use Prim.Native.Nat.{◌≤◌, ◌<◌, ◌^◌}
use native.Mathlib.Nat.{lt_of_lt_of_le}
use native.Mathlib.Omega.{arith}
use lib.Dec.{lit<, lit≤}
use Rattle.text.specs.Pages.{Put}
use Rattle.text.proofs.Numbers.{enough, natural_is}
use borrow.Author.Rules.{rules}
use Rattle.text.proofs.put_natural.Statement.{statement}
use Rattle.text.proofs.put_natural.Tie as tie

decimal-requires : tie.Need-decimal-count-requires
decimal-requires c κs = search rules

array-share-prefix-digits : tie.Need-slice_bounds-digits-end
array-share-prefix-digits c = search rules

slice-aggregate-put : tie.Need-slice_bounds-put-end
slice-aggregate-put c = search rules

below : (c : tie.Start) → c.args.n < 10 ^ 20
below c = lt_of_lt_of_le c.ranges.n.fits (lit≤ tt)

few : (c : tie.After-decimal-count) → c.decimal-count.result ≤ 20
few c = enough 10 1 20 (lit< tt) (lit≤ tt) (below c.before.before.before) c.decimal-count.ensures.1.0

put-requires : tie.Need-put-requires
put-requires c κs = omega (arith, few c.before.before, c.before.before.decimal-count.ensures.0.1)

same_length : tie.Need-shape_of-page
same_length c = search rules

returns : tie.Need-returns
returns c =
    let d = c.before.before.before.before.before in
    let p = c.before.before.put.ensures in (
      subst (Put _ _ _ _) (d.decimal-count.ensures.1.1.0 ∙ natural_is (below d.before.before.before) d.decimal-count.ensures.1.0) p,
      omega (arith, few d, d.decimal-count.ensures.0.1, p.ends),
    )

pub put_natural_spec : {M : Type 1} → statement M
put_natural_spec =
    tie.close
    (tie.spec
    decimal-requires
    array-share-prefix-digits
    slice-aggregate-put
    put-requires
    same_length
    returns)
