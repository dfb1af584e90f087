-- What a listing refuses, by its tests in their order.
use mathlib.Core.Path.{◌≡◌}
use mathlib.Core.Bool.{true, false}
use mathlib.Core.List.{List}
use lib.IntN.{ℤ}
use Rattle.grid.specs.Refusals.{first, refuse}
use Rattle.slots.specs.Slots.{is_book}
use Rattle.strip_book.specs.Books.{unknown_renter, no_book, renter_refusal, table_refusal}
use Rattle.strip_book.specs.Renters.{is_renter}
use Rattle.own_strips.specs.OwnStrips.{listing_refusal}

module _ (renter : ℤ) (zs : List ℤ) where
  pub refuses_renter : is_renter renter ≡ false → listing_refusal renter zs ≡ refuse unknown_renter 0
  unfolding listing_refusal renter_refusal first
  refuses_renter e = rw e

  module _ (known : is_renter renter ≡ true) where
    pub refuses_table : is_book zs ≡ false → listing_refusal renter zs ≡ refuse no_book 0
    unfolding listing_refusal renter_refusal table_refusal first
    refuses_table e = rw (known, e)

    pub lists : is_book zs ≡ true → (listing_refusal renter zs).number ≡ 0
    unfolding listing_refusal renter_refusal table_refusal first
    lists e = rw (known, e)
