-- The book as it would be kept on paper: a leaf for each renter, and on it a list of strips, each with its number. A bookkeeper keeps it in the
-- order of the numbers, since then the first that is missing is seen where two neighbours do not follow each other.
--   Entry                 a strip and its number;  entry n w: the entry of the strip w with the number n
--   strips es             the strips of the entries es
--   RisingFrom n es       the entries es are in the order of their numbers: each is greater than the one before it, and the first is n or more
--   first_missing n es     the first number from n on that no entry has, where the entries are in the order of their numbers, all from n on
--   entered n w es        es and the strip w with the number n, in the order of the numbers
--   has z es              an entry has the number z
--   struck_out z es        es without the entry of the number z; just es, where there is none
--   entries_listed es      of each entry its number, then its strip's four numbers
--   Paper                 the two leaves;  blank_paper: with nothing on them
--   leaf renter p         the renter's own leaf; an empty list, where there is no such renter
--   on_leaf renter es p    the paper with es on the renter's leaf; just p, where there is no such renter
--   refusal_to_book renter w p   why the strip w is not entered: 19, 2, 3, 17 where the renter has 32, 16 where one on either leaf shares area with w
--   answer_booking renter w p   what one who books w is told: the first missing number of the renter's leaf, or the refusal
--   after_booking renter w p    the paper afterwards
--   refusal_to_release renter z p   why nothing is struck out: 19, then 18 where no entry of the renter's leaf has the number z
--   answer_release renter z p   what one who releases z is told;  after_release renter z p: the paper afterwards
use Rattle.std.specs.Prelude.{Bool, List, [], ◌∷◌, ◌++◌, map, ℕ, suc, ◌≤◌, eqb, ltb, ℤ, pos, length}
use Rattle.whole.specs.Choice.{when◌then◌else◌}
use Rattle.grid.specs.Refusals.{first, none, refuse, window_refusal}
use Rattle.grid.specs.Table.{sides}
use Rattle.grid.specs.declared.Refusal.{Refusal}
use Rattle.grid.specs.declared.Window.{Window}
use Rattle.racks.specs.Areas.{shares_area}
use Rattle.racks.specs.Members.{any}
use Rattle.slots.specs.Slots.{number_is}
use Rattle.strip_book.specs.Books.{renter_refusal, half_full, strip_taken, slot_not_in_use, refused_booking, booked_in, release_answer}
use Rattle.strip_book.specs.declared.BookingAnswer.{BookingAnswer}
use Rattle.strip_book.specs.declared.ReleaseAnswer.{ReleaseAnswer}

pub record Entry : Type 0 where
  pub number : ℕ
  pub strip : Window

abbrev pub entry : ℕ → Window → Entry
entry n w = record { number = n; strip = w }

abbrev pub strips : List Entry → List Window
strips = map (λ (e : Entry). e.strip)

pub data RisingFrom : ℕ → List Entry → Type 0 where
  no_entry : {n : ℕ} → RisingFrom n []
  an_entry : {n : ℕ} {e : Entry} {es : List Entry} → n ≤ e.number → RisingFrom (suc e.number) es → RisingFrom n (e ∷ es)

unfoldable pub first_missing : ℕ → List Entry → ℕ
first_missing n [] = n
first_missing n (e ∷ es) = when eqb e.number n then first_missing (suc n) es else n

unfoldable pub entered : ℕ → Window → List Entry → List Entry
entered n w [] = entry n w ∷ []
entered n w (e ∷ es) = when ltb e.number n then e ∷ entered n w es else entry n w ∷ e ∷ es

abbrev pub has : ℤ → List Entry → Bool
has z = any (λ (e : Entry). number_is e.number z)

unfoldable pub struck_out : ℤ → List Entry → List Entry
struck_out z [] = []
struck_out z (e ∷ es) = when number_is e.number z then es else e ∷ struck_out z es

unfoldable pub entries_listed : List Entry → List ℤ
entries_listed [] = []
entries_listed (e ∷ es) = pos e.number ∷ sides e.strip ++ entries_listed es

-- ---- the two leaves

pub record Paper : Type 0 where
  pub zero's : List Entry
  pub one's : List Entry

abbrev pub blank_paper : Paper
blank_paper = record { zero's = []; one's = [] }

unfoldable pub leaf : ℤ → Paper → List Entry
leaf renter p = when number_is 0 renter then p.zero's else when number_is 1 renter then p.one's else []

unfoldable pub on_leaf : ℤ → List Entry → Paper → Paper
on_leaf renter es p =
    when number_is 0 renter then record { zero's = es; one's = p.one's }
    else when number_is 1 renter then record { zero's = p.zero's; one's = es } else p

-- ---- one who books

unfoldable pub refusal_to_book : ℤ → Window → Paper → Refusal
refusal_to_book renter w p =
    let full = when eqb (length (leaf renter p)) 32 then refuse half_full 0 else none in
    let shared = when any (shares_area w) (strips (p.zero's ++ p.one's)) then refuse strip_taken 0 else none in
    first (renter_refusal renter ∷ window_refusal w ∷ full ∷ shared ∷ [])

unfoldable pub answer_booking : ℤ → Window → Paper → BookingAnswer
answer_booking renter w p =
    let r = refusal_to_book renter w p in
    when eqb r.number 0 then booked_in (first_missing 0 (leaf renter p)) else refused_booking r

unfoldable pub after_booking : ℤ → Window → Paper → Paper
after_booking renter w p =
    let own = leaf renter p in
    when eqb (refusal_to_book renter w p).number 0 then on_leaf renter (entered (first_missing 0 own) w own) p else p

-- ---- one who releases

unfoldable pub refusal_to_release : ℤ → ℤ → Paper → Refusal
refusal_to_release renter z p = first (renter_refusal renter ∷ (when has z (leaf renter p) then none else refuse slot_not_in_use 0) ∷ [])

unfoldable pub answer_release : ℤ → ℤ → Paper → ReleaseAnswer
answer_release renter z p = release_answer (refusal_to_release renter z p)

unfoldable pub after_release : ℤ → ℤ → Paper → Paper
after_release renter z p = on_leaf renter (struck_out z (leaf renter p)) p
