-- All strips of a renter as a sheet shows them, in the table's own grid numbers. There are two renters, r = 0 and r = 1.
--   strip_count r zs     how many strips the renter has in the book zs
--   slot_art r zs k      the strip in the renter's slot k, counted from 0 for each of them; nothing where the slot is free
--   slot_arts r zs n     the strips in his first n slots
--   look r              his colours: dark blue with plain lines, or brown on amber with dashed lines, which differ on a grey printer too
--   sample_top r         how far below the middle of the table the sample of his colours begins: about 6 hundredths of the table's width below the
--                       table, and 4.5 hundredths more for renter 1
--   group_start r        the start of the group in which his strips stand, in his colours and with lines 1 mm wide; and in it the sample, which the
--                       legend explains: 62 hundredths of the table's width from its left side, 5 wide and 3 high
--   renter_art r zs      the group: the sample, and the strips of his 32 slots
use Rattle.std.specs.Prelude.{List, [], ◌++◌, ℕ, zero, suc, ◌+◌, ◌*◌, eqb, ℤ, pos, length}
use Rattle.whole.specs.Choice.{when◌then◌else◌}
use Rattle.text.specs.Pages.{ascii}
use Rattle.marks.specs.Marks.{labelled}
use Rattle.slots.specs.Slots.{slot_at, in_use, strips_in}
use Rattle.strip_book.specs.Renters.{first_slot, half}
use Rattle.strip_art.specs.StripArt.{strip_art}

unfoldable pub strip_count : ℕ → List ℤ → ℕ
strip_count r zs = length (strips_in (half (pos r) zs))

unfoldable pub slot_art : ℕ → List ℤ → ℕ → List ℕ
slot_art r zs k = let s = slot_at zs (first_slot (pos r) + k) in when in_use s then strip_art r k s.strip else []

unfoldable pub slot_arts : ℕ → List ℤ → ℕ → List ℕ
slot_arts r zs zero = []
slot_arts r zs (suc n) = slot_arts r zs n ++ slot_art r zs n

unfoldable pub look : ℕ → List ℕ
look r =
    when eqb r 0 then ascii "<g color=\"#14324f\" stroke=\"#14324f\" fill=\"#14324f\""
    else ascii "<g color=\"#8f4300\" stroke=\"#8f4300\" fill=\"#e9a23b\" stroke-dasharray=\"128 96\" stroke-linecap=\"butt\""

abbrev pub sample_top : ℕ → ℕ
sample_top r = 18349 + 1475 * r

unfoldable pub group_start : ℕ → List ℕ
group_start r =
    look r ++ labelled (ascii " fill-opacity=\".3\" stroke-width=\"32\" text-anchor=\"middle\">\n<path d=\"M3932 -") (sample_top r) (ascii "h")
    ++ ascii "1638v-983h-1638z\"/>\n"

unfoldable pub renter_art : ℕ → List ℤ → List ℕ
renter_art r zs = group_start r ++ slot_arts r zs 32 ++ ascii "</g>\n"
