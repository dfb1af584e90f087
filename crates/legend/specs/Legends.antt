-- The legend of a sheet: a line for each of the two renters, beside the sample of his colours. Its unit is a hundredth of the table's width, and it
-- begins where the samples do, 6 of them below the table.
--   strip_word n       the word for n strips, and the end of the line that it stands in
--   legend_line r n    the line for renter r, who has n strips: 2.6 below the top of his sample, so that it stands in its middle
--   legend n m        both lines: renter 0 has n strips, and renter 1 has m
use Rattle.std.specs.Prelude.{List, ◌++◌, ℕ, ◌+◌, ◌*◌, eqb}
use Rattle.whole.specs.Choice.{when◌then◌else◌}
use Rattle.text.specs.Pages.{ascii}
use Rattle.marks.specs.Marks.{labelled}
use Rattle.measures.specs.Measures.{thousandths}

unfoldable pub strip_word : ℕ → List ℕ
strip_word n = when eqb n 1 then ascii "strip</text>\n" else ascii "strips</text>\n"

unfoldable pub legend_line : ℕ → ℕ → List ℕ
legend_line r n =
    ascii "<text x=\"69\" y=\"" ++ thousandths (2600 + 4500 * r) (ascii "\"") ++ labelled (ascii ">renter ") r (ascii ":")
    ++ labelled (ascii " ") n (ascii " ") ++ strip_word n

unfoldable pub legend : ℕ → ℕ → List ℕ
legend n m = legend_line 0 n ++ legend_line 1 m
