-- The numbers of the strokes in a picture. Their unit is half a grid step, in which a middle is a whole number; e is the longer side of the view v.
--   middle s a b        how far the middle of a and b is from the side s of the view, which neither is beyond
--   beside k            the number k and its side: above its place to the right if it is even, below it to the left if it is odd, so that two
--                       strokes that cross in their middles can both be read
--   number_text x y k    the number k at a place, x to the right and y down
--   label v zs k        the number of stroke k of the list zs, counted from 0 as in a listing, at the stroke's middle
--   label_texts v zs n   the numbers of the first n strokes
--   label_place v        where they stand: as the drawing, but not turned over, and e / 2 hundredths of a step to the right and upward, beside their
--                       strokes; they are 40 thousandths of e high, since some viewers have a largest font
--   labels v zs n       the numbers of n strokes, if they are at most 30: first with a white border, which parts them from lines, then over it
use Rattle.std.specs.Prelude.{List, [], ◌++◌, ℕ, zero, suc, ◌+◌, ◌-◌, ◌*◌, ◌/◌, ◌%◌, eqb, ltb, ℤ, pos, get_or}
use Rattle.whole.specs.Choice.{when◌then◌else◌}
use Rattle.grid.specs.declared.Window.{Window}
use Rattle.text.specs.Pages.{ascii}
use Rattle.marks.specs.Marks.{labelled, labelled_pair}
use Rattle.measures.specs.Measures.{thousandths}
use Rattle.view.specs.Views.{apart, width, extent}

unfoldable pub middle : ℤ → ℤ → ℤ → ℕ
middle side a b = apart side a + apart side b

unfoldable pub beside : ℕ → List ℕ
beside k =
    when eqb (k % 2) 0 then labelled (ascii ">") k (ascii "<") else labelled (ascii " dx=\"-.5em\" dy=\"1.25em\" text-anchor=\"end\">") k (ascii "<")

unfoldable pub number_text : ℕ → ℕ → ℕ → List ℕ
number_text x y k =
    labelled (ascii "<text x=\"") x (ascii "\"") ++ labelled (ascii " y=\"") y (ascii "\"") ++ beside k ++ ascii "/text>\n"

unfoldable pub label : Window → List ℤ → ℕ → List ℕ
label v zs k =
    number_text (middle v.left (get_or zs (k * 4) (pos 0)) (get_or zs (k * 4 + 2) (pos 0)))
    (middle v.top (get_or zs (k * 4 + 1) (pos 0)) (get_or zs (k * 4 + 3) (pos 0))) k

unfoldable pub label_texts : Window → List ℤ → ℕ → List ℕ
label_texts v zs zero = []
label_texts v zs (suc n) = label_texts v zs n ++ label v zs n

unfoldable pub label_place : Window → List ℕ
label_place v =
    ascii "<g fill=\"#5c4a2e\" font-size=\"" ++ thousandths (40 * extent v) (ascii "\"")
    ++ labelled_pair (ascii " transform=\"translate(") (56 * extent v - 50 * width v + extent v / 2) (6 * extent v - extent v / 2) (ascii ")")
    ++ ascii "scale(50)\">\n<g stroke=\"white\" stroke-width=\".3em\" stroke-linejoin=\"round\">\n"

unfoldable pub labels : Window → List ℤ → ℕ → List ℕ
labels v zs n =
    when ltb 30 n then [] else label_place v ++ label_texts v zs n ++ ascii "</g>\n" ++ label_texts v zs n ++ ascii "</g>\n"
