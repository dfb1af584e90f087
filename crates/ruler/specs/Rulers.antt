-- The ruler below a picture. Its unit is a hundredth of a grid step, and 3200 of them are a millimetre; e is the longer side of the view in steps.
--   bar_length e   how long the bar is: 6 to 64 hundredths of the longer side
--   bar_words l    the words for a bar that is l long
--   bar l e       the bar, l long and e high: five dark parts of ten. In it one unit is its length, and the other its height
--   ruler e       the bar, and the words below it, where the unit is e
use Rattle.std.specs.Prelude.{List, ◌++◌, ℕ, eqb, ltb}
use Rattle.whole.specs.Choice.{when◌then◌else◌}
use Rattle.text.specs.Pages.{ascii}
use Rattle.marks.specs.Marks.{labelled, labelled_pair}

unfoldable pub bar_length : ℕ → ℕ
bar_length e = when ltb e 5 then 32 else when ltb e 50 then 320 else when ltb e 500 then 3200 else when ltb e 5000 then 32000 else 320000

unfoldable pub bar_words : ℕ → List ℕ
bar_words l =
    when eqb l 32 then ascii "0.01 mm"
    else when eqb l 320 then ascii "0.1 mm"
    else when eqb l 3200 then ascii "1 mm"
    else when eqb l 32000 then ascii "10 mm"
    else ascii "100 mm"

unfoldable pub bar : ℕ → ℕ → List ℕ
bar l e =
    labelled_pair (ascii "<g transform=\"scale(") l e (ascii ")")
    ++ ascii "\">\n<path fill=\"#c9d4d8\" d=\"M0 0h1v1h-1z\"/>\n<path fill=\"#1d2f38\" d=\"M0 0h.1v1h-.1z"
    ++ ascii "m.2 0h.1v1h-.1zm.2 0h.1v1h-.1zm.2 0h.1v1h-.1zm.2 0h.1v1h-.1z\"/>\n</g>\n"

unfoldable pub ruler : ℕ → List ℕ
ruler e =
    bar (bar_length e) e ++ labelled (ascii "<g font-size=\"3\" fill=\"#1d2f38\" transform=\"scale(") e (ascii ")")
    ++ ascii "\">\n<text y=\"5\">" ++ bar_words (bar_length e)
