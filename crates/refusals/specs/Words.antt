-- What each refusal means, in a sentence.
--   sentence n         the sentence for the number n
--   sentence_from12 n   the sentence for a number n from 12 on; apart, because the code has a function of its own for these
--   refusal_words n p   the line that tells of a refusal: its number, its place and its meaning
use Rattle.std.specs.Prelude.{List, ◌++◌, ℕ, eqb}
use Rattle.whole.specs.Choice.{when◌then◌else◌}
use Rattle.text.specs.Pages.{ascii, refusal}

unfoldable pub sentence_from12 : ℕ → List ℕ
sentence_from12 n =
    when eqb n 16 then ascii "the strip shares area with one in the book"
    else when eqb n 17 then ascii "none of the renter's slots is free for the strip"
    else when eqb n 18 then ascii "the slot to release is not one of the renter's slots in use"
    else when eqb n 19 then ascii "there is no such renter: they are 0 and 1"
    else when eqb n 23 then ascii "not a strip book, or damaged"
    else ascii "unknown refusal"

unfoldable pub sentence : ℕ → List ℕ
sentence n =
    when eqb n 0 then ascii "done"
    else when eqb n 2 then ascii "a number of the window is off the table"
    else when eqb n 3 then ascii "the window has no area, or its corners are not a strictly convex ring"
    else when eqb n 4 then ascii "there is no such side order: they are 0 to 23"
    else when eqb n 5 then ascii "the list has a wrong length"
    else when eqb n 6 then ascii "a grid number is off the table"
    else when eqb n 7 then ascii "the outline is not strictly convex counterclockwise"
    else when eqb n 8 then ascii "the output is too short: the place says how many numbers it needs"
    else when eqb n 9 then ascii "a number of millimetres is not a number"
    else when eqb n 10 then ascii "a number of millimetres is infinite or off the table"
    else when eqb n 11 then ascii "not a drawing file, or damaged"
    else sentence_from12 n

unfoldable pub refusal_words : ℕ → ℕ → List ℕ
refusal_words n p = (refusal n p ++ ascii ":") ++ ascii " " ++ sentence n ++ ascii "\n"
