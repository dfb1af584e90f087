-- How a reply is written on its line.
--   bits_text n                   an f32's bits as eight hexadecimal digits
--   field_text f                  a field: a number, a minus and a number, or an f32's bits
--   parted_text i f               the field i of a reply, with a space before it unless it is the first
--   fields_text n fs              the first n of the fields fs, parted by spaces
--   lent_text xs                  numbers of the lent output, a space before each
--   lent_line xs                  the same, and the newline
--   reply_line r lent             the line of the reply r, with as many numbers of the lent output behind its fields as r says;
--                                a question mark where there is none
use Rattle.std.specs.Prelude.{List, [], ◌∷◌, ◌++◌, ℕ, zero, suc, ℤ, Option, None, Some, get_or, take}
use Rattle.io.specs.Digits as Io
use Rattle.replies.specs.declared.Field.{Field}
use Rattle.replies.specs.declared.Field.TheVariants.{Plain, Minus, Bits}
use Rattle.replies.specs.declared.Reply.{Reply}
use Rattle.text.specs.Pages.{ascii, natural, integer}

unfoldable pub bits_text : ℕ → List ℕ
bits_text n = Io.last_digits 16 8 n

unfoldable pub field_text : Field → List ℕ
field_text (Plain n) = natural n
field_text (Minus n) = 45 ∷ natural n
field_text (Bits n) = bits_text n

unfoldable pub parted_text : ℕ → Field → List ℕ
parted_text zero f = field_text f
parted_text (suc i) f = 32 ∷ field_text f

unfoldable pub fields_text : ℕ → List Field → List ℕ
fields_text zero fs = []
fields_text (suc n) fs = fields_text n fs ++ parted_text n (get_or fs n (Plain 0))

unfoldable pub lent_text : List ℤ → List ℕ
lent_text [] = []
lent_text (z ∷ zs) = (32 ∷ integer z) ++ lent_text zs

unfoldable pub lent_line : List ℤ → List ℕ
lent_line zs = lent_text zs ++ ascii "\n"

unfoldable pub reply_line : Option Reply → List ℤ → List ℕ
reply_line None lent = ascii "?\n"
reply_line (Some r) lent = fields_text r.count (take r.count r.fields) ++ lent_line (take r.room lent)
