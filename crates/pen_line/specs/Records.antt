-- What becomes of a line of text: its record on the page, or why it is not taken.
--   drawing_room page        how many bytes a drawing may have in the page: all but the four that count them
--   Ordered b n             a record with the first byte b may follow n bytes: the strip's and no other comes first
--   LineAdds l n room bs    the line l is taken after n bytes, in a page that has room for so many, and bs are the
--                           bytes that it adds
--   LineRefused l n room f  the line l is not taken there, and f says why
--   LineTaken l before after at r   the promise of `take_words`, and for what a line says that of `take_line`: what l
--                           adds is put into the page, or r says why it is not taken. A drawing starts at the place 4
use Rattle.std.specs.Prelude.{◌≡◌, Result, Ok, Err, List, [], ◌∷◌, ℕ, ◌+◌, ◌-◌, ◌*◌, ◌<◌, ◌≤◌, length}
use Rattle.text.specs.Pages.{Put}
use Rattle.pen_line.specs.Lines.{word, end_of, NoNumerals, Asks, Record}
use Rattle.pen_line.specs.declared.Fault.{Fault}
use Rattle.pen_line.specs.declared.Fault.TheVariants.{NoStrip, SecondStrip, UnknownWord, NotNumbers, LongDrawing}

abbrev pub drawing_room : List ℕ → ℕ
drawing_room page = length page - 4

abbrev pub Ordered : ℕ → ℕ → Type 0
Ordered b n = (b ≡ 1 → n ≡ 0) × (n ≡ 0 → b ≡ 1)

-- A record is added only where it may follow and has room, so that no line is both taken and refused.
pub data LineAdds (l : List ℕ) (n room : ℕ) : List ℕ → Type 0 where
  blank : word l 0 ≡ [] → LineAdds l n room []
  its_record : {b : ℕ} {bs : List ℕ} → Record l b bs → Ordered b n → n + length (b ∷ bs) ≤ room
      → LineAdds l n room (b ∷ bs)

-- In the order in which a line is judged, by its word, its place, its room and its numbers: each case excludes those
-- before it, so that only one applies.
pub data LineRefused (l : List ℕ) (n room : ℕ) : Fault → Type 0 where
  unknown : (word l 0 ≡ [] → ⊥) → ((b k : ℕ) → Asks (word l 0) b k → ⊥) → LineRefused l n room UnknownWord
  second_strip : Asks (word l 0) 1 4 → (n ≡ 0 → ⊥) → LineRefused l n room SecondStrip
  no_strip : {b k : ℕ} → Asks (word l 0) b k → (b ≡ 1 → ⊥) → n ≡ 0 → LineRefused l n room NoStrip
  long_drawing : {b k : ℕ} → Asks (word l 0) b k → Ordered b n → room < n + 1 + k * 4 → LineRefused l n room LongDrawing
  not_numbers : {b k : ℕ} → Asks (word l 0) b k → Ordered b n → n + 1 + k * 4 ≤ room → NoNumerals l (end_of l 0) k
      → LineRefused l n room (NotNumbers k)

-- A page in which a line was refused is not read again, so nothing is said of it.
pub data LineTaken (l before after : List ℕ) (at : ℕ) : Result ℕ Fault → Type 0 where
  taken : {end : ℕ} {bs : List ℕ} → LineAdds l (at - 4) (drawing_room before) bs → Put before after at end bs
      → LineTaken l before after at (Ok end)
  refused : {f : Fault} → LineRefused l (at - 4) (drawing_room before) f → LineTaken l before after at (Err f)
