-- What the workers behind the taking of a line promise each other.
--   NumbersPut l i n before after at r   the promise of `put_numbers`: the n numbers that follow the place i of
--                       the line l are put into the page, or are not such
--   AskedBy w r         the promise of `asked_by`: r is the record that the word w asks for, if it asks for one
--   RecordPut l i b n before after at r   the promise of `put_record`: the record with the first byte b and those
--                       numbers is put into the page, or r says why it is not
use Rattle.std.specs.Prelude.{◌≡◌, Option, Some, None, Result, Ok, Err, Bool, true, false, List, ◌∷◌, ℕ, ◌+◌, ◌*◌, ◌<◌, ◌≤◌, length}
use Rattle.text.specs.Pages.{Put}
use Rattle.pen_line.specs.Lines.{start_of, Numerals, NoNumerals, Asks}
use Rattle.pen_line.specs.declared.Asked.{Asked}
use Rattle.pen_line.specs.declared.Fault.{Fault}
use Rattle.pen_line.specs.declared.Fault.TheVariants.{NotNumbers, LongDrawing}

-- Where a word is no number, those before it may stand in the page already, so nothing is said of the page.
pub data NumbersPut (l : List ℕ) (i n : ℕ) (before after : List ℕ) (at : ℕ) : Bool → Type 0 where
  all : {k : ℕ} {bs : List ℕ} → Numerals l i n k bs → start_of l k ≡ length l → Put before after at (at + n * 4) bs
      → NumbersPut l i n before after at true
  not_all : NoNumerals l i n → NumbersPut l i n before after at false

pub data AskedBy (w : List ℕ) : Option Asked → Type 0 where
  known : {b n : ℕ} → Asks w b n → AskedBy w (Some (record { first = b; count = n }))
  unknown : ((b n : ℕ) → Asks w b n → ⊥) → AskedBy w None

-- The room is asked first: without it no number is read.
pub data RecordPut (l : List ℕ) (i b n : ℕ) (before after : List ℕ) (at : ℕ) : Result ℕ Fault → Type 0 where
  put : {k : ℕ} {bs : List ℕ} → Numerals l i n k bs → start_of l k ≡ length l
      → Put before after at (at + 1 + n * 4) (b ∷ bs)
      → RecordPut l i b n before after at (Ok (at + 1 + n * 4))
  long : length before < at + 1 + n * 4 → RecordPut l i b n before after at (Err LongDrawing)
  wrong : at + 1 + n * 4 ≤ length before → NoNumerals l i n → RecordPut l i b n before after at (Err (NotNumbers n))
