-- What a line of the bookkeeper's text orders.
--   place_after l n       the place in the line l where its first n words end
--   word_after l n        the word that follows the first n words of l; it is empty where l has no more
--   Over l n             nothing but spaces follows the first n words of l
--   IsWhole w z          the word w is the whole number z, one that an i32 holds
--   IsLength w x         the word w is a decimal number, and x is the f32 nearest to it
--   BookWords l r s      after the first word of l come the renter r and the left, bottom, right and top of the strip s, and no more
--   ReleaseWords l r k   after the first word of l come the renter r and the slot k, and no more
--   StripsWords l r      after the first word of l comes the renter r, and no more
--   Unknown w            the word w is no command
--   Orders l o           the promise of `read`, for what a line says: the line l orders o, or o is an error that says whose words are wrong
use Rattle.std.specs.Prelude.{◌≡◌, List, [], ℕ, zero, suc, ℤ, Float, Some, Result, Ok, Err, length}
use Rattle.std.specs.Float.{binary32}
use Rattle.std.specs.Float.Ieee.{of_bits}
use Rattle.text.specs.Pages.{ascii}
use Rattle.words.specs.Words.{numeral, as_integer}
use Rattle.decimal.specs.Decimals.{Reads}
use Rattle.intake.specs.declared.WindowMm.{WindowMm}
use Rattle.pen_line.specs.Lines.{start_of, end_of, word}
use Rattle.orders.specs.declared.Fault.{Fault}
use Rattle.orders.specs.declared.Order.{Order}

-- ---- words

abbrev pub place_after : List ℕ → ℕ → ℕ
place_after l zero = 0
place_after l (suc n) = end_of l (place_after l n)

abbrev pub word_after : List ℕ → ℕ → List ℕ
word_after l n = word l (place_after l n)

abbrev pub Over : List ℕ → ℕ → Type 0
Over l n = start_of l (place_after l n) ≡ length l

abbrev pub IsWhole : List ℕ → ℤ → Type 0
IsWhole w z = as_integer (numeral w) ≡ Some z

pub data IsLength (w : List ℕ) : Float → Type 0 where
  nearest : {bits : ℕ} → Reads w (Some bits) → IsLength w (of_bits binary32 bits)

-- ---- what follows a command

pub record BookWords (l : List ℕ) (renter : ℤ) (strip : WindowMm) : Type 0 where
  pub by : IsWhole (word_after l 1) renter
  pub left : IsLength (word_after l 2) strip.left
  pub bottom : IsLength (word_after l 3) strip.bottom
  pub right : IsLength (word_after l 4) strip.right
  pub top : IsLength (word_after l 5) strip.top
  pub over : Over l 6

pub record ReleaseWords (l : List ℕ) (renter slot : ℤ) : Type 0 where
  pub by : IsWhole (word_after l 1) renter
  pub which : IsWhole (word_after l 2) slot
  pub over : Over l 3

pub record StripsWords (l : List ℕ) (renter : ℤ) : Type 0 where
  pub by : IsWhole (word_after l 1) renter
  pub over : Over l 2

-- ---- lines

pub record Unknown (w : List ℕ) : Type 0 where
  pub not_book : w ≡ ascii "book" → ⊥
  pub not_release : w ≡ ascii "release" → ⊥
  pub not_strips : w ≡ ascii "strips" → ⊥
  pub not_show : w ≡ ascii "show" → ⊥

-- The first word says which cases there are: a command has two, that its words follow or that they do not.
pub data Orders (l : List ℕ) : Result Order Fault → Type 0 where
  blank : word_after l 0 ≡ [] → Orders l (Ok Order.Blank)
  unknown : (word_after l 0 ≡ [] → ⊥) → Unknown (word_after l 0) → Orders l (Err Fault.Word)
  book : {r : ℤ} {s : WindowMm} → word_after l 0 ≡ ascii "book" → BookWords l r s → Orders l (Ok (Order.Book r s))
  no_book : word_after l 0 ≡ ascii "book" → ((r : ℤ) (s : WindowMm) → BookWords l r s → ⊥) → Orders l (Err Fault.Book)
  release : {r k : ℤ} → word_after l 0 ≡ ascii "release" → ReleaseWords l r k → Orders l (Ok (Order.Release r k))
  no_release : word_after l 0 ≡ ascii "release" → ((r k : ℤ) → ReleaseWords l r k → ⊥) → Orders l (Err Fault.Release)
  strips : {r : ℤ} → word_after l 0 ≡ ascii "strips" → StripsWords l r → Orders l (Ok (Order.Strips r))
  no_strips : word_after l 0 ≡ ascii "strips" → ((r : ℤ) → StripsWords l r → ⊥) → Orders l (Err Fault.Strips)
  show : word_after l 0 ≡ ascii "show" → Over l 1 → Orders l (Ok Order.Show)
  no_show : word_after l 0 ≡ ascii "show" → (Over l 1 → ⊥) → Orders l (Err Fault.Show)
