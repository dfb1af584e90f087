-- What a reply says.
--   Field                      a field of a reply: a whole number, or an f32 by its bits
--   plain n                    the field of a natural number;  flag b: 1 for true, 0 for false
--   Fields                     fields in their order: none, or some and one more
--   with_window fs w            fs and the four numbers of a window
--   answer_fields a             N P W of a call that gives numbers
--   field_of f                  the field that is written as f
--   first_fields n fs           the first n fields of those that are written as fs
--   said r                     what the reply r says: its fields
--   Says r n fs room           the reply r says fs, which are n fields, and behind them come so many numbers of the
--                              lent output
--   Tells Right fields room r  the same of a call's answer: of one that is right, the reply says the fields
--   Replies Asks Answers r     r is the reply to a line: what it asks for is answered, and where it asks for nothing,
--                              there is none
use Rattle.std.specs.Prelude.{◌≡◌, ℕ, zero, suc, Bool, List, Option, None, Some, ℤ, pos, neg_ℤ, get_or}
use Rattle.grid.specs.declared.Answer.{Answer}
use Rattle.grid.specs.declared.Window.{Window}
use Rattle.whole.specs.Choice.{when◌then◌else◌}
use Rattle.replies.specs.declared.Field as Written
use Rattle.replies.specs.declared.Field.TheVariants.{Plain, Minus, Bits}
use Rattle.replies.specs.declared.Reply.{Reply}

pub data Field : Type 0 where
  number : ℤ → Field
  float : ℕ → Field

abbrev pub plain : ℕ → Field
plain n = number (pos n)

abbrev pub flag : Bool → Field
flag b = plain (when b then 1 else 0)

infixl 30 ◌and◌
pub data Fields : Type 0 where
  none : Fields
  ◌and◌ : Fields → Field → Fields

abbrev pub with_window : Fields → Window → Fields
with_window fs w = fs and number w.left and number w.bottom and number w.right and number w.top

abbrev pub answer_fields : Answer → Fields
answer_fields a = none and plain a.number and plain a.place and plain a.count

unfoldable pub field_of : Written.Field → Field
field_of (Plain n) = plain n
field_of (Minus n) = number (neg_ℤ (pos n))
field_of (Bits n) = float n

unfoldable pub first_fields : ℕ → List Written.Field → Fields
first_fields zero fs = none
first_fields (suc n) fs = first_fields n fs and field_of (get_or fs n (Plain 0))

unfoldable pub said : Reply → Fields
said r = first_fields r.count r.fields

pub record Says (r : Reply) (n : ℕ) (fs : Fields) (room : ℕ) : Type 0 where
  pub count : r.count ≡ n
  pub fields : said r ≡ fs
  pub behind : r.room ≡ room

-- ---- the reply to a line

pub record Tells {A : Type 0} (Right : A → Type 0) (fields : A → Fields) (room : ℕ) (r : Reply) : Type 0 where
  pub answer : A
  pub right : Right answer
  pub says : said r ≡ fields answer
  pub behind : r.room ≡ room

pub data Replies {X : Type 0} (Asks : X → Type 0) (Answers : X → Reply → Type 0) : Option Reply → Type 0 where
  to_call : {r : Reply} (x : X) → Asks x → Answers x r → Replies Asks Answers (Some r)
  to_none : ((x : X) → Asks x → ⊥) → Replies Asks Answers None
