-- What the reply to outline says.
--   outline_fields a     N P W: what the answer says of the ring; the counts of the passes are not said
--   OutlineArguments    what outline asks of: a side order, and a list behind a room and a window
--   AsksOutline text x  the text is ORDER ROOM l b r t M c1 .. cM of x, M at most 256
--   OutlineLine text after r   r is the reply to the text after the word, with `after` in the output
use Rattle.std.specs.Prelude.{◌≡◌, List, ℕ, ℤ, Option, Some, take}
use Rattle.words.specs.Words.{numeral, unsigned}
use Rattle.arguments.specs.Arguments.{first_word, behind_first}
use Rattle.lending.specs.Lent.{ListArguments, AsksList, Lends}
use Rattle.outlines.specs.Outlines.{Outline}
use Rattle.outlines.specs.Laws.{ring_answer}
use Rattle.outlines.specs.declared.OutlineAnswer.{OutlineAnswer}
use Rattle.replies.specs.Replies.{Fields, answer_fields, Tells, Replies}
use Rattle.replies.specs.declared.Reply.{Reply}

abbrev pub outline_fields : OutlineAnswer → Fields
outline_fields a = answer_fields (ring_answer a)

pub record OutlineArguments : Type 0 where
  pub order : ℕ
  pub list : ListArguments

pub record AsksOutline (text : List ℕ) (x : OutlineArguments) : Type 0 where
  pub order : unsigned 0xffff_ffff (numeral (first_word text)) ≡ Some x.order
  pub list : AsksList 261 (behind_first text) x.list

abbrev pub OutlineLine : List ℕ → List ℤ → Option Reply → Type 0
OutlineLine text after =
    Replies (AsksOutline text)
    (λ x. let l = x.list in
    Tells (λ a. Lends (Outline l.window x.order l.list a) (take l.room after)) outline_fields l.room)
