-- What the replies to batch and touches say.
--   BatchLine touches most text after r   r is the reply to the text after the word, with `after` in the output, where the list has M numbers and
--                                 M + 5 is at most `most`. `touches` is false for the word batch, and true for the word touches
use Rattle.std.specs.Prelude.{Bool, List, ℕ, ℤ, Option, take}
use Rattle.lending.specs.Lent.{AsksList, Lends}
use Rattle.batch.specs.Batches.{RowsCall}
use Rattle.replies.specs.Replies.{answer_fields, Tells, Replies}
use Rattle.replies.specs.declared.Reply.{Reply}

abbrev pub BatchLine : Bool → ℕ → List ℕ → List ℤ → Option Reply → Type 0
BatchLine touches most text after =
    Replies (AsksList most text)
    (λ x. Tells (λ a. Lends (RowsCall touches x.window x.list a) (take x.room after)) answer_fields x.room)
