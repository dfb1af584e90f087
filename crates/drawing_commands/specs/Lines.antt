-- What the reply to draw says.
--   drawing_fields a    N P l b r t C
--   DrawArguments      what draw asks of: a room, and a drawing file
--   AsksDrawing most text x     the text is ROOM HEX of x, and the file has at most so many bytes
--   DrawLine most text after r  r is the reply to the text after the word, with `after` in the output
use Rattle.std.specs.Prelude.{◌≡◌, List, ℕ, ◌≤◌, ℤ, Option, Some, length, take, drop}
use Rattle.words.specs.Words.{bytes}
use Rattle.arguments.specs.Arguments.{behind_first}
use Rattle.lending.specs.Lent.{AsksRoom, Lends}
use Rattle.drawing.specs.Drawings.{ReadDrawing}
use Rattle.drawing.specs.declared.DrawingAnswer.{DrawingAnswer}
use Rattle.replies.specs.Replies.{Fields, none, ◌and◌, plain, with_window, Tells, Replies}
use Rattle.replies.specs.declared.Reply.{Reply}

abbrev pub drawing_fields : DrawingAnswer → Fields
drawing_fields a = with_window (none and plain a.number and plain a.place) a.window and plain a.count

pub record DrawArguments : Type 0 where
  pub room : ℕ
  pub file : List ℕ

pub record AsksDrawing (most : ℕ) (text : List ℕ) (x : DrawArguments) : Type 0 where
  pub room : AsksRoom text x.room
  pub file : bytes (drop 1 (behind_first text)) ≡ Some x.file
  pub few : length x.file ≤ most

abbrev pub DrawLine : ℕ → List ℕ → List ℤ → Option Reply → Type 0
DrawLine most text after =
    Replies (AsksDrawing most text)
    (λ x. Tells (λ a. Lends (ReadDrawing x.file a) (take x.room after)) drawing_fields x.room)
