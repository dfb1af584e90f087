-- A line l b r t x1 y1 x2 y2, whichever engine it asks: where no window and stroke were read there is no reply.
use mathlib.Core.List.{List}
use Prim.Native.Nat.{ℕ}
use Rattle.std.specs.Prelude.{None}
use Rattle.arguments.specs.Arguments.{ReadPair}
use Rattle.replies.specs.Replies.{Replies, to_none}
use Rattle.replies.specs.declared.Reply.{Reply}
use Rattle.stroke_commands.specs.Lines.{PairArguments, AsksPair}

pub not_read : (text : List ℕ) {Answers : PairArguments → Reply → Type 0} → ReadPair text None → Replies (AsksPair text) Answers None
not_read text read = to_none (λ x. read x.window x.stroke)
