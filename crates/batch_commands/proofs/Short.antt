-- A number takes two bytes or more, so a line of less than 512 bytes has less than 256.
use mathlib.Core.Bool.{Bool}
use mathlib.Core.List.{List}
use Prim.Native.Nat.{ℕ, ◌<◌}
use native.Mathlib.Omega.{arith}
use lib.IntN.{ℤ}
use lib.ListN.{length, length-append, length-drop}
use Rattle.arguments.specs.Arguments.{first_end, behind_first}
use Rattle.arguments.proofs.Shortest.{two_bytes}
use Rattle.lending.specs.Lent.{ListArguments, AsksList}
use Rattle.replies.specs.Replies.{to_call, to_none}
use Rattle.std.specs.Prelude.{Option}
use Rattle.replies.specs.declared.Reply.{Reply}
use Rattle.batch_commands.specs.Lines.{BatchLine}

wider : {text : List ℕ} {x : ListArguments} → AsksList 256 text x → AsksList 20005 text x
wider a = record { room = a.room; numbers = a.numbers; few = omega (arith, a.few) }

narrower : (text : List ℕ) {x : ListArguments} → length text < 512 → AsksList 20005 text x → AsksList 256 text x
narrower text {x} h a =
    let half = simp length-append at (two_bytes (behind_first text) _ a.numbers) in
    record { room = a.room; numbers = a.numbers; few = omega (arith, half, length-drop (first_end text) text) }

pub widened : {touches : Bool} {text : List ℕ} {after : List ℤ} {r : Option Reply} → length text < 512 → BatchLine touches 256 text after r
    → BatchLine touches 20005 text after r
widened h (to_call x a t) = to_call x (wider a) t
widened {text = text} h (to_none n) = to_none (λ x a. n x (narrower text h a))
