-- The line asks for what was read.
use mathlib.Core.Path.{refl}
use mathlib.Core.List.{[], ◌∷◌}
use Prim.Native.Nat.{◌+◌, ◌≤◌}
use native.Mathlib.Omega.{arith}
use lib.IntN.{pos}
use lib.ListN.{length, get_or}
use mir.Syntax.{w32}
use borrow.Author.Rules.{rules}
use Rattle.whole.proofs.Comparisons.{back}
use Rattle.strip_book.specs.Books.{ReleaseSlot}
use Rattle.replies.specs.Replies.{to_call, to_none}
use Rattle.book_commands.proofs.Tables.{asks_release, with_table}
use Rattle.book_commands.proofs.release.Goals as goal

pub returns-in_err-m-clause-release_line : goal.returns-in_err-m-clause-release_line
returns-in_err-m-clause-release_line c =
    rw c.from_residual.ensures (to_none (λ x a. c.in_err-m.ensures.table x.table (x.renter ∷ x.slot ∷ []) refl a))

pub returns-clause-release_line : goal.returns-clause-release_line
returns-clause-release_line c =
    let m = c.in_ok-m.m in
    let out = c.read_table.new.lent in
    let small : m ≤ 20000 = c.in_ok-m.ensures.table_bound in
    let room : 40960 ≤ length out = omega (arith, c.read_table.auto.lent, c.requires) in
    let renter = back w32 (get_or out m (pos 0)) (search rules) in
    let slot = back w32 (get_or out (m + 1) (pos 0)) (search rules) in
    to_call _ (asks_release c.args.rest.now out m c.in_ok-m.ensures.table (omega arith))
    (with_table (ReleaseSlot _ _) out c.free-reply.new.table _ (omega arith) c.free-reply.auto.table
    (rw (renter, slot) at c.free-reply.ensures.tells) c.lent.ensures)
