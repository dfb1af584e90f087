-- The line asks for what was read.
use mathlib.Core.Path.{◌≡◌, refl, ap, ◌∙◌}
use mathlib.Core.List.{◌∷◌}
use Prim.Native.Nat.{◌+◌, ◌≤◌}
use native.Mathlib.Omega.{arith}
use lib.IntN.{pos}
use lib.ListN.{length, drop, get_or}
use mir.Syntax.{w32}
use borrow.Author.Rules.{rules}
use Rattle.whole.proofs.Comparisons.{back}
use Rattle.arguments.specs.Arguments.{first_window}
use Rattle.grid.specs.Table.{sides}
use Rattle.lending.proofs.Lists.{rest_of}
use Rattle.strip_book.specs.Books.{BookStrip}
use Rattle.replies.specs.Replies.{to_call, to_none}
use Rattle.book_commands.proofs.Tables.{asks_enter, with_table}
use Rattle.book_commands.proofs.enter.Goals as goal

pub returns-in_err-m-clause-enter_line : goal.returns-in_err-m-clause-enter_line
returns-in_err-m-clause-enter_line c =
    rw c.from_residual.ensures (to_none (λ x a. c.in_err-m.ensures.table x.table (x.renter ∷ sides x.window) refl a))

pub returns-clause-enter_line : goal.returns-clause-enter_line
returns-clause-enter_line c =
    let m = c.in_ok-m.m in
    let out = c.read_table.new.lent in
    let small : m ≤ 20000 = c.in_ok-m.ensures.table_bound in
    let room : 40960 ≤ length out = omega (arith, c.read_table.auto.lent, c.requires) in
    let window : c.first_window-w.result ≡ first_window (drop (m + 1) out) = c.first_window-w.ensures ∙ ap first_window (rest_of (m + 1) out) in
    let renter = back w32 (get_or out m (pos 0)) (search rules) in
    to_call _ (asks_enter c.args.rest.now out m c.in_ok-m.ensures.table (omega arith))
    (with_table (BookStrip _ _) out c.book-reply.new.table _ (omega arith) c.book-reply.auto.table
    (rw (renter, window) at c.book-reply.ensures.tells) c.lent.ensures)
