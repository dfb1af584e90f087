-- The line asks for what was read.
use mathlib.Core.Path.{◌≡◌, refl, sym, ap, ◌∙◌}
use mathlib.Core.List.{[], ◌∷◌}
use Prim.Native.Nat.{◌-◌, ◌≤◌}
use native.Mathlib.Omega.{arith}
use lib.IntN.{pos}
use lib.ListN.{length, get_or}
use mir.Syntax.{w32}
use borrow.Author.Rules.{rules}
use Rattle.std.specs.Prelude.{None, Some}
use Rattle.whole.proofs.Comparisons.{back}
use Rattle.words.specs.Words.{numeral, unsigned}
use Rattle.lending.specs.Lent.{most_room}
use Rattle.lending.proofs.Lists.{no_word, no_room, lent_front, part_length}
use Rattle.replies.specs.Replies.{to_call, to_none}
use Rattle.replies.proofs.Lines.{with_lent}
use Rattle.book_commands.proofs.Tables.{asks_renter, table_behind}
use Rattle.book_commands.proofs.strips.Goals as goal

pub returns-in_err-first-clause-strips_line : goal.returns-in_err-first-clause-strips_line
returns-in_err-first-clause-strips_line c =
    rw c.from_residual.ensures (to_none (λ x a. no_room c.args.rest.now (no_word most_room c.args.rest.now c.in_err-first.ensures.parts) x.room a.room))

pub returns-in_err-room-clause-strips_line : goal.returns-in_err-room-clause-strips_line
returns-in_err-room-clause-strips_line c =
    rw c.from_residual-in_err-room.ensures
    (to_none (λ x a. no_room c.args.rest.now
    (sym (ap (λ w. unsigned most_room (numeral w)) c.in_ok-first.ensures.parts.0) ∙ sym c.read_room.ensures.value ∙ c.in_err-room.was) x.room a.room))

pub returns-in_err-m-clause-strips_line : goal.returns-in_err-m-clause-strips_line
returns-in_err-m-clause-strips_line c =
    let read = table_behind c.args.rest.now c.in_ok-first.behind.now c.read_table.new.lent None c.in_ok-first.ensures.parts.1 c.in_err-m.ensures.table in
    rw c.from_residual-in_err-m.ensures (to_none (λ x a. read x.table (x.renter ∷ []) refl a.table))

pub returns-clause-strips_line : goal.returns-clause-strips_line
returns-clause-strips_line c =
    let m = c.in_ok-m.m in let room = c.in_ok-room.room in
    let out = c.read_table.new.lent in
    let small : m ≤ 20000 = c.in_ok-m.ensures.table_bound in
    let read = table_behind c.args.rest.now c.in_ok-first.behind.now out (Some m) c.in_ok-first.ensures.parts.1 c.in_ok-m.ensures.table in
    let all : m - 0 ≡ m = omega arith in
    let renter = back w32 (get_or out m (pos 0)) (search rules) in
    let long : length c.list-reply.new.lent ≡ room =
    c.list-reply.auto.lent ∙ part_length room c.args.lent.now (omega (arith, c.in_ok-room.ensures.room_bound, c.requires)) in
    to_call _ (record {
      room = sym (ap (λ w. unsigned most_room (numeral w)) c.in_ok-first.ensures.parts.0) ∙ sym c.in_ok-room.ensures.value;
      table = asks_renter _ out m read (omega (arith, c.read_table.auto.lent));
    })
    (with_lent (λ a h. lent_front _ _ long (rw (all, renter) at h)) c.list-reply.ensures.tells c.lent.ensures)
