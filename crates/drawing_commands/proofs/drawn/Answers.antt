-- The line asks for what was read.
use mathlib.Core.Path.{◌≡◌, sym, ap, ◌∙◌}
use native.Mathlib.Omega.{arith}
use Prim.Native.Nat.{◌-◌}
use lib.ListN.{length}
use lib.Seq.{length-take-le}
use Rattle.std.specs.Prelude.{None, Some}
use Rattle.words.specs.Words.{numeral, unsigned}
use Rattle.lending.specs.Lent.{most_room}
use Rattle.lending.proofs.Lists.{no_word, no_room, lent_front, part_length}
use Rattle.replies.specs.Replies.{to_call, to_none}
use Rattle.replies.proofs.Lines.{with_lent}
use Rattle.drawing_commands.proofs.Files.{no_file, file_read}
use Rattle.drawing_commands.proofs.drawn.Goals as goal

pub returns-in_err-first-clause-draw_line : goal.returns-in_err-first-clause-draw_line
returns-in_err-first-clause-draw_line c =
    rw c.from_residual.ensures (to_none (λ x a. no_room c.args.rest.now (no_word most_room c.args.rest.now c.in_err-first.ensures.parts) x.room a.room))

pub returns-in_err-room-clause-draw_line : goal.returns-in_err-room-clause-draw_line
returns-in_err-room-clause-draw_line c =
    rw c.from_residual-in_err-room.ensures
    (to_none (λ x a. no_room c.args.rest.now
    (sym (ap (λ w. unsigned most_room (numeral w)) c.in_ok-first.ensures.parts.0) ∙ sym c.read_room.ensures.value ∙ c.in_err-room.was) x.room a.room))

pub returns-in_err-_space-clause-draw_line : goal.returns-in_err-_space-clause-draw_line
returns-in_err-_space-clause-draw_line c =
    rw c.from_residual-in_err-_space.ensures (to_none (λ x a. no_file c.args.rest.now c.in_ok-first.behind.now x.file c.in_ok-first.ensures.parts.1 c.in_err-_space.ensures.cases a.file))

pub returns-in_err-count-clause-draw_line : goal.returns-in_err-count-clause-draw_line
returns-in_err-count-clause-draw_line c =
    let read = file_read c.args.rest.now c.in_ok-first.behind.now c.in_ok-_space.word.now c.read_bytes.new.out c.in_ok-_space._space.now None
    c.in_ok-first.ensures.parts.1 c.in_ok-_space.ensures.cases.0 c.in_err-count.ensures in
    rw c.from_residual-in_err-count.ensures (to_none (λ x a. omega (arith, read _ a.file, a.few, c.read_bytes.auto.out)))

pub returns-clause-draw_line : goal.returns-clause-draw_line
returns-clause-draw_line c =
    let n = c.in_ok-count.count in let room = c.in_ok-room.room in
    let read = file_read c.args.rest.now c.in_ok-first.behind.now c.in_ok-_space.word.now c.read_bytes.new.out c.in_ok-_space._space.now (Some n)
    c.in_ok-first.ensures.parts.1 c.in_ok-_space.ensures.cases.0 c.in_ok-count.ensures in
    let all : n - 0 ≡ n = omega arith in
    let long : length c.read-reply.new.lent ≡ room =
    c.read-reply.auto.lent ∙ part_length room c.args.lent.now (omega (arith, c.in_ok-room.ensures.room_bound, c.requires)) in
    to_call _ (record {
      room = sym (ap (λ w. unsigned most_room (numeral w)) c.in_ok-first.ensures.parts.0) ∙ sym c.in_ok-room.ensures.value;
      file = read.1;
      few = omega (arith, length-take-le n c.read_bytes.new.out read.0, read.0, c.read_bytes.auto.out);
    })
    (with_lent (λ a h. lent_front _ _ long (rw all at h)) c.read-reply.ensures.tells c.lent.ensures)
