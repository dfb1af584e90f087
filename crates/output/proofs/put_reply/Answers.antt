-- A question mark; or the fields, and behind them as many of the lent numbers as there are.
use mathlib.Core.Path.{◌≡◌, subst}
use mathlib.Core.List.{List}
use Prim.Native.Nat.{ℕ, ◌-◌, ◌≤◌}
use lib.ListN.{length, take}
use borrow.Author.Rules.{rules}
use native.Mathlib.Omega.{arith}
use lib.Seq.{take_all, length-take-le}
use Rattle.text.proofs.Puts.{put_then}
use Rattle.text.specs.Pages.{Put}
use Rattle.replies.specs.declared.Reply.{Reply}
use Rattle.output.specs.Written.{fields_text, reply_line}
use Rattle.output.proofs.put_reply.Goals as goal

pub returns-in_default : goal.returns-in_default
unfolding reply_line
returns-in_default c = rw c.in_default.is c.put.ensures

-- all of the fields of a reply are put
whole : (r : Reply) (page after : List ℕ) (at end : ℕ) → length r.fields ≡ 16 → r.count ≤ 16
    → Put page after at end (fields_text (length (take r.count r.fields)) (take r.count r.fields)) → Put page after at end (fields_text r.count (take r.count r.fields))
whole r page after at end l m p =
    let long : length (take r.count r.fields) ≡ r.count = length-take-le r.count r.fields (omega arith) in
    subst (λ (n : ℕ). Put page after at end (fields_text n (take r.count r.fields))) long p

pub returns-then-lent-room : goal.returns-then-lent-room
unfolding reply_line
returns-then-lent-room c =
    let r = c.in-Some.reply in
    rw (c.in-Some.is, take_all r.room c.args.lent.now (omega arith))
    (put_then (whole r _ _ _ _ (search rules) (rw c.in-Some.is at c.requires.count_bound) c.put_fields-end.ensures.put) c.put_integers.ensures)

pub returns : goal.returns
unfolding reply_line
returns c =
    let r = c.in-Some.reply in
    let e : r.room - 0 ≡ r.room = omega arith in
    rw c.in-Some.is
    (put_then (whole r _ _ _ _ (search rules) (rw c.in-Some.is at c.requires.count_bound) c.put_fields-end.ensures.put) (rw e at c.put_integers-2.ensures))
