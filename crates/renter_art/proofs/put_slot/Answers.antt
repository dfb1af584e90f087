-- The slot's mark is tested, and its strip put where it is in use.
use Rattle.std.proofs.Common.{sym, ◌∙◌, arith}
use Rattle.text.proofs.Puts.{put_nothing}
use Rattle.renter_art.proofs.Arts.{art_free, art_used}
use Rattle.renter_art.proofs.put_slot.Goals as goal

pub returns-then-not-in_use-clause-put : goal.returns-then-not-in_use-clause-put
returns-then-not-in_use-clause-put c =
    let free = sym c.in_use.ensures ∙ c.if-not-in_use.true in
    rw (art_free c.args.renter c.args.book.now c.args.k free) (put_nothing _ (omega arith))

pub returns-clause-put : goal.returns-clause-put
returns-clause-put c =
    let used = sym c.in_use.ensures ∙ c.if-not-in_use.false in
    let r = c.requires in
    let e = art_used c.args.renter c.args.book.now c.args.k r.renter_bound r.k_bound r.book_len used in
    rw (e, ← c.strip_at-w.ensures) c.put_strip.ensures.put
