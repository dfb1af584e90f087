-- Each order is answered by what does it.
use Rattle.std.proofs.Common.{◌≡◌, refl, rules}
use mir.Syntax.{w32}
use mir.Val.{to_z, of_z}
use Rattle.counter.specs.Serving.{blank, book, release, strips, show}
use Rattle.counter.proofs.Doing.{known}
use Rattle.counter.proofs.obey.Goals as goal

pub returns-in-Blank : goal.returns-in-Blank
returns-in-Blank c = known c.in-Blank.is refl blank

pub returns-in-Book : goal.returns-in-Book
returns-in-Book c =
    let r : to_z w32 (of_z w32 c.in-Book.renter) ≡ c.in-Book.renter = search rules in
    known c.in-Book.is c.came_of.ensures (book (rw r at c.book.ensures))

pub returns-in-Release : goal.returns-in-Release
returns-in-Release c =
    let r : to_z w32 (of_z w32 c.in-Release.renter) ≡ c.in-Release.renter = search rules in
    let s : to_z w32 (of_z w32 c.in-Release.slot) ≡ c.in-Release.slot = search rules in
    known c.in-Release.is c.came_of-in-Release.ensures (release (rw (r, s) at c.release.ensures))

pub returns-in-Strips : goal.returns-in-Strips
returns-in-Strips c =
    let r : to_z w32 (of_z w32 c.in-Strips.renter) ≡ c.in-Strips.renter = search rules in
    known c.in-Strips.is c.came_of-in-Strips.ensures (strips (rw r at c.strips.ensures))

pub returns-in-Show : goal.returns-in-Show
returns-in-Show c = known c.in-Show.is c.came_of-in-Show.ensures (show c.show.ensures)
