-- Two runs after which a strip of renter 0 is taken and is booked: renter 1 has booked a strip that shares area with it, and nobody has called.
use mathlib.Core.Path.{refl}
use mathlib.Core.List.{List, [], ◌∷◌}
use Prim.Native.Nat.{ℕ, ◌+◌, ◌*◌}
use native.Mathlib.Omega.{arith}
use lib.IntN.{ℤ, pos}
use lib.Seq.{sets}
use Rattle.grid.specs.Refusals.{first, refuse, off_table, no_area, window_refusal}
use Rattle.grid.specs.Table.{on_table, first_off}
use Rattle.grid.specs.declared.Window.{Window}
use Rattle.grid.proofs.Calls.{lent_refused, lent_done}
use Rattle.racks.specs.Areas.{shares_area}
use Rattle.racks.specs.Members.{any, all}
use Rattle.slots.specs.Slots.{slots_of, strips_in, no_two_share, is_book, lowest_free, slot_numbers, slot_of}
use Rattle.strip_book.specs.Books.{strip_taken, refused_booking, booked_in, BookStrip}
use Rattle.strip_book.proofs.Refusing.{refuses_clash, books}
use Rattle.bookkeeping.specs.Runs.{booking, empty_book, no_call, a_call}
use Rattle.renters.specs.TwoRuns.{own_events}
use Rattle.renters.specs.Laws.{TakenMayDiffer}

abbrev square : ℕ → Window
square k = record { left = pos k; bottom = pos k; right = pos (k + 10); top = pos (k + 10) }

-- the empty book with a strip in the slot k of the table
abbrev holding : ℕ → Window → List ℤ
holding k w = sets empty_book (5 * k) (slot_numbers (slot_of 1 w))

-- renter 1 books a strip in the empty book
others : BookStrip (pos 1) (square 0) (booked_in 0) empty_book (holding 32 (square 0))
unfolding is_book empty_book slots_of lowest_free all any strips_in no_two_share window_refusal first off_table no_area first_off on_table
others = lent_done (books (pos 1) (square 0) empty_book refl refl refl refl refl) (record { answer = refl; book = refl })

-- renter 0 books one where nobody has called
booked : BookStrip (pos 0) (square 5) (booked_in 0) empty_book (holding 0 (square 5))
unfolding is_book empty_book slots_of lowest_free all any strips_in no_two_share window_refusal first off_table no_area first_off on_table
booked = lent_done (books (pos 0) (square 5) empty_book refl refl refl refl refl) (record { answer = refl; book = refl })

-- and is refused it where renter 1 has his
refused : BookStrip (pos 0) (square 5) (refused_booking (refuse strip_taken 0)) (holding 32 (square 0)) (holding 32 (square 0))
unfolding is_book empty_book slots_of all any strips_in no_two_share shares_area window_refusal first off_table no_area first_off on_table
refused = lent_refused (refuses_clash (pos 0) (square 5) (holding 32 (square 0)) refl refl refl refl refl) (omega arith)

pub taken_may_differ : TakenMayDiffer
unfolding own_events
taken_may_differ = record {
  renter = pos 0;
  es = booking (pos 1) (square 0) (booked_in 0) ∷ [];
  es' = [];
  book = holding 32 (square 0);
  book' = empty_book;
  runs = record { one = a_call others no_call; other = no_call; alike = refl };
  strip = square 5;
  a = refused_booking (refuse strip_taken 0);
  a' = booked_in 0;
  after = holding 32 (square 0);
  after' = holding 0 (square 5);
  call = refused;
  call' = booked;
  taken = refl;
  booked = refl;
}
