-- What the workers that write a listing promise.
--   listed_on from zs k   of the 32 slots of a table that begin with the slot `from`, what is listed from the slot k of them on
--   Rows from zs p k n lent out   of that listing the rows of the slots before k are written, n numbers, in an output that was lent as `lent` and has
--                                 room for all; the mark of the slot k stands at the place p
--   Writes zs p k n out p' k' n' out'   whatever listing has come to the slot k has then come to the slot k'
use Rattle.std.specs.Prelude.{◌≡◌, List, ◌++◌, ℕ, ◌+◌, ◌*◌, ◌≤◌, ℤ, length, take, drop}
use Rattle.std.proofs.Math.Seq.{slice}
use Rattle.slots.specs.Slots.{slots_of}
use Rattle.own_strips.specs.OwnStrips.{listed_from}

abbrev pub listed_on : ℕ → List ℤ → ℕ → List ℤ
listed_on from zs k = listed_from k (drop k (slice from (from + 32) (slots_of zs)))

pub record Rows (from : ℕ) (zs : List ℤ) (p k n : ℕ) (lent out : List ℤ) : Type 0 where
  pub low : from ≤ 32
  pub place : p ≡ 5 * (from + k)
  pub room : length (listed_on from zs 0) ≤ length lent
  pub front : take n out ++ listed_on from zs k ≡ listed_on from zs 0
  pub tail : drop n out ≡ drop n lent
  pub same : length out ≡ length lent
  pub fits : n ≤ length out

abbrev pub Writes : List ℤ → ℕ → ℕ → ℕ → List ℤ → ℕ → ℕ → ℕ → List ℤ → Type 0
Writes zs p k n out p' k' n' out' = (from : ℕ) (lent : List ℤ) → Rows from zs p k n lent out → Rows from zs p' k' n' lent out'
