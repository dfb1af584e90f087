-- A call on memory that its caller lends: it refuses and leaves the memory as it was, or it is done.
--   Refused blank r a before after     it refuses by r: the answer a is `blank r`, and the memory is as it was
--   Lent blank r Done a before after   it refuses by r where r applies; else Done holds of its answer a and of the memory before and after
-- Calls that give a list of numbers into a lent output.
--   written xs out     the output after such a call: xs from the front and the rest as it was; all as it was, where xs has no room
--   answered_by blank full xs room   its answer, where the output has so many numbers: 8 where they are too few, else `full xs`
--   GivenBy blank full Gives a before after   it gives a list of which Gives holds: its answer a, and its output before and after
-- The same of calls whose answer says how many numbers they gave.
--   refused_by r        the answer of a call that refuses by r
--   gives_all xs        the answer of a call that gives xs into an output that has room
--   answered xs room   the answer of a call that gives xs into an output of so many numbers
--   Given Gives a before after      it gives a list of which Gives holds
--   Call r Gives a before after     it refuses by r where r applies; else it gives a list of which Gives holds
--   GaveNumbers Gives n before after   of a part of such a call: n numbers of which Gives holds are written where they have room
use Rattle.std.specs.Prelude.{◌≡◌, List, ◌++◌, ℕ, eqb, leb, ℤ, length, drop}
use Rattle.whole.specs.Choice.{when◌then◌else◌}
use Rattle.grid.specs.Refusals.{room_refusal}
use Rattle.grid.specs.declared.Refusal.{Refusal}
use Rattle.grid.specs.declared.Answer.{Answer}

pub record Refused {A M : Type 0} (blank : Refusal → A) (r : Refusal) (a : A) (before after : M) : Type 0 where
  pub answer : a ≡ blank r
  pub untouched : after ≡ before

pub record Lent {A M : Type 0} (blank : Refusal → A) (r : Refusal) (Done : A → M → M → Type 0) (a : A) (before after : M) : Type 0 where
  pub refused : (r.number ≡ 0 → ⊥) → Refused blank r a before after
  pub done : r.number ≡ 0 → Done a before after

-- ---- a list of numbers is given

unfoldable pub written : List ℤ → List ℤ → List ℤ
written xs out = when leb (length xs) (length out) then xs ++ drop (length xs) out else out

unfoldable pub answered_by : {A : Type 0} → (Refusal → A) → (List ℤ → A) → List ℤ → ℕ → A
answered_by blank full xs room = let r = room_refusal (length xs) room in when eqb r.number 0 then full xs else blank r

pub record GivenBy {A : Type 0} (blank : Refusal → A) (full : List ℤ → A) (Gives : List ℤ → Type 0) (a : A) (before after : List ℤ) : Type 0 where
  pub numbers : List ℤ
  pub gives : Gives numbers
  pub answer : a ≡ answered_by blank full numbers (length before)
  pub output : after ≡ written numbers before

-- ---- and counted

abbrev pub refused_by : Refusal → Answer
refused_by r = record { number = r.number; place = r.place; count = 0 }

abbrev pub gives_all : List ℤ → Answer
gives_all xs = record { number = 0; place = 0; count = length xs }

abbrev pub answered : List ℤ → ℕ → Answer
answered = answered_by refused_by gives_all

abbrev pub Given : (List ℤ → Type 0) → Answer → List ℤ → List ℤ → Type 0
Given = GivenBy refused_by gives_all

abbrev pub Call : Refusal → (List ℤ → Type 0) → Answer → List ℤ → List ℤ → Type 0
Call r Gives = Lent refused_by r (Given Gives)

pub record GaveNumbers (Gives : List ℤ → Type 0) (n : ℕ) (before after : List ℤ) : Type 0 where
  pub numbers : List ℤ
  pub gives : Gives numbers
  pub count : n ≡ length numbers
  pub output : after ≡ written numbers before
