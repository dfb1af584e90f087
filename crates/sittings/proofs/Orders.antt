-- Whatever comes of a line, its answer is on the page, and a sound book is left sound: it is changed by calls of the book alone.
use mathlib.Core.Path.{◌≡◌, refl, sym, subst}
use mathlib.Core.List.{List}
use Prim.Native.Nat.{ℕ, zero, suc, ◌≤◌}
use native.Mathlib.Omega.{arith}
use borrow.Author.Tests.{eq-eqb, ne_eqb}
use lib.IntN.{ℤ}
use lib.ListN.{length, take}
use Rattle.intake.specs.declared.WindowMm.{WindowMm}
use Rattle.clerk.specs.Commands.{BooksAs}
use Rattle.bookkeeping.specs.Runs as Runs
use Rattle.book_text.specs.Texts.{Sound}
use Rattle.book_text.proofs.Theorems.{stays_sound}
use Rattle.text.specs.Pages.{ascii}
use Rattle.sittings.specs.Laws.{ServesSound}
use Rattle.sittings.specs.Sittings.{line_of}
use Rattle.std.specs.Prelude.{Result}
use Rattle.orders.specs.declared.Fault.{Fault}
use Rattle.orders.specs.declared.Order.{Order}
use Rattle.counter.specs.Serving.{Does, blank, book, release, strips, show, wrong, Serves}
use Rattle.counter.specs.declared.Service.{Service}

does_fit : {o : Result Order Fault} {before after : List ℤ} {page : List ℕ} {r : Service} → Does o before after page r → r.end ≤ length page
does_fit blank = omega arith
does_fit (book a) = a.fits
does_fit (release a) = a.fits
does_fit (strips a) = a.fits
does_fit (show a) = a.fits
does_fit (wrong h e) = h

pub serves_fit : {l : List ℕ} {before after : List ℤ} {page : List ℕ} {r : Service} → Serves l before after page r → r.end ≤ length page
serves_fit s = does_fit s.done

-- a booking
books_sound : {renter : ℤ} {strip : WindowMm} {before after : List ℤ} {text : List ℕ} {number : ℕ} → BooksAs renter strip before after text number
    → Sound before → Sound after
books_sound {renter} {strip} {before} {after} a s = go a.taken.number refl
  where
    go : (n : ℕ) → a.taken.number ≡ n → Sound after
    go zero e = let b = a.done e in stays_sound before after (Runs.booking renter a.taken.window b.answer) s b.booked
    go (suc n) e = subst Sound (sym (a.refused (λ (z : a.taken.number ≡ 0). omega arith)).0) s

does_sound : {o : Result Order Fault} {before after : List ℤ} {page : List ℕ} {r : Service} → Does o before after page r → Sound before → Sound after
does_sound blank s = s
does_sound (book a) s = books_sound a.says s
does_sound (release {renter} {slot} {before} {after} a) s =
    stays_sound before after (Runs.release renter slot a.says.answer) s a.says.released
does_sound (strips a) s = s
does_sound (show a) s = s
does_sound (wrong h e) s = s

pub serves_sound : ServesSound
serves_sound l before after page r d s = does_sound d.done s

-- ---- a line that is kept, and one that is too long

pub long_line : (l : List ℕ) (n : ℕ) → n ≡ 400001 → line_of l n ≡ ascii "too long"
unfolding line_of
long_line l n e = rw (eq-eqb n 400001 e) refl

pub kept_line : (l : List ℕ) (n : ℕ) → (n ≡ 400001 → ⊥) → line_of l n ≡ take n l
unfolding line_of
kept_line l n e = rw (ne_eqb n 400001 e) refl

module _ {l l' : List ℕ} {before after : List ℤ} {page : List ℕ} {r : Service} where
  pub serves_as : l ≡ l' → Serves l before after page r → Serves l' before after page r
  serves_as e s = subst (λ (x : List ℕ). Serves x before after page r) e s
