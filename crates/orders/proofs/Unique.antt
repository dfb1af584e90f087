-- A line orders one thing: its first word tells the command, and each word after it is one number.
use mathlib.Core.Path.{◌≡◌, refl, sym, ap, ap₂, ◌∙◌, subst}
use mathlib.Core.List.{List, []}
use Prim.Native.Nat.{ℕ}
use lib.IntN.{ℤ}
use lib.Ieee.{Float, binary32, of_bits}
use lib.ListN.{get_or}
use Rattle.std.specs.Prelude.{Some, Result, Ok, Err}
use Rattle.decimal.proofs.Unique.{reads_unique}
use Rattle.intake.specs.declared.WindowMm.{WindowMm}
use Rattle.orders.specs.Orders.{word_after, Over, IsWhole, IsLength, nearest, BookWords, ReleaseWords, StripsWords, Unknown}
use Rattle.orders.specs.Orders.{Orders, blank, unknown, book, no_book, release, no_release, strips, no_strips, show, no_show}
use Rattle.orders.specs.Laws.{OneOrder}
use Rattle.orders.specs.declared.Fault.{Fault}
use Rattle.orders.specs.declared.Order.{Order}

-- ---- a word is one number

whole_unique : (w : List ℕ) {a b : ℤ} → IsWhole w a → IsWhole w b → a ≡ b
whole_unique w {a = a} {b = b} p q =
    let both : Some a ≡ Some b = sym p ∙ q in
    cc

length_unique : {w : List ℕ} {x y : Float} → IsLength w x → IsLength w y → x ≡ y
length_unique (nearest {bits = a} p) (nearest {bits = b} q) =
    let both : Some a ≡ Some b = reads_unique p q in
    let bits : a ≡ b = cc in
    ap (of_bits binary32) bits

strip_unique : {l : List ℕ} {r q : ℤ} {s t : WindowMm} → BookWords l r s → BookWords l q t → s ≡ t
strip_unique a b =
    λ i. record {
      left = length_unique a.left b.left i;
      bottom = length_unique a.bottom b.bottom i;
      right = length_unique a.right b.right i;
      top = length_unique a.top b.top i;
    }

-- ---- what is ordered where the first word is none or a command; its second letter, 0 where there is none, tells which

data Ordered (l : List ℕ) : ℕ → Result Order Fault → Type 0 where
  nothing : Ordered l 0 (Ok Order.Blank)
  booked : {r : ℤ} {s : WindowMm} → BookWords l r s → Ordered l 111 (Ok (Order.Book r s))
  not_booked : ((r : ℤ) (s : WindowMm) → BookWords l r s → ⊥) → Ordered l 111 (Err Fault.Book)
  released : {r k : ℤ} → ReleaseWords l r k → Ordered l 101 (Ok (Order.Release r k))
  not_released : ((r k : ℤ) → ReleaseWords l r k → ⊥) → Ordered l 101 (Err Fault.Release)
  listed : {r : ℤ} → StripsWords l r → Ordered l 116 (Ok (Order.Strips r))
  not_listed : ((r : ℤ) → StripsWords l r → ⊥) → Ordered l 116 (Err Fault.Strips)
  shown : Over l 1 → Ordered l 104 (Ok Order.Show)
  not_shown : (Over l 1 → ⊥) → Ordered l 104 (Err Fault.Show)

ordered_unique : {l : List ℕ} {k : ℕ} {o p : Result Order Fault} → Ordered l k o → Ordered l k p → o ≡ p
ordered_unique nothing nothing = refl
ordered_unique {l} (booked a) (booked b) = ap₂ (λ (r : ℤ) (s : WindowMm). Ok (Order.Book r s)) (whole_unique (word_after l 1) a.by b.by) (strip_unique a b)
ordered_unique (booked a) (not_booked f) = absurd (f _ _ a)
ordered_unique (not_booked f) (booked a) = absurd (f _ _ a)
ordered_unique (not_booked f) (not_booked g) = refl
ordered_unique {l} (released a) (released b) =
    ap₂ (λ (r k : ℤ). Ok (Order.Release r k)) (whole_unique (word_after l 1) a.by b.by) (whole_unique (word_after l 2) a.which b.which)
ordered_unique (released a) (not_released f) = absurd (f _ _ a)
ordered_unique (not_released f) (released a) = absurd (f _ _ a)
ordered_unique (not_released f) (not_released g) = refl
ordered_unique {l} (listed a) (listed b) = ap (λ (r : ℤ). Ok (Order.Strips r)) (whole_unique (word_after l 1) a.by b.by)
ordered_unique (listed a) (not_listed f) = absurd (f _ a)
ordered_unique (not_listed f) (listed a) = absurd (f _ a)
ordered_unique (not_listed f) (not_listed g) = refl
ordered_unique (shown a) (shown b) = refl
ordered_unique (shown a) (not_shown f) = absurd (f a)
ordered_unique (not_shown f) (shown a) = absurd (f a)
ordered_unique (not_shown f) (not_shown g) = refl

-- ---- lines

abbrev Strange : List ℕ → Type 0
Strange w = (w ≡ [] → ⊥) × Unknown w

data Sorted (l : List ℕ) (o : Result Order Fault) : Type 0 where
  plain : (Strange (word_after l 0) → ⊥) → Ordered l (get_or (word_after l 0) 1 0) o → Sorted l o
  strange : Strange (word_after l 0) → o ≡ Err Fault.Word → Sorted l o

module _ {l : List ℕ} where
  by_word : {w : List ℕ} {o : Result Order Fault} → word_after l 0 ≡ w → Ordered l (get_or w 1 0) o → Ordered l (get_or (word_after l 0) 1 0) o
  by_word {o = o} e c = subst (λ (w : List ℕ). Ordered l (get_or w 1 0) o) (sym e) c

  sorted : {o : Result Order Fault} → Orders l o → Sorted l o
  sorted (blank e) = plain (λ s. s.0 e) (by_word e nothing)
  sorted (unknown n u) = strange (n, u) refl
  sorted (book e b) = plain (λ s. s.1.not_book e) (by_word e (booked b))
  sorted (no_book e f) = plain (λ s. s.1.not_book e) (by_word e (not_booked f))
  sorted (release e b) = plain (λ s. s.1.not_release e) (by_word e (released b))
  sorted (no_release e f) = plain (λ s. s.1.not_release e) (by_word e (not_released f))
  sorted (strips e b) = plain (λ s. s.1.not_strips e) (by_word e (listed b))
  sorted (no_strips e f) = plain (λ s. s.1.not_strips e) (by_word e (not_listed f))
  sorted (show e b) = plain (λ s. s.1.not_show e) (by_word e (shown b))
  sorted (no_show e f) = plain (λ s. s.1.not_show e) (by_word e (not_shown f))

  sorted_unique : {o p : Result Order Fault} → Sorted l o → Sorted l p → o ≡ p
  sorted_unique (plain f a) (plain g b) = ordered_unique a b
  sorted_unique (plain f a) (strange s q) = absurd (f s)
  sorted_unique (strange s p) (plain f a) = absurd (f s)
  sorted_unique (strange s p) (strange t q) = p ∙ sym q

pub one_order : OneOrder
one_order l o p a b = sorted_unique (sorted a) (sorted b)
