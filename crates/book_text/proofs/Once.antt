-- The lines of a text are told one after another: each line is found where the one before it ends, and is the line of one strip in one slot. So two
-- ways to read a text have the same lines as far as both go, and where no line follows both have come to the same place.
use mathlib.Core.Path.{◌≡◌, refl, sym, ap, ap₂, ◌∙◌, subst}
use mathlib.Core.Bool.{Bool, true, false}
use mathlib.Core.List.{List}
use mathlib.Core.Logic.{⊎_elim}
use Prim.Native.Nat.{ℕ, ◌+◌, ◌<◌, ◌≤◌}
use native.Mathlib.Nat.{eq-or-lt_of_le}
use native.Mathlib.Omega.{arith}
use borrow.Author.Tests.{ltb-true, ltb-false}
use lib.Dec.{ltb}
use lib.IntN.{ℤ}
use lib.ListN.{length}
use Rattle.grid.specs.declared.Window.{Window}
use Rattle.strip_lines.specs.Lines.{row_text}
use Rattle.row_reading.specs.Rows.{StandsAt}
use Rattle.row_reading.proofs.Unique.{one_row}
use Rattle.book_text.specs.Texts.{head_text, with_strip}
use Rattle.book_text.specs.Readings.{Follows, Lines, first, one_more}
use Rattle.book_text.proofs.Written.{written}

-- ---- the same line: it starts at one place, with one table before it

pub record Same (i j p q : ℕ) (ys zs : List ℤ) : Type 0 where
  pub place : i ≡ j
  pub slot : p ≡ q
  pub table : ys ≡ zs

numbered : {t : List ℕ} {n i next : ℕ} {zs : List ℤ} → Lines t n i next zs → 2 ≤ n
numbered (first s) = omega arith
numbered (one_more l f) = omega (arith, numbered l)

pub headed : {t : List ℕ} {n i next : ℕ} {zs : List ℤ} → Lines t n i next zs → StandsAt t 0 head_text
headed (first s) = s
headed (one_more l f) = headed l

module _ (t : List ℕ) where
  follows_same : {i j p q : ℕ} {ys zs : List ℤ} → Same i j p q ys zs → {k : ℕ} {w : Window} → Follows t i p ys k w → Follows t j q zs k w
  follows_same {i} {j} {p} {q} {ys} {zs} e {k} {w} f =
      let with_table = subst (λ (x : List ℤ). Follows t i p x k w) e.table f in
      let with_slot = subst (λ (x : ℕ). Follows t i x zs k w) e.slot with_table in
      subst (λ (x : ℕ). Follows t x q zs k w) e.place with_slot

  -- the strip that follows is one, and so is what comes after it
  next_same : {i j p q k l : ℕ} {ys zs : List ℤ} {v w : Window} → 1 ≤ j → Same i j p q ys zs → Follows t i p ys k v → Follows t j q zs l w
      → Same (i + length (row_text k v)) (j + length (row_text l w)) (k + 1) (l + 1) (with_strip ys k v) (with_strip zs l w)
  next_same {i} {j} {p} {q} {k} {l} {ys} {zs} {v} {w} h e f g =
      let one = one_row t j k l v w h (follows_same e f).line g.line in
      record {
        place = ap₂ (λ (x y : ℕ). x + y) e.place (ap₂ (λ (x : ℕ) (y : Window). length (row_text x y)) one.0 one.1);
        slot = ap (λ (x : ℕ). x + 1) one.0;
        table =
            ap (λ (x : List ℤ). with_strip x k v) e.table
            ∙ ap₂ (λ (x : ℕ) (y : Window). with_strip zs x y) one.0 one.1;
      }

  same_line : {m n i j p q : ℕ} {ys zs : List ℤ} → m ≡ n → Lines t m i p ys → Lines t n j q zs → Same i j p q ys zs
  same_line e (first s) (first r) = record { place = refl; slot = refl; table = refl }
  same_line e (first s) (one_more l f) = absurd (omega (arith, numbered l))
  same_line e (one_more l f) (first s) = absurd (omega (arith, numbered l))
  same_line e (one_more l f) (one_more r g) = next_same (written r).begun (same_line (omega arith) l r) f g

  -- ---- an earlier line is followed

  pub record Followed (i p : ℕ) (ys : List ℤ) : Type 0 where
    pub slot : ℕ
    pub strip : Window
    pub follows : Follows t i p ys slot strip

  followed : {m n i j p q : ℕ} {ys zs : List ℤ} → m < n → Lines t m i p ys → Lines t n j q zs → Followed i p ys
  followed h l (first s) = absurd (omega (arith, numbered l))
  followed {m} h l (one_more {n} {k = k} {w = w} r g) =
      ⊎_elim
      (λ (e : m ≡ n). record { slot = k; strip = w; follows = follows_same (same_line (sym e) r l) g })
      (λ (b : m < n). followed b l r)
      (eq-or-lt_of_le (omega arith))

  -- ---- the last line

  abbrev pub Last : ℕ → ℕ → List ℤ → Type 0
  Last i p ys = (k : ℕ) (w : Window) → Follows t i p ys k w → ⊥

  never_followed : {i p : ℕ} {ys : List ℤ} → Last i p ys → Followed i p ys → ⊥
  never_followed never f = never f.slot f.strip f.follows

  pub one_last : {m n i j p q : ℕ} {ys zs : List ℤ} → Lines t m i p ys → Last i p ys → Lines t n j q zs → Last j q zs
      → (m ≡ n) × Same i j p q ys zs
  one_last {m} {n} {i} {j} {p} {q} {ys} {zs} l a r b = go (ltb m n) (ltb n m) refl refl
    where
      go : (x y : Bool) → ltb m n ≡ x → ltb n m ≡ y → (m ≡ n) × Same i j p q ys zs
      go true y e f = absurd (never_followed a (followed (ltb-true m n e) l r))
      go false true e f = absurd (never_followed b (followed (ltb-true n m f) r l))
      go false false e f =
          let s : m ≡ n = omega (arith, ltb-false m n e, ltb-false n m f) in
          (s, same_line s l r)
