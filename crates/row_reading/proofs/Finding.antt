-- A line that stands at a place is found: its six numbers are read, they tell the slot and the strip, and the comparison finds the line.
use mathlib.Core.Path.{◌≡◌, refl, sym, ap, ap₂, ◌∙◌, subst}
use mathlib.Core.Bool.{Bool, true, false}
use mathlib.Core.List.{List}
use Rattle.std.specs.Prelude.{Option, None, Some, is_some, Result, Ok, Err}
use Prim.Native.Nat.{ℕ, zero, suc, ◌+◌, ◌-◌, ◌*◌, ◌<◌, ◌≤◌, ◌^◌, min}
use native.Mathlib.Omega.{arith}
use borrow.Author.Tests.{eqb-true, eq-eqb}
use lib.Dec.{eqb}
use lib.IntN.{ℤ, pos, negsuc, nat_abs}
use lib.ListN.{length, get_or, take, drop, length-take, length-drop}
use lib.Seq.{take_all}
use lib.Signed.{mag}
use Rattle.whole.specs.Within.{Within}
use mir.Syntax.{w32}
use Rattle.whole.proofs.Comparisons.{ff_tt, fits_range}
use Rattle.whole.proofs.Order.{zarith}
use Rattle.grid.specs.Refusals.{window_refusal, tested}
use Rattle.grid.specs.declared.Refusal.{Refusal}
use Rattle.std.specs.Bool.{⊤}
use Rattle.std.specs.Result.{result_ok}
use Rattle.std.specs.List.{starts_with}
use Rattle.std.specs.Str.{bytes_eq}
use Rattle.std.proofs.lemmas.Slice.Eq.{bytes_eq-Decides}
use Rattle.whole.specs.Choice.{when◌then◌else◌}
use Rattle.grid.specs.Table.{farthest, WindowOnTable}
use Rattle.grid.specs.declared.Window.{Window}
use Rattle.grid.proofs.Refusals.{window_on_table}
use Rattle.slots.specs.Slots.{good_strip}
use Rattle.slots.specs.Workers.{strip_in}
use Rattle.strip_lines.specs.Lines.{row_text}
use Rattle.words.specs.Words.{Into}
use Rattle.row_reading.specs.Workers.{row_numbers, NumbersAt, RowOf}
use Rattle.row_reading.specs.Rows.{StandsAt, IsRow}
use Rattle.row_reading.proofs.Six.{Small}

-- ---- the numbers of a line fit an i32

small : {z : ℤ} → Within farthest z → mag z < 2 ^ 31
small {z} h = (fits_range {w = w32} {z = z} (omega (zarith, h.low)) (omega (zarith, h.high))).sfits

pub small_row : (k : ℕ) (w : Window) → k < 64 → good_strip w ≡ true → Small (row_numbers k w)
small_row k w h g = all
  where
    on : WindowOnTable w
    on = window_on_table w (eqb-true (window_refusal w).number 0 g)

    all : Small (row_numbers k w)
    all zero = omega arith
    all (suc zero) = omega arith
    all (suc (suc zero)) = small on.left
    all (suc (suc (suc zero))) = small on.bottom
    all (suc (suc (suc (suc zero)))) = small on.right
    all (suc (suc (suc (suc (suc zero))))) = small on.top
    all (suc (suc (suc (suc (suc (suc j)))))) = omega arith

-- ---- a list of six that is read into room for six

module _ (out : List ℤ) {o : Option (List ℤ)} {zs : List ℤ} (long : length out ≡ 6) (six : length zs ≡ 6) (is : o ≡ Some zs) where
  pub all_read : Into o out None → ⊥
  all_read never = omega (arith, never zs is)

  pub six_read : {n : ℕ} → Into o out (Some n) → (n ≡ 6) × (out ≡ zs)
  six_read {n} (h, s) =
      let front : take n out ≡ zs = let e : Some (take n out) ≡ Some zs = sym s ∙ is in cc in
      let size : min n (length out) ≡ 6 = sym (length-take n out) ∙ ap length front ∙ six in
      let count : n ≡ 6 = omega (arith, h, size) in
      (count, sym (take_all n out (omega arith)) ∙ front)

-- ---- the slot and the strip that six numbers are

pub size_fits : (z : ℤ) → mag z < 2 ^ 31 → nat_abs z ≤ 2 ^ 31
size_fits (pos n) h = omega arith
size_fits (negsuc n) h = omega arith

abbrev pub slot_in : List ℤ → ℕ
slot_in ns = nat_abs (get_or ns 0 (pos 0)) * 32 + nat_abs (get_or ns 1 (pos 0))

pub told_slot : (ns : List ℤ) (k : ℕ) (w : Window) → ns ≡ row_numbers k w → slot_in ns ≡ k
told_slot ns k w e = ap slot_in e ∙ (omega arith)

pub told_strip : (ns : List ℤ) (k : ℕ) (w : Window) → ns ≡ row_numbers k w → strip_in ns 1 ≡ w
told_strip ns k w e = ap (λ (zs : List ℤ). strip_in zs 1) e

-- what the test of the strip's numbers said
module _ {q : Result ⊤ Refusal} {o : Option ⊤} (r : Refusal) (e : q ≡ tested r) (f : o ≡ result_ok q) where
  pub test_fine : {u : ⊤} → o ≡ Some u → r.number ≡ 0
  unfolding tested
  test_fine {u} g = go (eqb r.number 0) refl e
    where
      go : (b : Bool) → eqb r.number 0 ≡ b → q ≡ (when b then Ok (tt {0}) else Err r) → r.number ≡ 0
      go true t e = eqb-true r.number 0 t
      go false t e = let n : None ≡ Some u = sym (f ∙ ap result_ok e) ∙ g in absurd (cc)

  pub test_refused : o ≡ None → r.number ≡ 0 → ⊥
  unfolding tested
  test_refused g h =
      let fine : q ≡ Ok (tt {0}) = e ∙ simp (eq-eqb r.number 0 h) in
      let n : Some (tt {0}) ≡ None = sym (f ∙ ap result_ok fine) ∙ g in
      cc

module _ (ns : List ℤ) where
  none_of : ((k : ℕ) (w : Window) → k < 64 → good_strip w ≡ true → ns ≡ row_numbers k w → ⊥) → RowOf ns None
  none_of never = record { finds = λ k w h g e. absurd (never k w h g e); sound = tt }

  pub no_slot : 63 < slot_in ns → RowOf ns None
  no_slot far = none_of λ k w h g e. omega (arith, told_slot ns k w e)

  pub no_strip : ((window_refusal (strip_in ns 1)).number ≡ 0 → ⊥) → RowOf ns None
  no_strip bad = none_of λ k w h g e. bad (ap (λ (v : Window). (window_refusal v).number) (told_strip ns k w e) ∙ eqb-true (window_refusal w).number 0 g)

  pub a_row : (k : ℕ) (w : Window) → k ≡ slot_in ns → w ≡ strip_in ns 1 → k < 64 → (window_refusal w).number ≡ 0 → RowOf ns (Some (k, w))
  a_row k w ek ew h g =
      record {
        finds = λ j v i f e. ap₂ (λ (x : ℕ) (y : Window). Some (x, y)) (ek ∙ told_slot ns j v e) (ew ∙ told_strip ns j v e);
        sound = (h, eq-eqb (window_refusal w).number 0 g);
      }

-- ---- the comparison of what stands there with the line that was made

module _ (t : List ℕ) (i : ℕ) {line made : List ℕ} {b : Bool} (e : b ≡ starts_with eqb (take (length t - i) (drop i t)) made) (m : made ≡ line) where
  test_is : b ≡ bytes_eq made (take (length made) (drop i t))
  test_is = let rest : take (length t - i) (drop i t) ≡ drop i t = take_all (length t - i) (drop i t) (omega (arith, length-drop i t)) in
      e ∙ ap (λ (l : List ℕ). starts_with eqb l made) rest

  pub stands : b ≡ true → StandsAt t i line
  stands h = subst (λ (x : List ℕ). StandsAt t i x) m (sym ((bytes_eq-Decides made (take (length made) (drop i t))).0 (sym test_is ∙ h)))

  pub stands_not : b ≡ false → StandsAt t i line → ⊥
  stands_not h s =
      let same = sym (subst (λ (x : List ℕ). StandsAt t i x) (sym m) s) in
      ff_tt (sym h ∙ test_is ∙ (bytes_eq-Decides made (take (length made) (drop i t))).1 same)

-- ---- a line that is found, or none

abbrev Told : Type 0
Told = Option (ℕ × Window)

module _ {t : List ℕ} {i : ℕ} where
  pub no_six : NumbersAt t i None → (k : ℕ) (w : Window) → IsRow t i k w → ⊥
  no_six n k w r = ff_tt (ap is_some (n k w r))

  module _ {ns : List ℤ} (n : NumbersAt t i (Some ns)) where
    numbers_are : (k : ℕ) (w : Window) → IsRow t i k w → ns ≡ row_numbers k w
    numbers_are k w r = let e : ◌≡◌ {A = Option (List ℤ)} (Some ns) (Some (row_numbers k w)) = n k w r in cc

    pub not_of : RowOf ns None → (k : ℕ) (w : Window) → IsRow t i k w → ⊥
    not_of o k w r = ff_tt (ap is_some (o.finds k w r.slot r.good (numbers_are k w r)))

    -- the line that six numbers tell is the only one that can stand there
    pub line_of : {k : ℕ} {w : Window} → RowOf ns (Some (k, w)) → (j : ℕ) (v : Window) → IsRow t i j v → StandsAt t i (row_text k w)
    line_of {k} {w} o j v r =
        let e : ◌≡◌ {A = Told} (Some (k, w)) (Some (j, v)) = o.finds j v r.slot r.good (numbers_are j v r) in
        let both : ◌≡◌ {A = ℕ × Window} (k, w) (j, v) = cc in
        subst (λ (p : ℕ × Window). StandsAt t i (row_text p.0 p.1)) (sym both) r.line
