-- A record is its first byte and its numbers; what becomes of a line is what becomes of its record.
use mathlib.Core.Path.{◌≡◌, subst}
use mathlib.Core.Bool.{Bool, true, false}
use mathlib.Core.List.{List}
use Prim.Native.Nat.{ℕ, ◌+◌, ◌-◌, ◌*◌, ◌≤◌}
use mathlib.Core.Logic.{◌⊎◌, inl, inr}
use native.Mathlib.Omega.{arith}
use lib.ListN.{length, take, set}
use Rattle.whole.proofs.Comparisons.{ff_tt, tt_ff}
use Rattle.text.proofs.Puts.{put_nothing, put_byte, put_then}
use Rattle.pen_line.specs.Lines.{end_of, word, Numerals, NoNumerals, Asks, Record, words_end, spoken}
use Rattle.pen_line.specs.Records.{Ordered, its_record, long_drawing, not_numbers, LineTaken, taken, refused}
use Rattle.pen_line.specs.Workers as Workers
use Rattle.pen_line.specs.Workers.{NumbersPut, RecordPut}
use Rattle.pen_line.specs.declared.Fault.{Fault}
use Rattle.pen_line.specs.declared.Fault.TheVariants.{NotNumbers}
use Rattle.std.specs.Prelude.{Result, Ok, Err}

module _ {l : List ℕ} {i n b : ℕ} {before after : List ℕ} {at : ℕ} (h : at + 1 + n * 4 ≤ length before) where
  pub recorded : {t : Bool} → t ≡ true → NumbersPut l i n (set before at b) after (at + 1) t → RecordPut l i b n before after at (Ok (at + 1 + n * 4))
  recorded e (Workers.all m o p) = Workers.put m o (put_then (put_byte b (omega arith) (put_nothing before (omega arith))) p)
  recorded e (Workers.not_all x) = absurd (ff_tt e)

  pub not_recorded : {t : Bool} → t ≡ false → NumbersPut l i n (set before at b) after (at + 1) t → RecordPut l i b n before after at (Err (NotNumbers n))
  not_recorded e (Workers.all m o p) = absurd (tt_ff e)
  not_recorded e (Workers.not_all x) = Workers.wrong h x

pub taken_as : {l before after : List ℕ} {at e b n : ℕ} {r : Result ℕ Fault} → 4 ≤ at → at ≤ length before → e ≡ end_of l 0 → Asks (word l 0) b n → Ordered b (at - 4)
    → RecordPut l e b n before after at r → LineTaken l before after at r
taken_as {l} {b = b} {n = n} f g q a o (Workers.put {k = k} {bs = bs} m z p) =
    let ns = subst (λ (x : ℕ). Numerals l x n k bs) q m in
    let r : Record l b bs = record { count = n; end = k; asks = a; numerals = ns; over = z } in
    taken (its_record r o (omega (arith, p.ends, p.fits, p.same))) p
taken_as f g q a o (Workers.long h) = refused (long_drawing a o (omega arith))
taken_as {l} {n = n} f g q a o (Workers.wrong h x) = refused (not_numbers a o (omega arith) (subst (λ (y : ℕ). NoNumerals l y n) q x))

-- a line up to where its words end
pub spoken_to : (l : List ℕ) {before after : List ℕ} {at e : ℕ} {r : Result ℕ Fault} → e ≡ words_end l → LineTaken (take e l) before after at r
    → LineTaken (spoken l) before after at r
spoken_to l {before} {after} {at} {e} {r} q k = subst (λ (x : ℕ). LineTaken (take x l) before after at r) q k

-- a record may follow that neither of the two tests turned away
pub ordered : {b at : ℕ} → 4 ≤ at → (b ≡ 1 × at ≡ 4) ⊎ (b ≡ 1 → ⊥) → ((b ≡ 1 → ⊥) × (at ≡ 4 → ⊥)) ⊎ (b ≡ 1) → Ordered b (at - 4)
ordered h (inl (e, f)) r = (λ z. omega arith, λ z. e)
ordered h (inr n) (inl (m, f)) = (λ z. absurd (n z), λ z. absurd (f (omega arith)))
ordered h (inr n) (inr e) = absurd (n e)
