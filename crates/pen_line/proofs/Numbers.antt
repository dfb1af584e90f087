-- The numbers of a line as a loop puts them: n of them stand in the page, and the last ends at the place k of the line.
use mathlib.Core.Path.{◌≡◌, refl, sym, ◌∙◌, subst}
use mathlib.Core.Bool.{Bool, true, false}
use mathlib.Core.List.{List, [], ◌++◌}
use Prim.Native.Nat.{ℕ, ◌+◌, ◌-◌, ◌*◌, ◌<◌, ◌≤◌}
use native.Mathlib.Omega.{arith}
use borrow.Author.Tests.{eqb-true, eqb-false}
use lib.Dec.{eqb}
use lib.ListN.{length, take, drop}
use Rattle.decimal.specs.Decimals.{Reads}
use Rattle.std.specs.Prelude.{Some, None}
use Rattle.text.specs.Pages.{Put, big_endian}
use Rattle.text.specs.Runs.{run, is_not}
use Rattle.text.proofs.Puts.{put_nothing, put_to, put_then}
use Rattle.pen_line.specs.Lines.{start_of, Numerals, none, one_more, NoNumerals, no_number, too_many}
use Rattle.pen_line.specs.Workers.{NumbersPut, all, not_all}
use Rattle.pen_line.proofs.Words.{end_is, word_is}

pub record Begun (l : List ℕ) (i n k : ℕ) (before after : List ℕ) (at : ℕ) : Type 0 where
  pub bytes : List ℕ
  pub numerals : Numerals l i n k bytes
  pub put : Put before after at (at + n * 4) bytes

pub begun_start : (l page : List ℕ) (i at : ℕ) → at ≤ length page → Begun l i 0 i page page at
begun_start l page i at h =
    record { bytes = []; numerals = none; put = put_to (at + 0 * 4) (omega arith) (put_nothing page h) }

module _ {l : List ℕ} {i n k at : ℕ} {before after : List ℕ} (b : Begun l i n k before after at) {s : ℕ} (p : s ≡ start_of l k) where
  module _ {e : ℕ} (q : e ≡ s + run (is_not 32) (drop s l)) where
    pub begun_on : {bits r : ℕ} {next : List ℕ} → Reads (take (e - s) (drop s l)) (Some bits) → Put after next (at + n * 4) r (big_endian bits)
        → Begun l i (n + 1) e before next at
    begun_on {bits} {r} {next} d w =
        record {
          bytes = b.bytes ++ big_endian bits;
          numerals = subst (λ (x : ℕ). Numerals l i (n + 1) x (b.bytes ++ big_endian bits)) (sym (end_is l k p q))
              (one_more b.numerals (subst (λ (w : List ℕ). Reads w (Some bits)) (word_is l k p q) d));
          put = put_to (at + (n + 1) * 4) (omega (arith, w.ends)) (put_then b.put w);
        }

    pub stops : {m : ℕ} → n < m → Reads (take (e - s) (drop s l)) None → NoNumerals l i m
    stops h d = no_number h b.numerals (subst (λ (w : List ℕ). Reads w None) (word_is l k p q) d)

  pub over : {m : ℕ} → n ≡ m → NumbersPut l i m before after at (eqb s (length l))
  over {m} z = subst (λ (x : ℕ). NumbersPut l i x before after at (eqb s (length l))) z (go (eqb s (length l)) refl)
    where
      go : (t : Bool) → eqb s (length l) ≡ t → NumbersPut l i n before after at t
      go true e = all b.numerals (sym p ∙ eqb-true s (length l) e) b.put
      go false e = not_all (too_many b.numerals (λ z. eqb-false s (length l) e (p ∙ z)))
