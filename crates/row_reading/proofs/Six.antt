-- The numbers of a line are its words up to the equals sign, each a number that reads back.
use mathlib.Core.Path.{◌≡◌, refl, sym, ap, ap₂, ◌∙◌}
use mathlib.Core.Logic.{inl, inr}
use mathlib.Core.List.{List, [], ◌∷◌, ◌++◌, append_assoc, append-nil}
use Rattle.std.specs.Prelude.{Some}
use Prim.Native.Nat.{ℕ, suc, ◌+◌, ◌-◌, ◌/◌, ◌%◌, ◌<◌, ◌≤◌, ◌^◌}
use native.Mathlib.Nat.{lt_of_lt_of_le}
use native.Mathlib.Omega.{arith}
use borrow.Author.Tests.{lt-ltb}
use lib.Dec.{lit≤}
use lib.IntN.{ℤ, pos, negsuc, nat_abs}
use lib.ListN.{length, get_or, take, drop, length-append, take-append-drop}
use lib.Seq.{take_at, drop_at, drop-cons}
use lib.Signed.{mag}
use Rattle.grid.specs.Table.{sides}
use Rattle.grid.specs.declared.Window.{Window}
use Rattle.text.specs.Pages.{integer, ascii}
use Rattle.text.specs.Runs.{run, is_not}
use Rattle.text.proofs.Runs.{run_failed, run_passed}
use Rattle.words.specs.Words.{words, arguments, numeral, as_integer, integers}
use Rattle.words.proofs.Spaces.{to_space, words_cut}
use Rattle.words.proofs.Theorems.{integer_back}
use Rattle.strip_lines.specs.Lines.{listed, lengths, strip_text, row_text}
use Rattle.row_reading.specs.Rows.{StandsAt}
use Rattle.row_reading.specs.Workers.{row_numbers}
use Rattle.row_reading.proofs.Bytes.{over_number}

-- ---- words

no_space : (rest : List ℕ) → run (is_not 32) (32 ∷ rest) ≡ 0
no_space rest = run_failed (is_not 32) 32 rest refl

first_word : (z : ℤ) (rest : List ℕ) → words (integer z ++ 32 ∷ rest) ≡ integer z ∷ words rest
unfolding arguments
first_word z rest =
    let l = integer z ++ 32 ∷ rest in
    let far : length (integer z) ≡ to_space l = omega (arith, over_number 32 (inl (omega arith)) z (32 ∷ rest), no_space rest) in
    words_cut l
    ∙ ap₂ (λ (w r : List ℕ). w ∷ arguments r)
    (take_at (integer z) (32 ∷ rest) (to_space l) far)
    (drop_at (integer z) (32 ∷ rest) (to_space l) far)

last_word : (z : ℤ) → words (integer z) ≡ integer z ∷ []
unfolding arguments run
last_word z =
    let l = integer z in
    let e : l ++ [] ≡ l = append-nil l in
    let far : length l ≡ to_space l = omega (arith, over_number 32 (inl (omega arith)) z [], ap to_space e) in
    words_cut l
    ∙ ap₂ (λ (w r : List ℕ). w ∷ arguments r)
    (ap (take (to_space l)) (sym e) ∙ take_at l [] (to_space l) far)
    (ap (drop (to_space l)) (sym e) ∙ drop_at l [] (to_space l) far)

-- ---- numbers with a space between them

abbrev pub Small : List ℤ → Type 0
Small zs = (j : ℕ) → mag (get_or zs j (pos 0)) < 2 ^ 31

few_digits : (z : ℤ) → mag z < 2 ^ 31 → nat_abs z < 10 ^ 20
few_digits (pos n) h = lt_of_lt_of_le h (lit≤ tt)
few_digits (negsuc n) h = lt_of_lt_of_le (the_next n h) (lit≤ tt)
  where
    the_next : (n : ℕ) → n < 2 ^ 31 → suc n < 2 ^ 32
    the_next n h = omega arith

number_back : (z : ℤ) → mag z < 2 ^ 31 → as_integer (numeral (integer z)) ≡ Some z
unfolding as_integer
number_back z h = rw (integer_back z (few_digits z h), lt-ltb (mag z) (2 ^ 31) h)

abbrev joined : ℤ → List ℤ → List ℕ
joined z [] = integer z
joined z (y ∷ zs) = integer z ++ 32 ∷ joined y zs

all_back : (z : ℤ) (zs : List ℤ) → Small (z ∷ zs) → integers (words (joined z zs)) ≡ Some (z ∷ zs)
unfolding integers
all_back z [] h = rw (last_word z, number_back z (h 0))
all_back z (y ∷ zs) h = rw (first_word z (joined y zs), number_back z (h 0), all_back y zs (λ (j : ℕ). h (suc j)))

listed_joined : (z : ℤ) (zs : List ℤ) → listed (z ∷ zs) ≡ joined z zs ++ 32 ∷ []
unfolding listed
listed_joined z [] = append-nil (integer z ++ 32 ∷ [])
listed_joined z (y ∷ zs) =
    append_assoc (integer z) (32 ∷ []) (listed (y ∷ zs))
    ∙ ap (λ (l : List ℕ). integer z ++ 32 ∷ l) (listed_joined y zs)
    ∙ sym (append_assoc (integer z) (32 ∷ joined y zs) (32 ∷ []))

over_listed : (zs : List ℤ) (rest : List ℕ) → run (is_not 61) (listed zs ++ 61 ∷ rest) ≡ length (listed zs)
unfolding listed
over_listed [] rest = run_failed (is_not 61) 61 rest refl
over_listed (z ∷ zs) rest =
    let behind = listed zs ++ 61 ∷ rest in
    let whole : listed (z ∷ zs) ++ 61 ∷ rest ≡ integer z ++ 32 ∷ behind =
    append_assoc (integer z ++ 32 ∷ []) (listed zs) (61 ∷ rest) ∙ append_assoc (integer z) (32 ∷ []) behind in
    let number = over_number 61 (inr (omega arith)) z (32 ∷ behind) in
    let space = run_passed (is_not 61) 32 behind refl in
    let size = length-append (integer z ++ 32 ∷ []) (listed zs) in
    let size' = length-append (integer z) (32 ∷ []) in
    ap (run (is_not 61)) whole ∙ (omega (arith, number, space, over_listed zs rest, size, size'))

-- ---- a line

-- what stands behind the equals sign
abbrev pub tail : Window → List ℕ
tail w = 32 ∷ (lengths (sides w) ++ (ascii "mm" ++ ascii "\n"))

regroup : (a b s e m u n : List ℕ) → ((a ++ (b ++ [])) ++ (((s ++ e) ++ m) ++ u)) ++ n ≡ (a ++ (b ++ s)) ++ (e ++ (m ++ (u ++ n)))
regroup a b s e m u n =
    append_assoc (a ++ (b ++ [])) (((s ++ e) ++ m) ++ u) n
    ∙ ap (λ (x : List ℕ). (a ++ x) ++ ((((s ++ e) ++ m) ++ u) ++ n)) (append-nil b)
    ∙ ap (λ (x : List ℕ). (a ++ b) ++ x) (append_assoc ((s ++ e) ++ m) u n ∙ append_assoc (s ++ e) m (u ++ n) ∙ append_assoc s e (m ++ (u ++ n)))
    ∙ sym (append_assoc (a ++ b) s (e ++ (m ++ (u ++ n))))
    ∙ ap (λ (x : List ℕ). x ++ (e ++ (m ++ (u ++ n)))) (append_assoc a b s)

pub row_parts : (k : ℕ) (w : Window) → row_text k w ≡ listed (row_numbers k w) ++ 61 ∷ tail w
unfolding row_text strip_text listed
row_parts k w =
    regroup (integer (pos (k / 32)) ++ 32 ∷ []) (integer (pos (k % 32)) ++ 32 ∷ []) (listed (sides w)) (ascii "= ") (lengths (sides w)) (ascii "mm") (ascii "\n")

-- what stands at a place is the front of what follows there
pub stands_front : (t word : List ℕ) (i : ℕ) → StandsAt t i word → drop i t ≡ word ++ drop (length word) (drop i t)
stands_front t word i h = sym (take-append-drop (length word) (drop i t)) ∙ ap (λ (l : List ℕ). l ++ drop (length word) (drop i t)) h

module _ (t : List ℕ) (i end : ℕ) (k : ℕ) (w : Window) (one : 1 ≤ i) (stands : StandsAt t i (row_text k w))
    (found : end ≡ i + run (is_not 61) (drop i t)) where
  abbrev front : List ℕ
  front = joined (pos (k / 32)) (pos (k % 32) ∷ sides w)

  abbrev behind : List ℕ
  behind = tail w ++ drop (length (row_text k w)) (drop i t)

  line_is : drop i t ≡ listed (row_numbers k w) ++ 61 ∷ behind
  line_is =
      stands_front t (row_text k w) i stands
      ∙ ap (λ (l : List ℕ). l ++ drop (length (row_text k w)) (drop i t)) (row_parts k w)
      ∙ append_assoc (listed (row_numbers k w)) (61 ∷ tail w) (drop (length (row_text k w)) (drop i t))

  sign_at : end ≡ i + length (listed (row_numbers k w))
  sign_at = found ∙ ap (i +◌) (ap (run (is_not 61)) line_is ∙ over_listed (row_numbers k w) behind)

  front_is : drop i t ≡ front ++ 32 ∷ 61 ∷ behind
  front_is =
      line_is
      ∙ ap (λ (l : List ℕ). l ++ 61 ∷ behind) (listed_joined (pos (k / 32)) (pos (k % 32) ∷ sides w))
      ∙ append_assoc front (32 ∷ []) (61 ∷ behind)

  -- the words before the equals sign, with the byte before the first of them
  words_are : end ≤ length t → arguments (take (end - 1 - (i - 1)) (drop (i - 1) t)) ≡ words front
  unfolding arguments
  words_are h =
      let size : length (listed (row_numbers k w)) ≡ length front + 1 =
      ap length (listed_joined (pos (k / 32)) (pos (k % 32) ∷ sides w)) ∙ length-append front (32 ∷ []) in
      let many : end - 1 - (i - 1) ≡ suc (length front) = omega (arith, sign_at) in
      let at : suc (i - 1) ≡ i = omega arith in
      ap₂ (λ (n : ℕ) (l : List ℕ). arguments (take n l)) many
      (drop-cons t (i - 1) 0 (omega (arith, sign_at)) ∙ ap (λ (n : ℕ). get_or t (i - 1) 0 ∷ drop n t) at)
      ∙ ap words (ap (take (length front)) front_is ∙ take_at front (32 ∷ 61 ∷ behind) (length front) refl)

  pub six_are : Small (row_numbers k w) → end ≤ length t → integers (arguments (take (end - 1 - (i - 1)) (drop (i - 1) t))) ≡ Some (row_numbers k w)
  six_are small h = ap integers (words_are h) ∙ all_back (pos (k / 32)) (pos (k % 32) ∷ sides w) small
