-- Corners written into an output: one after the other, some behind others, and a whole ring for which there is room or is not.
use mathlib.Core.Path.{◌≡◌, sym, ap, ◌∙◌, subst, subst₂}
use mathlib.Core.List.{List, [], ◌∷◌, ◌++◌, append_assoc, append-nil}
use Prim.Native.Nat.{ℕ, zero, suc, ◌+◌, ◌-◌, ◌*◌, ◌≤◌, ◌<◌, ◌^◌}
use native.Mathlib.Omega.{arith}
use borrow.Author.Tests.{le-leb, lt-leb}
use lib.IntN.{ℤ, pos}
use lib.ListN.{length, get_or, take, drop, length-append, length-drop, drop_of_length-le}
use lib.Seq.{take_all, take_at, drop_at, drop-drop}
use lib.Signed.{mag}
use mir.Syntax.{w32}
use mir.Val.{to_z, of_z}
use Rattle.whole.proofs.Comparisons.{back}
use Rattle.fraction.proofs.LowestTerms.{lowest_of_unique}
use Rattle.fraction.proofs.Computed.{lowest_of, lowest_of_is}
use Rattle.grid.specs.Calls.{written}
use Rattle.grid.proofs.Fill.{Filled, filled_start, filled_put, filled_end}
use Rattle.rings.specs.Lists.{All, Turned}
use Rattle.rings.specs.Points.{Point, Proper}
use Rattle.rings.specs.Rings.{Ring, Starts}
use Rattle.rings.proofs.Lists.{turned_length, turned_all}
use Rattle.rings.proofs.Theorems.{start}
use Rattle.memory.specs.Memory.{ring_from, ring_in}
use Rattle.memory.proofs.Memories.{ring_length}
use Rattle.writing.specs.Numbers.{RingNumbers}
use Rattle.writing.specs.Writing.{WroteFraction, Wrote, GaveRing}
use Rattle.lowest.proofs.Memory.{at_place}
use Rattle.writing.proofs.Numbers.{numbers_of, numbers_of_lem, numbers_length, numbers_append}

-- two numbers as they are read
pub read_fraction : {k : ℕ} {before after : List ℤ} (n d : ℤ) → mag n < 2 ^ 31 → mag d < 2 ^ 31
    → WroteFraction (to_z w32 (of_z w32 n)) (to_z w32 (of_z w32 d)) k before after → WroteFraction n d k before after
read_fraction {k} {before} {after} n d hn hd = subst₂ (λ (n d : ℤ). WroteFraction n d k before after) (back w32 n hn) (back w32 d hd)

-- ---- one corner: its two fractions are written, and those of the corners r are still to come
module _ {p : Point} {k : ℕ} {out out₁ out₂ : List ℤ} (h : Proper p)
    (x : WroteFraction p.X p.W k out out₁) (y : WroteFraction p.Y p.W (k + 2) out₁ out₂) where
  due : (r : List Point) → numbers_of (p ∷ r) ≡ (x.fraction.num ∷ x.fraction.den ∷ []) ++ ((y.fraction.num ∷ y.fraction.den ∷ []) ++ numbers_of r)
  unfolding numbers_of
  due r =
      let f : lowest_of p.X p.W ≡ x.fraction = lowest_of_unique h (lowest_of_is _ h) x.lowest in
      let g : lowest_of p.Y p.W ≡ y.fraction = lowest_of_unique h (lowest_of_is _ h) y.lowest in
      λ t. (f t).num ∷ (f t).den ∷ (g t).num ∷ (g t).den ∷ numbers_of r

  next_corner : {K out₀ : List ℤ} (r : List Point) → length K ≤ length out₀ → Filled K (numbers_of (p ∷ r)) out out₀ k → Filled K (numbers_of r) out₂ out₀ (k + 4)
  next_corner {K} {out₀} r room s =
      let ys = y.fraction.num ∷ y.fraction.den ∷ [] in
      let one = filled_put (x.fraction.num ∷ x.fraction.den ∷ []) (rw (due r) at s) room in
      let two = filled_put ys (subst (λ (zs : List ℤ). Filled K (ys ++ numbers_of r) zs out₀ (k + 2)) (sym x.output) one) room in
      let e : k + 2 + 2 ≡ k + 4 = omega arith in
      rw (y.output, ← e) two

-- ---- the first n corners of a memory: k numbers stand at the front of the output, those of the corners from a place on are still to come
pub record PartWritten (m : List ℤ) (n : ℕ) (out₀ out : List ℤ) (k : ℕ) : Type 0 where
  pub place : ℕ
  pub left : ℕ
  pub four : k ≡ 4 * place
  pub all : place + left ≡ n
  pub filled : Filled (numbers_of (ring_in m n)) (numbers_of (ring_from m place left)) out out₀ k

-- the corner whose numbers stand from k on
abbrev pub corner_from : List ℤ → ℕ → Point
corner_from m k = record { X = get_or m k (pos 0); Y = get_or m (k + 1) (pos 0); W = get_or m (k + 2) (pos 0) }

module _ (m : List ℤ) (n : ℕ) (h : All Proper (ring_in m n)) where
  count : length (numbers_of (ring_in m n)) ≡ 4 * n
  count = numbers_length (numbers_of_lem h) ∙ ap (λ (k : ℕ). 4 * k) (ring_length m 0 n)

  pub part_starts : {out₀ : List ℤ} → PartWritten m n out₀ out₀ 0
  part_starts = record { place = 0; left = n; four = omega arith; all = omega arith; filled = filled_start _ _ }

  pub part_proper : {out₀ out : List ℤ} {k : ℕ} → k < 4 * n → PartWritten m n out₀ out k → Proper (corner_from m k)
  part_proper l r = subst (λ (j : ℕ). Proper (corner_from m j)) (sym r.four) (at_place m h (omega (arith, r.four)))

  pub part_goes_on : {out₀ out out₁ out₂ : List ℤ} {k : ℕ} → 4 * n ≤ length out₀ → k < 4 * n → PartWritten m n out₀ out k
      → WroteFraction (corner_from m k).X (corner_from m k).W k out out₁ → WroteFraction (corner_from m k).Y (corner_from m k).W (k + 2) out₁ out₂
      → PartWritten m n out₀ out₂ (k + 4)
  unfolding ring_from
  part_goes_on {out₀} {out} {out₁} {out₂} {k} room l r x y = go r.left r.all r.filled
    where
      go : (c : ℕ) → r.place + c ≡ n → Filled (numbers_of (ring_in m n)) (numbers_of (ring_from m r.place c)) out out₀ k → PartWritten m n out₀ out₂ (k + 4)
      go zero q d = absurd (omega (arith, r.four))
      go (suc c) q d =
          let due = ring_from m (suc r.place) c in record {
            place = suc r.place;
            left = c;
            four = omega (arith, r.four);
            all = omega arith;
            filled = next_corner (part_proper l r) x y due (omega (arith, count))
                (subst (λ (j : ℕ). Filled (numbers_of (ring_in m n)) (numbers_of (corner_from m j ∷ due)) out out₀ k) (sym r.four) d);
          }

  pub part_ends : {out₀ out : List ℤ} {k : ℕ} → 4 * n ≤ k → PartWritten m n out₀ out k → Wrote (ring_in m n) out₀ out
  unfolding ring_from numbers_of
  part_ends {out₀} {out} {k} l r = record {
    numbers = numbers_of (ring_in m n);
    are = numbers_of_lem h;
    output = filled_end (go r.left (omega (arith, r.four, r.all)) r.filled);
  }
    where
      go : (c : ℕ) → c ≡ 0 → Filled (numbers_of (ring_in m n)) (numbers_of (ring_from m r.place c)) out out₀ k → Filled (numbers_of (ring_in m n)) [] out out₀ k
      go c e d = rw e at d

-- ---- some corners written from the front, and then others behind them
room : (xs out : List ℤ) → length xs ≤ length out → written xs out ≡ xs ++ drop (length xs) out
unfolding written
room xs out h = simp (le-leb _ _ h)

pub wrote_same : {r s : List Point} {before after : List ℤ} → r ≡ s → Wrote r before after → Wrote s before after
wrote_same {before} {after} = subst (λ (r : List Point). Wrote r before after)

pub wrote_rest : {r s : List Point} {out out₁ ys : List ℤ} (k : ℕ) → 4 * length r ≡ k → k + 4 * length s ≤ length out → Wrote r out out₁
    → Wrote s (take (length out₁ - k) (drop k out₁)) ys → Wrote (r ++ s) out (take k out₁ ++ (ys ++ drop (length out₁ - k) (drop k out₁)))
wrote_rest {r} {s} {out} {out₁} {ys} k e h p q =
    let xs = p.numbers in
    let zs = q.numbers in
    let lx : length xs ≡ k = numbers_length p.are ∙ e in
    let lz : length zs ≡ 4 * length s = numbers_length q.are in
    let o : out₁ ≡ xs ++ drop k out = p.output ∙ room xs out (omega arith) ∙ ap (λ (n : ℕ). xs ++ drop n out) lx in
    let front : take k out₁ ≡ xs = ap (take k) o ∙ take_at xs (drop k out) k lx in
    let back : drop k out₁ ≡ drop k out = ap (drop k) o ∙ drop_at xs (drop k out) k lx in
    let part : take (length out₁ - k) (drop k out₁) ≡ drop k out = take_all (length out₁ - k) (drop k out₁) (omega (arith, length-drop k out₁)) ∙ back in
    let none : drop (length out₁ - k) (drop k out₁) ≡ [] = drop_of_length-le (drop k out₁) {i = length out₁ - k} (omega (arith, length-drop k out₁)) in
    let y : ys ≡ zs ++ drop (length zs) (drop k out) = q.output ∙ ap (written zs) part ∙ room zs (drop k out) (omega (arith, length-drop k out)) in record {
      numbers = xs ++ zs;
      are = numbers_append p.are q.are;
      output =
          (λ t. front t ++ (y t ++ none t))
          ∙ ap (λ (l : List ℤ). xs ++ l) (append-nil (zs ++ drop (length zs) (drop k out)) ∙ ap (λ (l : List ℤ). zs ++ l) (drop-drop (length zs) k out))
          ∙ sym (append_assoc xs zs (drop (k + length zs) out))
          ∙ ap (λ (n : ℕ). (xs ++ zs) ++ drop n out) (sym (length-append xs zs ∙ ap (λ (n : ℕ). n + length zs) lx))
          ∙ sym (room (xs ++ zs) out (omega (arith, length-append xs zs)));
    }

-- ---- a ring given into an output: n numbers, wherever it is started
module _ {r : List Point} {n : ℕ} (four : 4 * length r ≡ n) where
  four_a_corner : {s : List Point} {xs : List ℤ} → Turned r s → RingNumbers s xs → n ≡ length xs
  four_a_corner t p = sym (numbers_length p ∙ ap (λ (k : ℕ). 4 * k) (turned_length t) ∙ four)

  pub gave_short : {before : List ℤ} → Ring r → length before < n → GaveRing r n before before
  unfolding written
  gave_short {before} g h =
      let s = start r g in
      let p = numbers_of_lem (turned_all s.1 g.proper) in
      let e : n ≡ length (numbers_of s.0) = four_a_corner s.1 p in
      record { numbers = numbers_of s.0; gives = record { corners = s.0; turned = s.1; starts = s.2; are = p }; count = e; output = simp (sym e, lt-leb _ _ h) }

  pub gave_wrote : {s : List Point} {before after : List ℤ} → Turned r s → Starts s → Wrote s before after → GaveRing r n before after
  gave_wrote {s} t b w = record {
    numbers = w.numbers;
    gives = record { corners = s; turned = t; starts = b; are = w.are };
    count = four_a_corner t w.are;
    output = w.output;
  }
