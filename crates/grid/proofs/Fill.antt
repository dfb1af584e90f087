-- A loop that writes a list K from the front of a slice, some numbers at a time: n are written, `rest` is still to come, and what is past n is as it was.
use Prim.Native.Nat.{ℕ, ◌+◌, ◌≤◌, zero-le}
use mathlib.Core.Path.{◌≡◌, refl, sym, ap, ◌∙◌}
use mathlib.Core.List.{List, [], ◌++◌, append_assoc, append-nil}
use native.Mathlib.Omega.{arith}
use borrow.Author.Tests.{le-leb}
use lib.IntN.{ℤ}
use lib.ListN.{length, take, drop, length-append, take-append-drop}
use lib.Seq.{length-take-le, take_at, drop_at, drop-drop, sets, sets-eq, length-sets}
use Rattle.grid.specs.Calls.{written}

pub record Filled (K rest out out₀ : List ℤ) (n : ℕ) : Type 0 where
  pub front : take n out ++ rest ≡ K
  pub tail : drop n out ≡ drop n out₀
  pub same : length out ≡ length out₀
  pub fits : n ≤ length out

pub filled_start : (K out : List ℤ) → Filled K K out out 0
filled_start K out = record { front = refl; tail = refl; same = refl; fits = zero-le }

pub filled_room : {K rest out out₀ : List ℤ} {n : ℕ} → Filled K rest out out₀ n → n + length rest ≡ length K
filled_room {K} {rest} {out} {out₀} {n} f = omega (arith, ap length f.front, length-append (take n out) rest, length-take-le n out f.fits)

pub filled_put : {K rest out out₀ : List ℤ} {n : ℕ} (vs : List ℤ)
    → Filled K (vs ++ rest) out out₀ n → length K ≤ length out₀ → Filled K rest (sets out n vs) out₀ (n + length vs)
filled_put {K} {rest} {out} {out₀} {n} vs f h =
    let room : n + length vs ≤ length out = omega (arith, filled_room f, length-append vs rest, f.same) in
    let long : length (take n out ++ vs) ≡ n + length vs = length-append (take n out) vs ∙ ap (λ (k : ℕ). k + length vs) (length-take-le n out f.fits) in
    record {
      front = rw (sets-eq vs out n room, take_at (take n out ++ vs) (drop (n + length vs) out) (n + length vs) long, append_assoc) f.front;
      tail =
          rw (sets-eq vs out n room, drop_at (take n out ++ vs) (drop (n + length vs) out) (n + length vs) long)
          (sym (drop-drop (length vs) n out) ∙ ap (drop (length vs)) f.tail ∙ drop-drop (length vs) n out₀);
      same = length-sets out n vs ∙ f.same;
      fits = rw (length-sets out n vs) room;
    }

pub filled_end : {K out out₀ : List ℤ} {n : ℕ} → Filled K [] out out₀ n → out ≡ written K out₀
unfolding written
filled_end {K} {out} {out₀} {n} f =
    let k : take n out ≡ K = sym (append-nil (take n out)) ∙ f.front in
    let l : length K ≡ n = sym (ap length k) ∙ length-take-le n out f.fits in
    let room : length K ≤ length out₀ = omega (arith, f.same, f.fits) in
    rw (le-leb _ _ room, l) (sym (take-append-drop n out) ∙ ap (λ (x : List ℤ). x ++ drop n out) k ∙ ap (λ (x : List ℤ). K ++ x) f.tail)
