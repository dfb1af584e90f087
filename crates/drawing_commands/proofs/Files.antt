-- The file of a line stands behind the room, and a byte of it takes two digits.
use mathlib.Core.Path.{◌≡◌, refl, sym, subst, ap, ◌∙◌}
use mathlib.Core.Bool.{Bool, true, false, ◌&&◌}
use mathlib.Core.List.{List, [], ◌∷◌}
use Rattle.std.specs.Prelude.{Option, None, Some}
use Prim.Native.Nat.{ℕ, suc, ◌+◌, ◌*◌, ◌≤◌, ◌<◌}
use native.Mathlib.Omega.{arith}
use lib.Dec.{eqb, ltb}
use lib.IntN.{ℤ}
use lib.ListN.{length, drop, length-drop}
use Rattle.whole.specs.Choice.{when◌then◌else◌}
use Rattle.words.specs.Digits.{digit_of}
use Rattle.words.specs.Words.{and, pairs, bytes, has_minus, Into}
use Rattle.arguments.specs.Arguments.{first_end, behind_first}
use Rattle.replies.specs.Replies.{to_call, to_none}
use Rattle.replies.specs.declared.Reply.{Reply}
use Rattle.drawing_commands.specs.Lines.{DrawArguments, AsksDrawing, DrawLine}

-- where nothing stands behind the room, there is no file
pub no_file : (text behind bs : List ℕ) → behind ≡ behind_first text → length behind ≡ 0 → bytes (drop 1 (behind_first text)) ≡ Some bs → ⊥
unfolding bytes
no_file text [] bs e h k = let nothing = rw (sym e) at k in let z : ◌≡◌ {A = ℕ} 0 1 = cc in omega arith
no_file text (b ∷ behind) bs e h k = absurd (omega arith)

-- what was read is the file that the line asks of
pub file_read : (text behind word out : List ℕ) (space : ℕ) (r : Option ℕ) → behind ≡ behind_first text → behind ≡ space ∷ word → Into (bytes word) out r
    → Into (bytes (drop 1 (behind_first text))) out r
file_read text behind word out space r e k h = let same : word ≡ drop 1 (behind_first text) = sym (ap (drop 1) k) ∙ ap (drop 1) e in subst (λ (w : List ℕ). Into (bytes w) out r) same h

-- ---- a short line

two_digits : (w bs : List ℕ) → pairs w ≡ Some bs → 2 * length bs ≤ length w
unfolding pairs
two_digits [] bs h = let none_left : bs ≡ [] = cc in rw none_left (omega arith)
two_digits (a ∷ []) bs h = let z : ◌≡◌ {A = ℕ} 0 1 = cc in absurd (omega arith)
two_digits (a ∷ b ∷ w) bs h = go (ltb (digit_of a) 16 && ltb (digit_of b) 16) (pairs w) refl h (two_digits w)
  where
    go : (t : Bool) (o : Option (List ℕ)) → pairs w ≡ o →
        (when t then and (digit_of a * 16 + digit_of b) o else None) ≡ Some bs →
        ((cs : List ℕ) → pairs w ≡ Some cs → 2 * length cs ≤ length w) → 2 * length bs ≤ suc (suc (length w))
    go false o e h i = let z : ◌≡◌ {A = ℕ} 0 1 = cc in absurd (omega arith)
    go true None e h i = let z : ◌≡◌ {A = ℕ} 0 1 = cc in absurd (omega arith)
    go true (Some cs) e h i = let same : bs ≡ (digit_of a * 16 + digit_of b) ∷ cs = cc in rw same (omega (arith, i cs e))

half : (w bs : List ℕ) → bytes w ≡ Some bs → 2 * length bs ≤ length w
unfolding bytes
half w bs h = go (eqb (length w) 0) (has_minus w) (eqb (length w) 1) h
  where
    go : (s t u : Bool) → (when s then None else when t then (when u then Some [] else None) else pairs w) ≡ Some bs →
        2 * length bs ≤ length w
    go true t u h = let z : ◌≡◌ {A = ℕ} 0 1 = cc in absurd (omega arith)
    go false true true h = let none_left : bs ≡ [] = cc in rw none_left (omega arith)
    go false true false h = let z : ◌≡◌ {A = ℕ} 0 1 = cc in absurd (omega arith)
    go false false u h = two_digits w bs h

pub widened : {text : List ℕ} {after : List ℤ} {r : Option Reply} → length text < 512 → DrawLine 256 text after r →
    DrawLine 70000 text after r
widened h (to_call x a t) = to_call x (record { room = a.room; file = a.file; few = omega (arith, a.few) }) t
widened {text} h (to_none n) = to_none (λ x a. n x (short x a))
  where
    short : (x : DrawArguments) → AsksDrawing 70000 text x → AsksDrawing 256 text x
    short x a = record {
      room = a.room;
      file = a.file;
      few = omega (
        arith,
        half _ x.file a.file,
        length-drop 1 (behind_first text),
        length-drop
            (first_end text) text,
      );
    }
