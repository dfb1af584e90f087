-- The drawing so far: the lines before a place of the text are taken, and their records stand in the page from the place 4 on.
use Rattle.std.specs.Prelude.{Result, Ok, Err}
use mathlib.Core.Path.{◌≡◌, refl, sym, ap, subst, subst₂}
use mathlib.Core.List.{List, [], ◌++◌}
use Prim.Native.Nat.{ℕ, ◌+◌, ◌-◌, ◌<◌, ◌≤◌}
use native.Mathlib.Omega.{arith}
use lib.ListN.{length, take, drop}
use Rattle.text.specs.Pages.{Put, big_endian}
use Rattle.text.proofs.Puts.{put_nothing, put_to, put_then, put_in_front}
use Rattle.pen_line.specs.Lines.{spoken}
use Rattle.pen_line.specs.Records.{drawing_room, LineAdds, LineRefused, LineTaken, taken, refused}
use Rattle.pen_line.specs.declared.Fault.{Fault}
use Rattle.pen_line.specs.declared.Fault.TheVariants.{LongText}
use Rattle.pen.specs.Texts.{most_text, line_end, line_at, LineWithin, Told, start, next, Becomes}
use Rattle.pen.specs.Texts.{EndsAs, drawn, no_line, wrong_line, long_text}
use Rattle.pen.specs.Workers.{Counted, counted, none}
use Rattle.pen.specs.declared.Outcome.{Outcome}

-- lines are counted from one
pub from_one : {t : List ℕ} {room : ℕ} {bs : List ℕ} {n i : ℕ} → Told t room n i bs → 1 ≤ n
from_one start = omega arith
from_one (next p w a) = omega (arith, from_one p)

pub record Going (t before page : List ℕ) (n i at : ℕ) : Type 0 where
  pub bytes : List ℕ
  pub told : Told t (drawing_room before) n i bytes
  pub put : Put before page 4 at bytes

pub going_start : (t page : List ℕ) → 4 ≤ length page → Going t page page 1 0 4
going_start t page h = record { bytes = []; told = start; put = put_nothing page h }

module _ {t before page : List ℕ} {n i at : ℕ} (g : Going t before page n i at) where
  long : at - 4 ≡ length g.bytes
  long = omega (arith, g.put.ends)

  pub within : at ≤ length page
  within = g.put.fits

  pub behind : 4 ≤ at
  behind = omega (arith, g.put.ends)

  pub as_long : length page ≡ length before
  as_long = g.put.same

  -- the text ends as it does in a page of that length
  ends_here : {after : List ℕ} {s : Result ℕ Fault} → length after ≡ length page → EndsAs t after i g.bytes s
      → Becomes t after (record { line = n; step = s })
  ends_here {after} same e =
      let z : length before ≡ length after = omega (arith, as_long) in
      let lines = subst (λ (x : ℕ). Told t (x - 4) n i g.bytes) z g.told in
      record { place = i; bytes = g.bytes; told = lines; ends = e }

  module _ {e : ℕ} (h : i < length t) (q : e ≡ line_end t i) where
    line_is : spoken (take (e - i) (drop i t)) ≡ line_at t i
    line_is = ap (λ (x : ℕ). spoken (take (x - i) (drop i t))) q

    pub too_long : most_text < e → Becomes t page (record { line = n; step = Err LongText })
    too_long m = ends_here refl (long_text h (omega arith))

    module _ (m : e ≤ most_text) where
      line_within : LineWithin t i
      line_within = (h, omega arith)

      -- in the words of the text's promise
      adds : {bs : List ℕ} → LineAdds (line_at t i) (at - 4) (drawing_room page) bs
          → LineAdds (line_at t i) (length g.bytes) (drawing_room before) bs
      adds {bs} a = subst₂ (λ x y. LineAdds (line_at t i) x (y - 4) bs) long as_long a

      pub going_on : {after : List ℕ} {to : ℕ} {s : Result ℕ Fault} → s ≡ Ok to
          → LineTaken (spoken (take (e - i) (drop i t))) page after at s → Going t before after (n + 1) (e + 1) to
      going_on {after} {to} {s} d k = go d (subst (λ (l : List ℕ). LineTaken l page after at s) line_is k)
        where
          go : {s : Result ℕ Fault} → s ≡ Ok to → LineTaken (line_at t i) page after at s
              → Going t before after (n + 1) (e + 1) to
          go d (taken {end = end} {bs = added} a p) =
              let same : end ≡ to = cc in
              let bs = g.bytes ++ added in
              let lines = next g.told line_within (adds a) in
              record {
                bytes = bs;
                told = subst (λ (x : ℕ). Told t (drawing_room before) (n + 1) (x + 1) bs) (sym q) lines;
                put = put_to to same (put_then g.put p);
              }
          go d (refused f) = absurd (let z : ◌≡◌ {A = ℕ} 0 1 = cc in omega arith)

      pub stopped : {after : List ℕ} {f : Fault} {s : Result ℕ Fault} → s ≡ Err f → length after ≡ length page
          → LineTaken (spoken (take (e - i) (drop i t))) page after at s
          → Becomes t after (record { line = n; step = Err f })
      stopped {after} {f} {s} d same k = go d (subst (λ (l : List ℕ). LineTaken l page after at s) line_is k)
        where
          go : {s : Result ℕ Fault} → s ≡ Err f → LineTaken (line_at t i) page after at s
              → Becomes t after (record { line = n; step = Err f })
          go d (taken a p) = absurd (let z : ◌≡◌ {A = ℕ} 0 1 = cc in omega arith)
          go d (refused {f = u} r) =
              let z : u ≡ f = cc in
              ends_here same (wrong_line line_within
              (subst (LineRefused (line_at t i) (length g.bytes) (drawing_room after)) z
              (subst₂ (λ x y. LineRefused (line_at t i) x (y - 4) u) long (sym same) r)))

  pub ended : {after : List ℕ} {s : Result ℕ Fault} → length t ≤ i → length after ≡ length page → Counted page after at s
      → Becomes t after (record { line = n; step = s })
  ended {after} h same (counted z p) =
      ends_here same (drawn {at = at} h (λ e. z (omega (arith, long, behind))) (omega (arith, within))
      (put_in_front g.put (subst (λ (x : ℕ). Put page after 0 4 (big_endian x)) long p)))
  ended h same (none z) = ends_here same (no_line h (omega (arith, long)))

pub drawn_within : {t page : List ℕ} {r : Outcome} {at : ℕ} → r.step ≡ Ok at → Becomes t page r → at ≤ length page
drawn_within {t} {page} {r} {at} d b = go d b.ends
  where
    go : {s : Result ℕ Fault} → s ≡ Ok at → EndsAs t page b.place b.bytes s → at ≤ length page
    go d (drawn {at = k} h z l p) = let same : k ≡ at = cc in subst (λ (x : ℕ). x ≤ length page) same l
    go d (no_line h z) = absurd (let z : ◌≡◌ {A = ℕ} 0 1 = cc in omega arith)
    go d (wrong_line h r) = absurd (let z : ◌≡◌ {A = ℕ} 0 1 = cc in omega arith)
    go d (long_text h l) = absurd (let z : ◌≡◌ {A = ℕ} 0 1 = cc in omega arith)
