-- One field more leaves the earlier ones as they are, since it is put behind them; and a number is its sign and its
-- size.
use mathlib.Core.Path.{◌≡◌, refl, ap, ◌∙◌}
use mathlib.Core.Bool.{Bool, true, false}
use mathlib.Core.List.{List}
use Prim.Native.Nat.{ℕ, zero, suc, ◌+◌, ◌≤◌, ◌<◌, ◌^◌}
use native.Mathlib.Numerals.{add-one}
use native.Mathlib.Omega.{arith}
use lib.IntN.{ℤ, pos, negsuc, nat_abs}
use lib.ListN.{length, get_or, set}
use lib.Seq.{get_or-set_same, get_or-set_other}
use lib.Signed.{◌≤ℤ◌, ◌<ℤ◌, mag}
use mir.Syntax.{Width}
use mir.Val.{hbits, to_z, of_z, bool_byte}
use Rattle.whole.proofs.Comparisons.{back}
use Rattle.whole.proofs.Order.{zarith}
use Rattle.replies.specs.Replies.{number, plain, flag, ◌and◌, field_of, first_fields, said, Fields, Field, Says}
use Rattle.replies.specs.declared.Field as Written
use Rattle.replies.specs.declared.Field.TheVariants.{Plain, Minus}
use Rattle.replies.specs.declared.Reply.{Reply}

earlier : (k : ℕ) (fs : List Written.Field) (n : ℕ) (f : Written.Field) → k ≤ n → first_fields k (set fs n f) ≡ first_fields k fs
unfolding first_fields
earlier zero fs n f h = refl
earlier (suc k) fs n f h =
    let e : first_fields k (set fs n f) ≡ first_fields k fs = earlier k fs n f (omega arith) in
    let a : get_or (set fs n f) k (Plain 0) ≡ get_or fs k (Plain 0) = get_or-set_other fs n k f (Plain 0) (λ e. omega arith) in
    rw (e, a)

pub one_more : (n : ℕ) (fs : List Written.Field) (f : Written.Field) → n < length fs → first_fields (n + 1) (set fs n f) ≡ first_fields n fs and field_of f
unfolding first_fields
one_more n fs f h = rw (add-one, earlier n fs n f (omega arith), get_or-set_same fs n f (Plain 0) h)

pub below_0 : (z : ℤ) → z <ℤ pos 0 → field_of (Minus (nat_abs z)) ≡ number z
unfolding field_of
below_0 (pos n) h = absurd (omega zarith)
below_0 (negsuc n) h = refl

pub from_0 : (z : ℤ) → pos 0 ≤ℤ z → field_of (Plain (nat_abs z)) ≡ number z
unfolding field_of
from_0 (pos n) h = refl
from_0 (negsuc n) h = absurd (omega zarith)

-- ---- one reply after another

pub itself : (r : Reply) → Says r r.count (said r) r.room
itself r = record { count = refl; fields = refl; behind = refl }

pub counted : {r : Reply} {m n k : ℕ} {fs : Fields} → m ≡ n → Says r m fs k → Says r n fs k
counted e h = record { count = h.count ∙ e; fields = h.fields; behind = h.behind }

-- what a part of a reply adds, it adds to what was said
pub after : {r s : Reply} {n k : ℕ} {fs : Fields} (m : ℕ) (more : Fields → Fields) →
    Says r n fs k → Says s (r.count + m) (more (said r)) r.room → Says s (n + m) (more fs) k
after m more h t = record {
  count = t.count ∙ ap (λ n. n + m) h.count;
  fields = t.fields ∙ ap more
      h.fields;
  behind = t.behind ∙ h.behind;
}

pub next : {r s : Reply} {n k : ℕ} {fs : Fields} {f : Field} →
    Says r n fs k → Says s (r.count + 1) (said r and f) r.room → Says s (n + 1) (fs and f) k
next {f = f} = after 1 (λ fs. fs and f)

-- a signed number goes into a call by its bits, and comes out as it was
pub next_signed : {r s : Reply} {n k : ℕ} {fs : Fields} {z : ℤ} (w : Width) →
    mag z < 2 ^ hbits w → Says r n fs k → Says s (r.count + 1) (said r and number (to_z w (of_z w z))) r.room →
    Says s (n + 1) (fs and number z) k
next_signed {z = z} w f h t = rw (back w z f) at (next h t)

-- and a bool by its byte
pub next_flag : {r s : Reply} {n k : ℕ} {fs : Fields} (b : Bool) →
    Says r n fs k → Says s (r.count + 1) (said r and plain (bool_byte b)) r.room → Says s (n + 1)
    (fs and flag b) k
next_flag true h t = next h t
next_flag false h t = next h t
