-- A reply tells of a right answer whose fields it says.
use mathlib.Core.Path.{◌∙◌}
use Prim.Native.Nat.{ℕ}
use Rattle.replies.specs.Replies.{Fields, said, Says, Tells}
use Rattle.replies.specs.declared.Reply.{Reply}

pub tells : {A : Type 0} {Right : A → Type 0} {fields : A → Fields} {n room : ℕ} {r : Reply} (a : A) → Right a →
    Says r n (fields a) room →
    Tells Right fields room r
tells a h s = record { answer = a; right = h; says = s.fields; behind = s.behind }

-- what is lent comes behind the fields, and they stay as they are
pub with_lent : {A : Type 0} {Right Right' : A → Type 0} {fields : A → Fields} {k room : ℕ} {r s : Reply} →
    ((a : A) → Right a → Right' a) →
    Tells Right fields k r → Says s r.count (said r) room → Tells Right' fields room s
with_lent f t s = record {
  answer = t.answer;
  right = f t.answer t.right;
  says = s.fields ∙ t.says;
  behind =
      s.behind;
}
