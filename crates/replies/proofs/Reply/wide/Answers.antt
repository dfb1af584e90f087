-- A number is its sign and its size.
use mathlib.Core.Path.{ap, ◌∙◌}
use lib.IntN.{pos, nat_abs}
use mir.Syntax.{w64}
use mir.Facts.{to_z-of_z, sfits_lit}
use Rattle.whole.proofs.Comparisons.{lt_taken, lt_left}
use Rattle.replies.specs.declared.Field.TheVariants.{Plain, Minus}
use Rattle.replies.specs.Replies.{field_of}
use Rattle.replies.proofs.Fields.{below_0, from_0}
use Rattle.replies.proofs.Reply.wide.Goals as goal
use Rattle.replies.proofs.Reply.wide.Goals.{then-z-lt0, else-z-lt0}

pub returns : goal.returns
returns c =
    let f = c.ranges.z in
    let size = c.size-size.ensures ∙ ap nat_abs (to_z-of_z f) in
    elim c.if-z-lt0.branch [
      | then-z-lt0 w ↦
          rw (ap field_of w.field-is ∙ ap (λ n. field_of (Minus n)) size ∙ below_0 _ (lt_taken w64 f (sfits_lit {z = pos 0} tt) w.if-z-lt0.true)) at c.field.ensures
      | else-z-lt0 w ↦
          rw (ap field_of w.field-is ∙ ap (λ n. field_of (Plain n)) size ∙ from_0 _ (lt_left w64 f (sfits_lit {z = pos 0} tt) w.if-z-lt0.false)) at c.field.ensures
    ]
