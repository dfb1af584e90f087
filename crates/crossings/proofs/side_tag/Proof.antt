-- `crossings::side_tag` meets its contract: a side's place is read back as it is. Assumes nothing.
use mathlib.Core.Path.{◌≡◌, sym, ap, ◌∙◌, subst}
use Prim.Native.Nat.{ℕ, ◌+◌}
use native.Mathlib.Omega.{arith}
use borrow.Author.Rules.{rules}
use lib.IntN.{ℤ, pos, ◌+ℤ◌}
use mir.Syntax.{w32}
use mir.Val.{SFits, to_z}
use mir.Facts.{to_z-of_z, to_z_pos}
use Rattle.limits.proofs.Sides.{place_side}
use Rattle.crossings.proofs.side_tag.Statement.{statement}
use Rattle.crossings.proofs.side_tag.Tie as tie

sum : (s : tie.Start) → pos 64 +ℤ to_z w32 s.args.side ≡ pos (64 + s.args.side)
sum s = let side = s.requires in ap (λ (z : ℤ). pos 64 +ℤ z) (to_z_pos w32 {n = s.args.side} (omega arith))

sum_fits : (s : tie.Start) → SFits w32 (pos 64 +ℤ to_z w32 s.args.side)
sum_fits s = let side = s.requires in subst (SFits w32) (sym (sum s)) (record { sfits = omega arith })

cast-result : tie.Need-overflow_cast-result
cast-result c = search rules

add-result : tie.Need-overflow_add-result
add-result c = let side = c.requires in rw (to_z_pos w32 {n = c.args.side} (omega arith)) (record { sfits = omega arith })

returns : tie.Need-returns
returns c = to_z-of_z (sum_fits c) ∙ sum c ∙ ap (λ (n : ℕ). pos (64 + n)) (sym (place_side c.args.side c.requires))

pub side_tag_spec : {M : Type 1} → statement M
side_tag_spec = tie.close (tie.spec cast-result add-result returns)
