-- `crossed_sides::is_level` meets its contract: the two tests are its three cases. Assumes nothing.
use mathlib.Core.Path.{◌≡◌, refl, ap}
use mathlib.Core.Bool.{Bool, true, false}
use lib.IntN.{ℤ}
use lib.Signed.{lt_z}
use mir.Syntax.{w32}
use mir.Val.{SFits, of_z}
use mir.Facts.{to_z-of_z}
use Rattle.whole.proofs.Comparisons.{bits_eq, lt_yes, lt_no}
use Rattle.grid.specs.declared.Stroke.{Stroke}
use Rattle.strokes.proofs.Reading.{read}
use Rattle.crossed_sides.specs.Workers.{LevelIf, plumb, less, not_less}
use Rattle.crossed_sides.proofs.is_level.Statement.{statement}
use Rattle.crossed_sides.proofs.is_level.Tie as tie

returns : tie.Need-returns-then-s
returns c = let g = c.before.struct_told-1.given in plumb (bits_eq w32 (record { sfits = g.0.1 }) (record { sfits = g.1.1.0.1 }) c.if-s.true)

tested : {s : Stroke} {a b : ℤ} (t : Bool) → (s.x1 ≡ s.x2 → ⊥) → SFits w32 a → SFits w32 b → lt_z (read a) (read b) ≡ t → LevelIf s a b t
tested true n fa fb e = less n (lt_yes (to_z-of_z fa) (to_z-of_z fb) e)
tested false n fa fb e = not_less n (lt_no (to_z-of_z fa) (to_z-of_z fb) e)

returns-2 : tie.Need-returns
returns-2 c = let st = c.before.before.before in tested _ (λ e. c.if-s.false (ap (of_z w32) e)) st.ranges.a st.ranges.b refl

pub is_level_spec : {M : Type 1} → statement M
is_level_spec = tie.close (tie.spec returns returns-2)
