-- Four numbers one after another are the list of them.
use Rattle.std.proofs.Common.{◌≡◌, rules}
use mir.Syntax.{w32}
use mir.Val.{to_z, of_z}
use Rattle.text.proofs.Puts.{put_then}
use Rattle.strip_lines.proofs.Texts.{four_listed}
use Rattle.strip_lines.proofs.put_sides.Goals as goal

pub returns-clause-put : goal.returns-clause-put
returns-clause-put c =
    let w = c.args.w in
    let left : to_z w32 (of_z w32 w.left) ≡ w.left = search rules in
    let bottom : to_z w32 (of_z w32 w.bottom) ≡ w.bottom = search rules in
    let right : to_z w32 (of_z w32 w.right) ≡ w.right = search rules in
    let top : to_z w32 (of_z w32 w.top) ≡ w.top = search rules in
    let a = simp left at c.put_number-a.ensures.put in
    let b = simp bottom at c.put_number-b.ensures.put in
    let d = simp right at c.put_number-c.ensures.put in
    let e = simp top at c.put_number.ensures.put in
    four_listed w.left w.bottom w.right w.top (put_then (put_then (put_then a b) d) e)
