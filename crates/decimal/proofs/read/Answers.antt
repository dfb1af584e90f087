-- The first byte shows the sign, and what follows decides.
use Rattle.std.proofs.Common.{Some, sym, subst}
use Rattle.std.specs.Cmp.Lexicographic.{same_text, other_text}
use Rattle.decimal.specs.Decimals.{Reads}
use Rattle.decimal.specs.Workers.{ReadsPlain}
use Rattle.decimal.proofs.Signs.{reads_plain, reads_negative, reads_no_negative}
use Rattle.decimal.proofs.read.Goals as goal

pub returns-in_err-read_plain-in-Some : goal.returns-in_err-read_plain-in-Some
returns-in_err-read_plain-in-Some c =
    let e = c.in-Some.ensures.cases in
    subst (Reads _) (sym c.from_residual.ensures)
    (reads_no_negative _ (same_text _ _ (sym e.0)) (subst (λ t. ReadsPlain t _) e.1 c.in_err-read_plain-in-Some.ensures))

pub returns-in_ok-read_plain-in-Some : goal.returns-in_ok-read_plain-in-Some
returns-in_ok-read_plain-in-Some c =
    let e = c.in-Some.ensures.cases in
    (reads_negative _ (same_text _ _ (sym e.0)) _
    (subst (λ t. ReadsPlain t (Some c.in_ok-read_plain-in-Some.field-0)) e.1 c.in_ok-read_plain-in-Some.ensures)).1

pub returns-in-None : goal.returns-in-None
returns-in-None c = reads_plain _ (other_text _ _ (sym c.in-None.ensures.cases)) c.read_plain-in-None.ensures
