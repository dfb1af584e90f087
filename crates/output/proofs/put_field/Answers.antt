-- Each form puts what the definition has for it.
use native.Mathlib.Omega.{arith}
use Rattle.output.specs.Written.{field_text}
use Rattle.output.proofs.Rows.{put_behind}
use Rattle.output.proofs.put_field.Goals as goal

pub returns-in-Plain-clause-put : goal.returns-in-Plain-clause-put
unfolding field_text
returns-in-Plain-clause-put c = rw c.in-Plain.is c.put_natural.ensures.put

pub returns-in-Minus-clause-put : goal.returns-in-Minus-clause-put
unfolding field_text
returns-in-Minus-clause-put c = rw c.in-Minus.is (put_behind 45 (omega arith) c.put_natural-in-Minus.ensures.put)

pub returns-in-Bits-clause-put : goal.returns-in-Bits-clause-put
unfolding field_text
returns-in-Bits-clause-put c = rw c.in-Bits.is c.put_bits.ensures.put
