-- A sound book is sound after a line.
use Rattle.sittings.proofs.Orders.{serves_sound}
use Rattle.sittings.proofs.sit.Goals as goal

pub put_out-requires-clause-sound : goal.put_out-requires-clause-sound
put_out-requires-clause-sound c = serves_sound _ _ _ _ _ c.answer-service.ensures.serves c.loop.invariant.sound

pub loop-preserved : goal.loop-preserved
loop-preserved c =
    record {
      in_reach = c.next_line-source.ensures;
      sound = serves_sound _ _ _ _ _ c.answer-service.ensures.serves c.loop.invariant.sound;
    }
