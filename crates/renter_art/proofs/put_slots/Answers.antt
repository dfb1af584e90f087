-- Each slot's text is put behind that of the slots before it.
use Rattle.std.proofs.Common.{arith}
use Rattle.text.proofs.Puts.{put_nothing}
use Rattle.renter_art.specs.RenterArt.{slot_arts}
use Rattle.renter_art.proofs.Arts.{arts_on}
use Rattle.renter_art.proofs.put_slots.Goals as goal

pub loop-k-init : goal.loop-k-init
unfolding slot_arts
loop-k-init c = record { short = omega arith; put = put_nothing _ (omega arith) }

pub loop-k-preserved : goal.loop-k-preserved
loop-k-preserved c =
    record {
      short = omega arith;
      put = arts_on _ _ c.loop-k.k c.loop-k.invariant.put c.put_slot-end.ensures.put;
    }
