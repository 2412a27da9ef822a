use Rattle.std.proofs.Common.{arith}
use Rattle.hpe_slots.proofs.Scoring.{Summing-none, Summing-more}
use Rattle.hpe_slots.proofs.reading.pulse_sum.Goals as goal

pub loop-init : goal.loop-init
loop-init c = Summing-none _ _ _

pub loop-preserved : goal.loop-preserved
loop-preserved c =
    Summing-more _ _ _ c.loop.counter _ _ _ c.from-total.ensures (omega (arith, c.type_inv.slots c.loop.place)) c.loop.invariant
