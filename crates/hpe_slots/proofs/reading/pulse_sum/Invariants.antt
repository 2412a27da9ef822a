use Rattle.hpe_slots.proofs.Scoring.{Summing}
use Rattle.hpe_slots.proofs.reading.pulse_sum.Given as goal

abbrev pub invariant-loop : goal.invariant-loop
invariant-loop l = Summing l.fn.symbol l.size l.slots l.counter l.place l.total
