use Rattle.hpe_slots.proofs.Gathering.{Gathering}
use Rattle.hpe_slots.proofs.reading.gather.Given as goal

abbrev pub invariant-loop : goal.invariant-loop
invariant-loop l = Gathering l.size l.slots l.counter l.start l.into
