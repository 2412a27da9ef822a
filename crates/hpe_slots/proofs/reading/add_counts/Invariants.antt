use Rattle.hpe_slots.proofs.Gathering.{Adding}
use Rattle.hpe_slots.proofs.reading.add_counts.Given as goal

abbrev pub invariant-loop-v : goal.invariant-loop-v
invariant-loop-v l = Adding l.v l.counts l.initial.sums l.sums
