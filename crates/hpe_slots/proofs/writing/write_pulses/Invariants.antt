use Rattle.std.proofs.Common.{◌+◌, ◌*◌, ◌-◌}
use Rattle.hpe_slots.proofs.Pulses.{Sent}
use Rattle.hpe_slots.proofs.writing.write_pulses.Given as goal

abbrev pub invariant-loop : goal.invariant-loop
invariant-loop l = Sent l.end l.size (l.octets * l.symbol + (l.octets - 1)) l.counter l.place l.into
