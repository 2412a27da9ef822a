use Rattle.std.proofs.Common.{◌≡◌}
use Rattle.hpe_base.specs.Bits.{zeros}
use Rattle.hpe_weave.proofs.weaver.filled.Given as goal

abbrev pub invariant-loop : goal.invariant-loop
invariant-loop l = (l.ring.items ≡ zeros l.counter) × (l.ring.capacity ≡ l.fn.capacity)
