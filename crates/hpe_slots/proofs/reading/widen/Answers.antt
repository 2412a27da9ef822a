use Rattle.std.proofs.Common.{arith}
use Rattle.std.proofs.lemmas.List.{ext_get_or}
use Rattle.hpe_slots.proofs.reading.widen.Goals as goal

pub returns : goal.returns
returns c = ext_get_or 0 c.loop-i.counts c.args.octets.now (omega arith) (λ k h. c.loop-i.invariant k (omega arith))
