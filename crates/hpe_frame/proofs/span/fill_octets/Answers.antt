use Rattle.std.proofs.Common.{arith}
use Rattle.hpe_frame.proofs.SpanBits.{octets_from_places}
use Rattle.hpe_frame.proofs.span.fill_octets.Goals as goal

pub returns : goal.returns
returns c = octets_from_places c.args.bits.now c.loop-i.into (omega arith) (λ k b. c.loop-i.invariant k (omega arith))
