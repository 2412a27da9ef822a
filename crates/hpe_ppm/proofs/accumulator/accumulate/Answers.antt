use Rattle.std.proofs.Common.{◌<◌, length, arith}
use Rattle.std.proofs.lemmas.List.Elements.{All-from_get_or}
use Rattle.hpe_base.proofs.Tabulated.{tabulate_from_places}
use Rattle.hpe_ppm.proofs.accumulator.accumulate.Goals as goal

pub returns-clause-sums : goal.returns-clause-sums
returns-clause-sums c = tabulate_from_places (length c.args.bits.now) _ c.loop-bit.bits 0 (omega arith) (λ k b. c.loop-bit.invariant.done k (omega arith))

pub returns-clause-bits : goal.returns-clause-bits
returns-clause-bits c = All-from_get_or (λ b. b < 2) c.loop-bit.bits 0 (λ k b. rw (c.loop-bit.invariant.done k (omega arith)) (omega arith))
