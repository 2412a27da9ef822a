use Rattle.hpe_ppm.proofs.RunningSums.{Summing}
use Rattle.hpe_ppm.proofs.accumulator.accumulate.Given as goal

abbrev pub invariant-loop-bit : goal.invariant-loop-bit
invariant-loop-bit l = Summing l.bit-index l.total l.initial.bits l.bits
