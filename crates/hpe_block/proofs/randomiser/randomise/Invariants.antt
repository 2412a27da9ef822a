use Rattle.hpe_block.proofs.Mixing.{Mixing}
use Rattle.hpe_block.proofs.randomiser.randomise.Given as goal

abbrev pub invariant-loop-bit : goal.invariant-loop-bit
invariant-loop-bit l = Mixing l.taps l.fn.p.seed l.bit-index l.initial.bits l.bits l.register
