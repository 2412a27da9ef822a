use Rattle.std.proofs.Common.{◌≡◌, take}
use Rattle.hpe_block.specs.Division.{divided_by}
use Rattle.hpe_block.proofs.check.divide_bits.Given as goal

abbrev pub invariant-loop-bit : goal.invariant-loop-bit
invariant-loop-bit l = l.register ≡ divided_by l.check l.fn.register (take l.bit-index l.bits)
