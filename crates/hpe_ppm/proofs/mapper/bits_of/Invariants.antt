use Rattle.std.proofs.Common.{◌≡◌, ◌*◌, take}
use Rattle.hpe_base.specs.Parameters.{symbol_bits}
use Rattle.hpe_ppm.specs.MappedBits.{mapped_bits}
use Rattle.hpe_ppm.proofs.mapper.bits_of.Given as goal

abbrev pub invariant-loop-s : goal.invariant-loop-s
invariant-loop-s l = take (l.s * symbol_bits l.fn.order) l.out ≡ mapped_bits l.fn.order (take l.s l.symbols)
