use Rattle.std.proofs.Common.{◌≡◌, ◌<◌, ◌*◌, ◌+◌, ℕ, get_or}
use Rattle.std.specs.Prelude.{slice_range}
use Rattle.hpe_base.specs.Bits.{number_of}
use Rattle.hpe_base.specs.Parameters.{symbol_bits, positions}
use Rattle.hpe_ppm.proofs.mapper.symbols_of.Given as goal

abbrev pub invariant-loop-s : goal.invariant-loop-s
invariant-loop-s l =
    ((k : ℕ) → k < l.s → get_or l.out k 0 ≡ number_of (slice_range l.bits (k * symbol_bits l.fn.order) (k * symbol_bits l.fn.order + symbol_bits l.fn.order)))
    × ((k : ℕ) → k < l.s → get_or l.out k 0 < positions l.fn.order)
