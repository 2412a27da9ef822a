-- The pulse-position mapper.
use Rattle.std.specs.Prelude.{ℕ, ◌+◌, ◌*◌, ◌/◌, List, length, slice_range}
use Rattle.hpe_base.specs.Lists.{tabulate}
use Rattle.hpe_base.specs.Bits.{number_of}
use Rattle.hpe_base.specs.Parameters.{symbol_bits}
use Rattle.hpe_base.specs.declared.profile.Order.{Order}

-- symbol s is the number of the bits in group s
abbrev pub symbols_of : Order → List ℕ → List ℕ
symbols_of order bits =
    let size = symbol_bits order in
    tabulate (length bits / size) (λ s. number_of (slice_range bits (s * size) (s * size + size)))
