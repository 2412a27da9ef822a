-- The inverse of the pulse-position mapper.
use Rattle.std.specs.Prelude.{ℕ, List}
use Rattle.std.specs.List.{flat_map}
use Rattle.hpe_base.specs.Bits.{bits_of}
use Rattle.hpe_base.specs.Parameters.{symbol_bits}
use Rattle.hpe_base.specs.declared.profile.Order.{Order}

-- the bits of symbols, one symbol after another
abbrev pub mapped_bits : Order → List ℕ → List ℕ
mapped_bits order symbols = flat_map (bits_of (symbol_bits order)) symbols
