-- The lengths of a word of the inner code.
use Rattle.std.specs.Prelude.{ℕ, ◌/◌, ℤ, List, length}
use Rattle.hpe_base.specs.Parameters.{symbol_bits}
use Rattle.hpe_lane.specs.Windows.{sweep_rows}
use Rattle.hpe_base.specs.declared.profile.Order.{Order}

-- the symbols of a word that has as many bits as there are a-priori numbers
abbrev pub symbols_in : Order → List ℤ → ℕ
symbols_in o l = length l / symbol_bits o

-- the rows of states that sweeps over a number of symbols need
abbrev pub inner_rows : ℕ → ℕ
inner_rows = sweep_rows
