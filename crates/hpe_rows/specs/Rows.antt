-- The rows of slot sums in counts that begin with a codeword marker, as far as the counts have come.
use Rattle.std.specs.Prelude.{if◌then◌else◌, ℕ, ◌+◌, ◌-◌, ◌*◌, ◌/◌, ◌%◌, List, [], ◌∷◌, length, Bool}
use Rattle.hpe_base.specs.Lists.{tabulate}
use Rattle.hpe_base.specs.Parameters.{Parameters, symbol_slots, period_symbols, period_slots, codeword_symbols}
use Rattle.hpe_base.specs.ChannelInterleaver.{deinterleaved_channel}
use Rattle.hpe_base.specs.ReceivedWords.{received_sums}

-- the whole symbols in the counts, those of markers included
abbrev pub symbols_in : Parameters → List ℕ → ℕ
symbols_in p seen = length seen / symbol_slots p

-- the whole periods
abbrev pub periods_in : Parameters → List ℕ → ℕ
periods_in p seen = length seen / period_slots p

-- how many of so many symbols are no marker symbols
abbrev pub rows_in : Parameters → ℕ → ℕ
rows_in p symbols = symbols / period_symbols p * codeword_symbols p.order + (symbols % period_symbols p - length p.marker)

-- the sums of the whole symbols in the counts, markers left out, in the order of the channel
unfoldable pub rows_of : Parameters → List ℕ → List (List ℕ)
rows_of p seen = tabulate (rows_in p (symbols_in p seen)) (received_sums p seen 0)

-- in the order of the codewords
abbrev pub placed_rows : Parameters → List ℕ → List (List ℕ)
placed_rows p seen = deinterleaved_channel p [] (rows_of p seen)

-- a row where one has come
abbrev pub row_if : Bool → List ℕ → List (List ℕ)
row_if came row = if came then row ∷ [] else []
