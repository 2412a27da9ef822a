-- One sending of the codeword marker.
use Rattle.std.specs.Prelude.{ℕ, ◌+◌, ◌*◌, List, length, slice_index, sum}
use Rattle.hpe_base.specs.Lists.{tabulate}
use Rattle.hpe_base.specs.Parameters.{Parameters, symbol_slots}

-- the sum of the counts at the pulses of the first sending of each symbol of a marker that begins at a slot; a place
-- past the end counts 0
unfoldable pub sending_sum : Parameters → List ℕ → ℕ → ℕ
sending_sum p counts start = sum (tabulate (length p.marker) (λ r. slice_index counts (start + r * symbol_slots p + slice_index p.marker r)))
