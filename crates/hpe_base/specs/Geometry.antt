-- The measures of a link.
use Rattle.std.specs.Prelude.{◌*◌, length}
use Rattle.hpe_base.specs.Parameters.{Parameters, code_steps, block_bits, codeword_symbols, symbol_slots, period_slots, interleaver_depth}
use Rattle.hpe_base.specs.Slots.{flush_words}
use Rattle.hpe_base.specs.declared.measures.Measures.{Measures}

-- the measures of the parameters
abbrev pub measures_of : Parameters → Measures
measures_of p = record {
  steps = code_steps p.rate;
  block = block_bits p.rate;
  symbols = codeword_symbols p.order;
  symbol_slots = symbol_slots p;
  marker_slots = length p.marker * symbol_slots p;
  period = period_slots p;
  depth = interleaver_depth p;
  flush = flush_words p;
}
