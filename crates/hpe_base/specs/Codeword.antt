-- One codeword: the stages from the randomiser to the mapper.
use Rattle.std.specs.Prelude.{ℕ, List}
use Rattle.hpe_base.specs.Parameters.{Parameters, block_bits}
use Rattle.hpe_base.specs.Slicer.{block_from}
use Rattle.hpe_base.specs.Termination.{closed_block}
use Rattle.hpe_base.specs.ConvolutionalCode.{code_bits}
use Rattle.hpe_base.specs.CodeInterleaver.{interleaved}
use Rattle.hpe_base.specs.Accumulator.{accumulated}
use Rattle.hpe_base.specs.Mapper.{symbols_of}

-- the symbols of the codeword of a block
unfoldable pub codeword : Parameters → List ℕ → List ℕ
codeword p block = symbols_of p.order (accumulated (interleaved (code_bits p.columns (closed_block p block))))

-- the symbols of the codeword of block w of a stream
abbrev pub word_symbols : Parameters → List ℕ → ℕ → List ℕ
word_symbols p stream w = codeword p (block_from stream (block_bits p.rate) w)
