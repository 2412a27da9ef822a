-- The slicer: the bit stream in information blocks, the last of which is filled with zeros.
use Rattle.std.specs.Prelude.{ℕ, ◌+◌, ◌*◌, List, length, slice_index}
use Rattle.std.specs.Int.{div_ceil}
use Rattle.hpe_base.specs.Lists.{tabulate}
use Rattle.hpe_base.specs.Parameters.{Parameters, block_bits}
use Rattle.hpe_base.specs.Frames.{bit_stream}

-- the number of blocks that the frames in the octets fill
abbrev pub block_count : Parameters → List ℕ → ℕ
block_count p octets = div_ceil (length (bit_stream p octets)) (block_bits p.rate)

-- block w, from 0, of a stream in blocks of that size: the stream's bits, and 0 past its end
unfoldable pub block_from : List ℕ → ℕ → ℕ → List ℕ
block_from stream size w = tabulate size (λ i. slice_index stream (w * size + i))
