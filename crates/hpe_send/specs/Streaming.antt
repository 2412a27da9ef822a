-- The slots of the whole blocks of a bit stream, as far as it has come: what grows as a stream is sent.
use Rattle.std.specs.Prelude.{ℕ, ◌/◌, List, length}
use Rattle.hpe_base.specs.Lists.{joined}
use Rattle.hpe_base.specs.Parameters.{Parameters, block_bits}
use Rattle.hpe_base.specs.Codeword.{word_symbols}
use Rattle.hpe_base.specs.Slots.{octets_to}

-- the whole blocks in the bits
abbrev pub word_count : Parameters → List ℕ → ℕ
word_count p bits = length bits / block_bits p.rate

-- the symbols of the whole blocks in the bits
unfoldable pub words_of : Parameters → List ℕ → List ℕ
words_of p bits = joined (word_count p bits) (word_symbols p bits)

-- the slots of the whole blocks in the bits
abbrev pub bit_slots : Parameters → List ℕ → List ℕ
bit_slots p bits = octets_to p (word_count p bits) (words_of p bits)
