-- The law of the channel interleaver and its inverse.
use Rattle.std.specs.Prelude.{ℕ, ◌+◌, ◌*◌, ◌<◌, ◌≡◌, List, ◌++◌, length, take}
use Rattle.hpe_base.specs.Bits.{zeros}
use Rattle.hpe_base.specs.Parameters.{Parameters, IsValid, codeword_symbols}
use Rattle.hpe_base.specs.ChannelInterleaver.{interleaved_channel, deinterleaved_channel}
use Rattle.hpe_base.specs.Slots.{flush_words}

-- the symbols that come back where symbols and the flush after them pass the interleaver and its inverse; d stands for
-- a symbol that isn't there
abbrev pub returned : Parameters → ℕ → List ℕ → List ℕ
returned p d symbols = deinterleaved_channel p d (interleaved_channel p (symbols ++ zeros (flush_words p * codeword_symbols p.order)))

-- the symbols come back first, and fewer than those of a codeword after them
pub record ComesBack (p : Parameters) (d : ℕ) (symbols : List ℕ) : Type 0 where
  pub front : take (length symbols) (returned p d symbols) ≡ symbols
  pub few : length (returned p d symbols) < length symbols + codeword_symbols p.order

-- under every valid profile all symbols come back
abbrev pub ChannelInterleaverIsUndone : Type 0
ChannelInterleaverIsUndone = (p : Parameters) (d : ℕ) (symbols : List ℕ) → IsValid p → ComesBack p d symbols
