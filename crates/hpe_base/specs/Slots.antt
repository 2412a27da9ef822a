-- Codeword markers, the repeater and guard slots: the slots that are sent.
use Rattle.std.specs.Prelude.{if◌then◌else◌, ℕ, ◌+◌, ◌-◌, ◌*◌, ◌/◌, ◌%◌, ◌==◌, List, ◌++◌, length, slice_index, nat_lt}
use Rattle.std.specs.Int.{div_ceil}
use Rattle.hpe_base.specs.Lists.{tabulate, joined}
use Rattle.hpe_base.specs.Bits.{zeros}
use Rattle.hpe_base.specs.Parameters.{Parameters, sending_slots, period_symbols, codeword_symbols, period_slots, symbol_slots, interleaver_depth}
use Rattle.hpe_base.specs.Counts.{low_octet}
use Rattle.hpe_base.specs.Frames.{bit_stream}
use Rattle.hpe_base.specs.Slicer.{block_count}
use Rattle.hpe_base.specs.Codeword.{word_symbols}
use Rattle.hpe_base.specs.ChannelInterleaver.{interleaved_channel}

-- the symbol at place c of the periods: in each, the codeword marker stands before the codeword's symbols
abbrev pub symbol_at : Parameters → List ℕ → ℕ → ℕ
symbol_at p symbols c =
    let period = c / period_symbols p in
    let r = c % period_symbols p in
    if nat_lt r (length p.marker)
    then slice_index p.marker r
    else slice_index symbols (period * codeword_symbols p.order + r - length p.marker)

-- the slot at a place: each symbol is sent repeatedly, and is 1 at its pulse position and 0 at the other positions
-- and at the guard slots
abbrev pub slot_at : Parameters → List ℕ → ℕ → ℕ
slot_at p symbols place =
    let sending = place / sending_slots p.order in
    if place % sending_slots p.order == symbol_at p symbols (sending / p.repeat) then 1 else 0

-- the slots of one symbol with its repeats
unfoldable pub pulses_of : Parameters → ℕ → List ℕ
pulses_of p symbol = tabulate (symbol_slots p) (λ i. if i % sending_slots p.order == symbol then 1 else 0)

-- the codewords of symbol 0 that follow the last codeword to flush the channel interleaver
abbrev pub flush_words : Parameters → ℕ
flush_words p = div_ceil (interleaver_depth p) (codeword_symbols p.order)

-- the symbols of all codewords, the flush included
abbrev pub sent_symbols : Parameters → List ℕ → List ℕ
sent_symbols p octets =
    joined (block_count p octets) (word_symbols p (bit_stream p octets)) ++ zeros (flush_words p * codeword_symbols p.order)

-- the periods that are sent: none where there is no block
abbrev pub period_count : Parameters → List ℕ → ℕ
period_count p octets = if block_count p octets == 0 then 0 else block_count p octets + flush_words p

-- the slots of the first n periods of the symbols
unfoldable pub slots_to : Parameters → ℕ → List ℕ → List ℕ
slots_to p n symbols = tabulate (n * period_slots p) (slot_at p (interleaved_channel p symbols))

-- the octet at a place: the last octet of a slot carries it
abbrev pub octet_at : Parameters → List ℕ → ℕ → ℕ
octet_at p symbols place = low_octet p.count_octets (slot_at p symbols) place

-- the octets of the slots of one symbol with its repeats
unfoldable pub symbol_octets : Parameters → ℕ → List ℕ
symbol_octets p symbol =
    tabulate (p.count_octets * symbol_slots p) (low_octet p.count_octets (λ i. if i % sending_slots p.order == symbol then 1 else 0))

-- the octets of the slots of the first n periods of the symbols
unfoldable pub octets_to : Parameters → ℕ → List ℕ → List ℕ
octets_to p n symbols = tabulate (p.count_octets * (n * period_slots p)) (octet_at p (interleaved_channel p symbols))

-- the octets of the slots that carry the whole frames in the octets
unfoldable pub slots_of : Parameters → List ℕ → List ℕ
slots_of p octets = octets_to p (period_count p octets) (sent_symbols p octets)
