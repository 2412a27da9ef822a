-- From counts to the sums of each received codeword.
use Rattle.std.specs.Prelude.{ℕ, ◌+◌, ◌-◌, ◌*◌, ◌/◌, ◌%◌, List, [], length, slice_index, slice_range, sum, min}
use Rattle.hpe_base.specs.Lists.{tabulate}
use Rattle.hpe_base.specs.Parameters.{Parameters, clamp, positions, sending_slots, symbol_slots, period_slots, codeword_symbols}
use Rattle.hpe_base.specs.ChannelInterleaver.{deinterleaved_channel}
use Rattle.hpe_base.specs.MarkerSearch.{Offset, Short, Dark, At, offset_of}

-- the sums of the symbol that begins at a slot: at each pulse position, the counts of all its sendings, cut; guard slots
-- are left out
unfoldable pub symbol_sums : Parameters → List ℕ → ℕ → List ℕ
symbol_sums p counts start =
    tabulate (positions p.order) (λ v. min clamp (sum (tabulate p.repeat (λ i. slice_index counts (start + i * sending_slots p.order + v)))))

-- the sums of symbol t of all codewords, markers left out, where the first marker begins at the offset
abbrev pub received_sums : Parameters → List ℕ → ℕ → ℕ → List ℕ
received_sums p counts offset t =
    let period = t / codeword_symbols p.order in
    let r = t % codeword_symbols p.order in
    symbol_sums p counts (offset + period * period_slots p + (length p.marker + r) * symbol_slots p)

-- the sums of the symbols of all whole periods from the offset on, in the order of the channel
unfoldable pub channel_sums : Parameters → List ℕ → ℕ → List (List ℕ)
channel_sums p counts offset =
    tabulate ((length counts - offset) / period_slots p * codeword_symbols p.order) (received_sums p counts offset)

-- whole groups of n values; a rest plays no part
abbrev pub groups_of : {V : Type 0} → ℕ → List V → List (List V)
groups_of n values = tabulate (length values / n) (λ w. slice_range values (w * n) (w * n + n))

-- the words from an offset: the sums of the symbols of each, once the channel interleaver is undone
abbrev pub words_from : Parameters → List ℕ → ℕ → List (List (List ℕ))
words_from p counts offset = groups_of (codeword_symbols p.order) (deinterleaved_channel p [] (channel_sums p counts offset))

-- the words from what the search finds
abbrev pub words_at : Parameters → List ℕ → Offset → List (List (List ℕ))
words_at p counts Short = []
words_at p counts Dark = []
words_at p counts (At offset best) = words_from p counts offset

-- the received words
unfoldable pub received_words : Parameters → List ℕ → List (List (List ℕ))
received_words p counts = words_at p counts (offset_of p counts)
