-- The search for the codeword marker in a stream of counts.
use Rattle.std.specs.Prelude.{if◌then◌else◌, ℕ, ◌+◌, ◌*◌, ◌/◌, ◌==◌, List, length, slice_index, sum, min, nat_lt, zero, suc}
use Rattle.hpe_base.specs.Lists.{tabulate}
use Rattle.hpe_base.specs.Parameters.{Parameters, sending_slots, symbol_slots, period_slots}

-- how far from its first slot a marker has the pulse of sending i of its symbol r
abbrev pub pulse_place : Parameters → ℕ → ℕ → ℕ
pulse_place p r i = r * symbol_slots p + i * sending_slots p.order + slice_index p.marker r

-- the sum of the counts at the pulses of a marker that begins at a slot, all repeats included; a place past the end
-- counts 0
unfoldable pub marker_sum : Parameters → List ℕ → ℕ → ℕ
marker_sum p counts start =
    sum (tabulate (length p.marker) (λ r. sum (tabulate p.repeat (λ i. slice_index counts (start + pulse_place p r i)))))

-- the periods that the search adds up: at most as many as the profile says, and as the stream has
abbrev pub searched_periods : Parameters → List ℕ → ℕ
searched_periods p counts = min p.search (length counts / period_slots p)

-- the score of an offset: the sums of the markers that begin there and at each further period
unfoldable pub score : Parameters → List ℕ → ℕ → ℕ
score p counts offset =
    sum (tabulate (searched_periods p counts) (λ j. marker_sum p counts (offset + j * period_slots p)))

-- of the numbers below n, the least with the greatest value
abbrev pub least_greatest : (ℕ → ℕ) → ℕ → ℕ
least_greatest f zero = 0
least_greatest f (suc n) = let best = least_greatest f n in if nat_lt (f best) (f n) then n else best

-- what the search finds: the stream is shorter than a period, no offset has a count at its pulses, or the offset and
-- its score
pub data Offset : Type 0 where
  Short : Offset
  Dark : Offset
  At : ℕ → ℕ → Offset

-- the least offset below a period that has the greatest score
unfoldable pub offset_of : Parameters → List ℕ → Offset
offset_of p counts =
    let offset = least_greatest (score p counts) (period_slots p) in
    if nat_lt (length counts) (period_slots p) then Short
    else if score p counts offset == 0 then Dark
    else At offset (score p counts offset)
