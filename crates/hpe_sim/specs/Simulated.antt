-- The simulated channel: the frames that are sent, the counts that come of their slots, and the line on what came back.
use Rattle.std.specs.Prelude.{if◌then◌else◌, ℕ, ◌+◌, ◌*◌, ◌/◌, ◌%◌, ◌==◌, ◌&&◌, Bool, List, ◌++◌, length, map, sum, codes, decimal, nat_lt, nat_le, slice_index}
use Rattle.std.specs.Int.{div_ceil}
use Rattle.std.specs.Str.{bytes_eq}
use Rattle.std.specs.Simd.Lanes.{zip2}
use Rattle.rand_core.specs.Steps.{first_words}
use Rattle.rand_pcg.specs.Lcg.{Lcg, started, increment_of}
use Rattle.rand_pcg.specs.Pcg.{pcg32, multiplier_64}
use Rattle.hpe_base.specs.Lists.{tabulate}
use Rattle.hpe_base.specs.Parameters.{Parameters, period_slots, block_bits}
use Rattle.hpe_base.specs.Counts.{counts_of, low_octet}
use Rattle.hpe_base.specs.Decoded.{Tally, decoded, tally_of}
use Rattle.hpe_base.specs.FrameScan.{span_bits}
use Rattle.hpe_base.specs.Slots.{slots_of, flush_words}
use Rattle.hpe_sim.specs.declared.task.Task.{Task}

-- ---- what is sent

-- a generator for a seed and the number of a stream
abbrev pub generator : ℕ → ℕ → Lcg
generator seed stream = started 64 multiplier_64 seed (increment_of 64 stream)

-- the first n words of a generator
abbrev pub words_of : Lcg → ℕ → List ℕ
words_of g n = first_words pcg32 n g

-- the octets of the frames: the lowest octet of a word each
unfoldable pub sim_octets : Parameters → Task → List ℕ
sim_octets p task = map (λ r. r % 256) (words_of (generator task.seed 1) (task.frames * p.frame_octets))

-- the slots that are sent
abbrev pub sim_slots : Parameters → Task → List ℕ
sim_slots p task = counts_of p (slots_of p (sim_octets p task))

-- how many codewords so many frames fill
abbrev pub words_for : Parameters → ℕ → ℕ
words_for p frames = div_ceil (frames * span_bits p) (block_bits p.rate)

-- and how many slots: a period for each codeword, and for each that flushes the channel interleaver
abbrev pub slots_for : Parameters → ℕ → ℕ
slots_for p frames =
    let words = words_for p frames in (if words == 0 then 0 else words + flush_words p) * period_slots p

-- ---- what is counted

-- the count of a slot by a word of 32 bits: a pulse is lost by the word's low half, and noise comes by its high half
abbrev pub count_of : Task → ℕ → ℕ → ℕ
count_of task slot r =
    (if (slot == 1) && nat_le task.lost (r % 65536) then 1 else 0) + (if nat_lt (r / 65536) task.noise then 1 else 0)

-- the counts of slots, guard slots included, by a word each
unfoldable pub channel_counts : Task → List ℕ → List ℕ
channel_counts task slots = zip2 (count_of task) slots (words_of (generator task.seed 2) (length slots))

-- counts below 256 as octets: the last octet of a count carries it
unfoldable pub count_octets_of : Parameters → List ℕ → List ℕ
count_octets_of p counts = tabulate (p.count_octets * length counts) (low_octet p.count_octets (slice_index counts))

-- the octets of the counts of the slots that are sent
unfoldable pub sim_counts : Parameters → Task → List ℕ
sim_counts p task = count_octets_of p (channel_counts task (sim_slots p task))

-- ---- what is told

-- the line on a simulation, by the tally, by whether the octets came back as they were sent, and by the counts
abbrev pub summary_line : Task → Tally → Bool → List ℕ → List ℕ
summary_line task t same counts =
    codes "seed " ++ decimal task.seed
    ++ codes " frames " ++ decimal task.frames
    ++ codes " words " ++ decimal t.words
    ++ codes " kept " ++ decimal t.kept
    ++ codes " lost " ++ decimal t.lost
    ++ codes " back " ++ decimal t.frames
    ++ codes " same " ++ decimal (if same then 1 else 0)
    ++ codes " slots " ++ decimal (length counts)
    ++ codes " counts " ++ decimal (sum counts)
    ++ codes "\n"

-- the line on the whole simulation
unfoldable pub summary : Parameters → Task → List ℕ
summary p task =
    let octets = sim_counts p task in
    summary_line task (tally_of p octets) (bytes_eq (decoded p octets) (sim_octets p task)) (counts_of p octets)
