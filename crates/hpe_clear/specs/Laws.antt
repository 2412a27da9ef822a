-- The law of the clear channel.
use Rattle.std.specs.Prelude.{if◌then◌else◌, ℕ, ◌*◌, ◌%◌, ◌==◌, ◌<◌, ◌≡◌, ◌≢◌, List, length, All}
use Rattle.hpe_base.specs.Lists.{tabulate}
use Rattle.hpe_base.specs.Parameters.{Parameters, IsValid, block_bits, period_slots}
use Rattle.hpe_base.specs.Frames.{frame_count, bit_stream}
use Rattle.hpe_base.specs.Slicer.{block_count, block_from}
use Rattle.hpe_base.specs.Slots.{slots_of}
use Rattle.hpe_base.specs.Counts.{counts_of}
use Rattle.hpe_base.specs.ClearChannel.{clear}
use Rattle.hpe_base.specs.MarkerSearch.{Offset, Short, Dark, At, searched_periods, offset_of}
use Rattle.hpe_base.specs.Rounds.{Kept}
use Rattle.hpe_base.specs.Decoded.{Tally, verdicts_of, decoded, tally_of}

-- the octets of the slots of octets after d dark slots
abbrev pub clear_octets : Parameters → List ℕ → ℕ → List ℕ
clear_octets p octets d = clear p d (slots_of p octets)

-- their counts
abbrev pub clear_counts : Parameters → List ℕ → ℕ → List ℕ
clear_counts p octets d = counts_of p (clear_octets p octets d)

-- the score of markers each pulse of which is counted once
abbrev pub full_score : Parameters → List ℕ → ℕ
full_score p counts = searched_periods p counts * (length p.marker * p.repeat)

-- what the search finds: the dark slots, or too short a stream where there is no block
abbrev pub clear_offset : Parameters → List ℕ → ℕ → Offset
clear_offset p octets d = if block_count p octets == 0 then Short else At d (full_score p (clear_counts p octets d))

-- the tally: each word is kept and each frame delivered
abbrev pub clear_tally : Parameters → List ℕ → ℕ → Tally
clear_tally p octets d = record {
  words = block_count p octets;
  kept = block_count p octets;
  lost = 0;
  frames = frame_count p octets;
  lead = if block_count p octets == 0 then 0 else d;
  tail = if block_count p octets == 0 then d else 0;
}

-- what a receiver makes of these counts: the octets that were sent, each block in the first round
pub record IsDecodedClear (p : Parameters) (octets : List ℕ) (d : ℕ) : Type 0 where
  pub offset : offset_of p (clear_counts p octets d) ≡ clear_offset p octets d
  pub lit : offset_of p (clear_counts p octets d) ≢ Dark
  pub verdicts : verdicts_of p (clear_counts p octets d) ≡ tabulate (block_count p octets) (λ w. Kept 1 (block_from (bit_stream p octets) (block_bits p.rate) w))
  pub frames : decoded p (clear_octets p octets d) ≡ octets
  pub tally : tally_of p (clear_octets p octets d) ≡ clear_tally p octets d

-- under every valid profile, whole frames come back behind fewer dark slots than a period has
abbrev pub ClearChannelIsDecoded : Type 0
ClearChannelIsDecoded =
    (p : Parameters) (octets : List ℕ) (d : ℕ) → IsValid p → All (λ octet. octet < 256) octets →
    length octets % p.frame_octets ≡ 0 → d < period_slots p → IsDecodedClear p octets d
