-- The frame scan: the transfer frames in a list of blocks of which some are lost.
use Rattle.std.specs.Prelude.{if◌then◌else◌, ◌==◌, nat_lt, nat_le, ℕ, zero, suc, ◌+◌, ◌*◌, ◌/◌, List, [], ◌∷◌, ◌++◌, length, take, drop, slice_range, replicate, Bool, true, false, Some, None}
use Rattle.std.specs.declared.option.Option.{Option}
use Rattle.std.specs.List.{flat_map, list_all}
use Rattle.hpe_base.specs.Lists.{tabulate}
use Rattle.hpe_base.specs.Bits.{number_of}
use Rattle.hpe_base.specs.Parameters.{Parameters, block_bits}

-- what stands for a bit that isn't known
abbrev pub unknown : ℕ
unknown = 2

-- the bits of a block; those of a lost block are unknown
abbrev pub block_marks : ℕ → Option (List ℕ) → List ℕ
block_marks size None = replicate size unknown
block_marks size (Some bits) = bits

-- the bits of all blocks, one block after another
abbrev pub marks_of : Parameters → List (Option (List ℕ)) → List ℕ
marks_of p blocks = flat_map (block_marks (block_bits p.rate)) blocks

-- the bits of a span: a frame marker and a frame
abbrev pub span_bits : Parameters → ℕ
span_bits p = 32 + 8 * p.frame_octets

-- each bit is known
abbrev pub all_known : List ℕ → Bool
all_known marks = list_all (λ b. nat_lt b unknown) marks

-- the first 32 bits are the frame marker
abbrev pub has_marker : Parameters → List ℕ → Bool
has_marker p bits = number_of (take 32 bits) == p.frame_marker

-- the octets that bits write
unfoldable pub octets_of : List ℕ → List ℕ
octets_of bits = tabulate (length bits / 8) (λ i. number_of (slice_range bits (i * 8) (i * 8 + 8)))

-- where a scan stands: on the grid of frames or searching, the bit place, and the frames delivered so far
pub record Standing : Type 0 where
  pub grid : Bool
  pub place : ℕ
  pub frames : List (List ℕ)

-- a scan begins searching
abbrev pub scan_start : Standing
scan_start = record { grid = false; place = 0; frames = [] }

-- one step, by: on the grid, all bits of the span are known, the first 32 are the frame marker
abbrev pub scan_by : ℕ → Bool → Bool → Bool → List ℕ → Standing → Standing
scan_by span grid true true frame s = record { grid = true; place = s.place + span; frames = s.frames ++ frame ∷ [] }
scan_by span grid true false frame s = record { grid = false; place = s.place + 1; frames = s.frames }
scan_by span true false marked frame s = record { grid = true; place = s.place + span; frames = s.frames }
scan_by span false false marked frame s = record { grid = false; place = s.place + 1; frames = s.frames }

-- a step over the span that stands at the scan's place
abbrev pub scan_span : Parameters → List ℕ → Standing → Standing
scan_span p span s = scan_by (span_bits p) s.grid (all_known span) (has_marker p span) (octets_of (drop 32 span)) s

-- one step, and none where the span passes the end
unfoldable pub scan_step : Parameters → List ℕ → Standing → Standing
scan_step p marks s =
    if nat_le (s.place + span_bits p) (length marks)
    then scan_span p (slice_range marks s.place (s.place + span_bits p)) s
    else s

-- n steps
unfoldable pub scan : Parameters → List ℕ → ℕ → Standing → Standing
scan p marks zero s = s
scan p marks (suc n) s = scan p marks n (scan_step p marks s)

-- where the scan of a list of bits ends: each step goes on by a bit or more, so there is none after so many
abbrev pub scan_from : Parameters → List ℕ → Standing → Standing
scan_from p marks s = scan p marks (length marks) s

-- the frames that are delivered
abbrev pub delivered_frames : Parameters → List (Option (List ℕ)) → List (List ℕ)
delivered_frames p blocks = (scan_from p (marks_of p blocks) scan_start).frames

-- their octets
abbrev pub delivered : Parameters → List (Option (List ℕ)) → List ℕ
delivered p blocks = flat_map (λ frame. frame) (delivered_frames p blocks)
