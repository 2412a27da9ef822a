-- Laws of the frame scan.
use Rattle.std.specs.Prelude.{ℕ, ◌≡◌, ◌+◌, ◌*◌, ◌/◌, ◌<◌, List, [], ◌∷◌, Bool, true, false, All, Some, None}
use Rattle.std.specs.List.{list_all, range_with_len}
use Rattle.std.specs.declared.option.Option.{Option}
use Rattle.hpe_base.specs.Lists.{tabulate, joined}
use Rattle.hpe_base.specs.Parameters.{Parameters, IsValid, block_bits}
use Rattle.hpe_base.specs.Frames.{frame_count, frame, bit_stream}
use Rattle.hpe_base.specs.Slicer.{block_count, block_from}
use Rattle.hpe_base.specs.FrameScan.{span_bits, delivered_frames}

-- a block that is given, or one that is missing
abbrev pub block_if : Bool → List ℕ → Option (List ℕ)
block_if true bits = Some bits
block_if false bits = None

-- a frame that is given, or none
abbrev pub frame_if : Bool → List ℕ → List (List ℕ)
frame_if true octets = octets ∷ []
frame_if false octets = []

-- the blocks of the bit stream of octets, of which some are given and the others are missing
abbrev pub given_blocks : Parameters → List ℕ → (ℕ → Bool) → List (Option (List ℕ))
given_blocks p octets given =
    tabulate (block_count p octets) (λ w. block_if (given w) (block_from (bit_stream p octets) (block_bits p.rate) w))

-- every block with a bit of frame f or of its marker is given
abbrev pub is_given : Parameters → (ℕ → Bool) → ℕ → Bool
is_given p given f = list_all (λ i. given ((f * span_bits p + i) / block_bits p.rate)) (range_with_len 0 (span_bits p))

-- the frames of octets, in order, all of whose blocks are given
abbrev pub given_frames : Parameters → List ℕ → (ℕ → Bool) → List (List ℕ)
given_frames p octets given = joined (frame_count p octets) (λ f. frame_if (is_given p given f) (frame p octets f))

-- where the blocks of the first frame are given, the frames that are delivered are those all of whose blocks are given
abbrev pub GivenFramesAreDelivered : Type 0
GivenFramesAreDelivered =
    (p : Parameters) (octets : List ℕ) (given : ℕ → Bool) → IsValid p → All (λ octet. octet < 256) octets →
    (0 < frame_count p octets → is_given p given 0 ≡ true) →
    delivered_frames p (given_blocks p octets given) ≡ given_frames p octets given
