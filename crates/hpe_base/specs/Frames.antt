-- Transfer frames with their attached frame markers, as one bit stream.
use Rattle.std.specs.Prelude.{ℕ, ◌+◌, ◌*◌, ◌/◌, List, ◌++◌, length, slice_range}
use Rattle.hpe_base.specs.Lists.{joined}
use Rattle.hpe_base.specs.Bits.{bits_of, octet_bits}
use Rattle.hpe_base.specs.Parameters.{Parameters}

-- the number of whole frames in the octets; a shorter rest plays no part
abbrev pub frame_count : Parameters → List ℕ → ℕ
frame_count p octets = length octets / p.frame_octets

-- frame f, from 0
abbrev pub frame : Parameters → List ℕ → ℕ → List ℕ
frame p octets f = slice_range octets (f * p.frame_octets) (f * p.frame_octets + p.frame_octets)

-- the frame marker and then frame f
abbrev pub frame_bits : Parameters → List ℕ → ℕ → List ℕ
frame_bits p octets f = bits_of 32 p.frame_marker ++ octet_bits (frame p octets f)

-- marker and frame, frame after frame
unfoldable pub bit_stream : Parameters → List ℕ → List ℕ
bit_stream p octets = joined (frame_count p octets) (frame_bits p octets)
