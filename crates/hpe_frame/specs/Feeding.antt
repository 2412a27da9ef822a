-- What a feed of transfer frames holds, and after which octets.
use Rattle.std.specs.Prelude.{ℕ, ◌≡◌, List, ◌++◌}
use Rattle.hpe_base.specs.Bits.{bits_of, octet_bits}
use Rattle.hpe_base.specs.Parameters.{Parameters}
use Rattle.hpe_base.specs.Units.{unit_of}

-- a feed of frames: the octets of the frame that is begun or was just completed
pub record Feeding : Type 0 where
  pub parameters : Parameters
  pub held : List ℕ

-- the feed is as it stands after these octets, all that it was fed since it was new
abbrev pub HasFed : Feeding → List ℕ → Type 0
HasFed f fed = f.held ≡ unit_of f.parameters.frame_octets fed

-- the bits of the frame marker and then of the octets that are held
abbrev pub marked : Feeding → List ℕ
marked f = bits_of 32 f.parameters.frame_marker ++ octet_bits f.held
