-- What a slicer holds, and after which bits.
use Rattle.std.specs.Prelude.{ℕ, ◌≡◌, List}
use Rattle.hpe_base.specs.Parameters.{Parameters, block_bits}
use Rattle.hpe_base.specs.Units.{unit_of}

-- a slicer of a bit stream: the bits of the block that is begun or was just completed
pub record Slicing : Type 0 where
  pub parameters : Parameters
  pub held : List ℕ

-- the slicer is as it stands after these bits, all that were pushed since it was new
abbrev pub HasSliced : Slicing → List ℕ → Type 0
HasSliced s pushed = s.held ≡ unit_of (block_bits s.parameters.rate) pushed
