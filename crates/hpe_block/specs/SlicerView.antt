-- How contracts see a slicer's fields.
use Rattle.std.specs.Prelude.{◌≡◌, ◌≤◌, take, length}
use Rattle.hpe_base.specs.Bits.{AreBits}
use Rattle.hpe_base.specs.Parameters.{block_bits}
use Rattle.hpe_block.specs.Slicing.{Slicing}
use Rattle.hpe_block.specs.declared.slicer.Slicer.TheInside.{Inside}

abbrev pub slicing : Inside → Slicing
slicing s = record { parameters = s.profile; held = take s.used s.bits.items }

pub record IsSlicing (s : Inside) : Type 0 where
  pub size : length s.bits.items ≡ block_bits s.profile.rate
  pub low : 1 ≤ block_bits s.profile.rate
  pub used : s.used ≤ block_bits s.profile.rate
  pub bits : AreBits s.bits.items
