-- How contracts see a scan's fields.
use Rattle.std.specs.Prelude.{◌≡◌, ◌≤◌, ◌<◌, ◌+◌, ◌*◌, ◌^◌, vec_len, vec_capacity}
use Rattle.hpe_base.specs.Parameters.{block_bits}
use Rattle.hpe_base.specs.FrameScan.{span_bits}
use Rattle.hpe_frame.specs.Scanning.{Scanning}
use Rattle.hpe_frame.specs.declared.scan.FrameScan.TheInside.{Inside}

abbrev pub scanning : Inside → Scanning
scanning s = record {
  parameters = s.profile;
  grid = s.grid;
  held = s.held.items;
  frames = s.frames;
  blocks = s.blocks;
  spent = s.spent;
}

-- less than a span is held, and there is room for a span and a block
pub record IsScanning (s : Inside) : Type 0 where
  pub held : vec_len s.held < span_bits s.profile
  pub room : span_bits s.profile + block_bits s.profile.rate ≤ vec_capacity s.held
  pub octets : vec_len s.octets ≡ s.profile.frame_octets
  pub few : s.frames ≤ s.blocks * 2 ^ 20
