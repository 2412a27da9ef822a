-- How contracts see the fields of an intake of counts.
use Rattle.std.specs.Prelude.{◌≡◌, ◌≤◌, ◌<◌, length, take}
use Rattle.hpe_recv.specs.Counting.{CountIntakeState, half_octets}
use Rattle.hpe_recv.specs.declared.counts.CountIntake.TheInside.{Inside}

abbrev pub counting : Inside → CountIntakeState
counting i = record { parameters = i.profile; octets = i.intake; half = half_octets i.half; piece = take i.used i.counts.items }

-- there is room for a piece, and less than a count is kept
pub record IsCounting (i : Inside) : Type 0 where
  pub room : length i.counts.items ≡ 8192
  pub used : i.used ≤ 8192
  pub half : length (half_octets i.half) < i.profile.count_octets
