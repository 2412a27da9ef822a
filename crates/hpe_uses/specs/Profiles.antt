-- What the example of a profile makes.
use Rattle.std.specs.Prelude.{if◌then◌else◌, ℤ, unsigned_abs, Result, Ok, Err}
use Rattle.hpe_base.specs.Parameters.{Parameters, basic}
use Rattle.hpe_base.specs.Validity.{within}
use Rattle.hpe_base.specs.declared.fault.Key.TheVariants as key
use Rattle.hpe_base.specs.declared.fault.ProfileFault.{ProfileFault}
use Rattle.hpe_base.specs.declared.fault.ProfileFault.TheVariants.{Range}

-- the built-in profile, but for frames of so many octets and two octets a count
abbrev pub basic_with : ℤ → Parameters
basic_with octets = record basic { frame_octets = unsigned_abs octets; count_octets = 2 }

-- it is made where a frame may have so many octets, and else that key is refused
abbrev pub profile_with : ℤ → Result Parameters ProfileFault
profile_with octets = if within 1 65536 octets then Ok (basic_with octets) else Err (Range key.FrameOctets)
