-- Where the references of fields point plays no part.
use Rattle.std.proofs.Common.{◌≡◌, refl}
use Rattle.hpe_base.specs.Validity.{profile_of}
use Rattle.hpe_base.specs.declared.fields.Fields.{Fields}
use Rattle.hpe_profile.specs.ProfileText.{IsAlike}

pub profile_alike : (f g : Fields) → IsAlike f g → profile_of f ≡ profile_of g
unfolding profile_of
profile_alike f g a =
    rw (
      a.order,
      a.rate,
      a.frame_octets,
      a.frame_marker,
      a.taps,
      a.seed,
      a.check,
      a.columns,
      a.rows,
      a.delay,
      a.marker,
      a.repeat,
      a.rounds,
      a.search,
      a.count_octets,
      a.scale,
    ) refl
