-- How contracts see a profile.
use Rattle.hpe_base.specs.Parameters.{Parameters, IsValid}
use Rattle.hpe_base.specs.declared.profile.Profile.TheInside.{Inside}

abbrev pub parameters : Inside → Parameters
parameters p = p.values

abbrev pub IsValidInside : Inside → Type 0
IsValidInside p = IsValid (parameters p)
