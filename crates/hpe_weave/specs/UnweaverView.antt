-- How the fields of an unweaver are seen.
use Rattle.hpe_weave.specs.Unweaving.{Unweaving, IsUnweaving}
use Rattle.hpe_weave.specs.declared.unweaver.Unweaver.TheInside.{Inside}

abbrev pub unweaving : Inside → Unweaving
unweaving u = record { parameters = u.profile; rings = u.rings.items; turn = u.turn; wait = u.wait }

abbrev pub IsUnweavingInside : Inside → Type 0
IsUnweavingInside u = IsUnweaving (unweaving u)
