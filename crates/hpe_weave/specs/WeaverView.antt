-- How the fields of a weaver are seen.
use Rattle.hpe_weave.specs.Weaving.{Weaving, IsWeaving}
use Rattle.hpe_weave.specs.declared.weaver.Weaver.TheInside.{Inside}

abbrev pub weaving : Inside → Weaving
weaving w = record { parameters = w.profile; rings = w.rings.items; turn = w.turn }

abbrev pub IsWeavingInside : Inside → Type 0
IsWeavingInside w = IsWeaving (weaving w)
