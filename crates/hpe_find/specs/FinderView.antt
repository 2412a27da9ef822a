-- How the fields of a finder are seen.
use Rattle.std.specs.Prelude.{◌≤◌}
use Rattle.std.specs.Vec.{vec_len, vec_capacity}
use Rattle.hpe_find.specs.Finding.{Finding, finder_room}
use Rattle.hpe_find.specs.declared.finder.Finder.TheInside.{Inside}

abbrev pub finding : Inside → Finding
finding f = record { parameters = f.profile; counts = f.counts.items }

-- what every finder keeps: room for all counts that may be fed
pub record IsFindingInside (f : Inside) : Type 0 where
  pub within : vec_len f.counts ≤ finder_room f.profile
  pub room : finder_room f.profile ≤ vec_capacity f.counts
