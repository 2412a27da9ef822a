-- The symbols of the numbers so far.
use Rattle.std.proofs.Common.{◌≡◌, take, map, unsigned_abs}
use Rattle.hpe_base.proofs.fields.marker_of.Given as goal

abbrev pub invariant-loop-number : goal.invariant-loop-number
invariant-loop-number l = l.marker.items ≡ map unsigned_abs (take l.number-index l.numbers)
