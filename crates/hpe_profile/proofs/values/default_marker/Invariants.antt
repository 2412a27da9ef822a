-- The symbols so far.
use Rattle.std.proofs.Common.{◌≡◌, ℕ, ◌+◌, ◌*◌, ◌/◌, ◌%◌, ◌<◌, length, pos, get_or}
use Rattle.hpe_profile.proofs.values.default_marker.Given as goal

abbrev pub invariant-loop-i : goal.invariant-loop-i
invariant-loop-i l =
    (length l.marker ≡ 16)
    × ((k : ℕ) → k < l.i → get_or l.marker k (pos 0) ≡ pos (5 * k * (k + 1) / 2 % l.slots))
