use Rattle.std.proofs.Common.{◌≡◌, ℕ, ◌-◌, ◌<◌, ◌+ℤ◌, pos, get_or, length}
use Rattle.hpe_base.specs.Sizes.{number_at}
use Rattle.hpe_lane.proofs.plain.add_mirrored.Given as goal

abbrev pub invariant-loop-v : goal.invariant-loop-v
invariant-loop-v l = (v : ℕ) → v < l.v → number_at l.sums v ≡ pos (get_or l.counts v 0) +ℤ number_at l.scores (length l.scores - 1 - v)
