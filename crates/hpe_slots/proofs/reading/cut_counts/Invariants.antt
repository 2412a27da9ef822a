use Rattle.std.proofs.Common.{◌≡◌, ◌<◌, ℕ, get_or}
use Rattle.std.specs.Prelude.{min}
use Rattle.hpe_base.specs.Parameters.{clamp}
use Rattle.hpe_slots.proofs.reading.cut_counts.Given as goal

abbrev pub invariant-loop-v : goal.invariant-loop-v
invariant-loop-v l = (v : ℕ) → v < l.v → get_or l.sums v 0 ≡ min clamp (get_or l.counts v 0)
