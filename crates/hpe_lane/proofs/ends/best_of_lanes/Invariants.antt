use Rattle.std.proofs.Common.{ℕ, ◌<◌}
use Rattle.hpe_base.specs.Sizes.{number_at}
use Rattle.hpe_base.specs.Greatest.{IsGreatest}
use Rattle.hpe_lane.proofs.EndBests.{InLane8}
use Rattle.hpe_lane.proofs.ends.best_of_lanes.Given as goal

abbrev pub invariant-loop-k : goal.invariant-loop-k
invariant-loop-k l = (i : ℕ) → i < 8 → IsGreatest (InLane8 l.k i) (number_at l.scores) (number_at l.best i)
