use Rattle.std.proofs.Common.{ℕ, ◌+◌, ◌*◌, ◌<◌}
use Rattle.hpe_base.specs.Sizes.{number_at}
use Rattle.hpe_base.specs.Greatest.{IsGreatest}
use Rattle.hpe_lane.specs.Parts.{part_edge}
use Rattle.hpe_lane.proofs.EndBests.{InLane8}
use Rattle.hpe_lane.proofs.best.best_of_half.Given as goal

abbrev pub invariant-loop-k : goal.invariant-loop-k
invariant-loop-k l = (i : ℕ) → i < 8 → IsGreatest (InLane8 l.k i) (λ v. part_edge l.fn.parts.counts.now l.fn.parts.blocks.now l.fn.parts.eight.now (8 * l.fn.first + v)) (number_at l.best i)
