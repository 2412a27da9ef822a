use Rattle.std.proofs.Common.{ℕ, ◌<◌}
use Rattle.hpe_base.specs.Sizes.{number_at}
use Rattle.hpe_lane.specs.Lanes.{IsBest}
use Rattle.hpe_lane.proofs.LaneBests.{InLane}
use Rattle.hpe_lane.proofs.parity.best_of_blocks.Given as goal

abbrev pub invariant-loop-j : goal.invariant-loop-j
invariant-loop-j l = record {
  even : (i : ℕ) → i < 8 → IsBest (InLane l.mask 0 i l.j) (number_at l.scores) (number_at l.even i);
  odd : (i : ℕ) → i < 8 → IsBest (InLane l.mask 1 i l.j) (number_at l.scores) (number_at l.odd i);
}
