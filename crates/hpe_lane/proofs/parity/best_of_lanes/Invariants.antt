use Rattle.std.proofs.Common.{◌<◌}
use Rattle.hpe_base.proofs.Greatest.{IsGreatestBelow}
use Rattle.hpe_lane.specs.Lanes.{lane_of}
use Rattle.hpe_lane.proofs.parity.best_of_lanes.Given as goal

abbrev pub invariant-loop-i : goal.invariant-loop-i
invariant-loop-i l = record {
  even : IsGreatestBelow l.i (λ i. i < 8) (lane_of l.even l.odd l.mask) l.first;
  odd : IsGreatestBelow l.i (λ i. i < 8) (lane_of l.odd l.even l.mask) l.second;
}
