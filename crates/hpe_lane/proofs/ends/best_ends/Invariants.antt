use Rattle.hpe_base.specs.Sizes.{number_at}
use Rattle.hpe_base.specs.Greatest.{IsGreatest}
use Rattle.hpe_lane.proofs.EndBests.{IsEnd}
use Rattle.hpe_lane.proofs.ends.best_ends.Given as goal

abbrev pub invariant-loop-v : goal.invariant-loop-v
invariant-loop-v l = record {
  even : IsGreatest (IsEnd l.v 0) (number_at l.scores) l.even;
  odd : IsGreatest (IsEnd l.v 1) (number_at l.scores) l.odd;
}
