use Rattle.std.proofs.Common.{length}
use Rattle.hpe_base.specs.Sizes.{number_at}
use Rattle.hpe_base.proofs.Greatest.{IsGreatestBelow}
use Rattle.hpe_lane.specs.Edges.{HasParity}
use Rattle.hpe_lane.proofs.plain.best_by_parity.Given as goal

abbrev pub invariant-loop-v : goal.invariant-loop-v
invariant-loop-v l = record {
  even : IsGreatestBelow l.v (HasParity (length l.scores) l.mask 0) (number_at l.scores) l.even;
  odd : IsGreatestBelow l.v (HasParity (length l.scores) l.mask 1) (number_at l.scores) l.odd;
}
