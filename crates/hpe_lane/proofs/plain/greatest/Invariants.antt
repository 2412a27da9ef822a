use Rattle.std.proofs.Common.{length, ◌<◌}
use Rattle.hpe_base.proofs.Greatest.{IsGreatestBelow}
use Rattle.hpe_base.specs.Sizes.{number_at}
use Rattle.hpe_lane.proofs.plain.greatest.Given as goal

abbrev pub invariant-loop-score : goal.invariant-loop-score
invariant-loop-score l = IsGreatestBelow l.score-index (λ v. v < length l.scores) (number_at l.scores) l.best
