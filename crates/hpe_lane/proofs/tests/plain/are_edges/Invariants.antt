use Rattle.std.proofs.Common.{◌<◌, ℕ}
use Rattle.hpe_base.specs.Sizes.{number_at, Within}
use Rattle.hpe_lane.proofs.tests.plain.are_edges.Given as goal

abbrev pub invariant-loop-score : goal.invariant-loop-score
invariant-loop-score l = (i : ℕ) → i < l.score-index → Within 147447 (number_at l.scores i)
