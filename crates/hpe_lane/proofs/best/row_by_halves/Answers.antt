use Rattle.std.proofs.Common.{arith, ℕ, ℤ}
use Rattle.hpe_base.specs.Sizes.{number_at, Within}
use Rattle.hpe_lane.proofs.BestEdges.{entry_less, low_way, high_way}
use Rattle.hpe_lane.proofs.Sums.{at_pair}
use Rattle.hpe_lane.proofs.best.row_by_halves.Goals as goal

pub overflow_sub-row : goal.overflow_sub-row
overflow_sub-row c = entry_less (number_at c.args.row 1) c.args.x (c.requires.row 1 (omega arith)) c.requires.x

pub returns-clause-low : goal.returns-clause-low
returns-clause-low c =
    (low_way (number_at c.args.row 0) (number_at c.args.row 1) c.args.x c.max-low.result (c.requires.row 0 (omega arith)) (c.requires.row 1 (omega arith)) c.requires.x c.max-low.ensures.value).0

pub returns-clause-high : goal.returns-clause-high
returns-clause-high c =
    (high_way (number_at c.args.row 0) (number_at c.args.row 1) c.args.x c.max-high.result (c.requires.row 0 (omega arith)) (c.requires.row 1 (omega arith)) c.requires.x c.max-high.ensures.value).0

pub returns-clause-within : goal.returns-clause-within
returns-clause-within c =
    at_pair _ _ (λ (s : ℕ) (z : ℤ). Within 1100000000 z)
    (low_way (number_at c.args.row 0) (number_at c.args.row 1) c.args.x c.max-low.result (c.requires.row 0 (omega arith)) (c.requires.row 1 (omega arith)) c.requires.x c.max-low.ensures.value).1
    (high_way (number_at c.args.row 0) (number_at c.args.row 1) c.args.x c.max-high.result (c.requires.row 0 (omega arith)) (c.requires.row 1 (omega arith)) c.requires.x c.max-high.ensures.value).1
