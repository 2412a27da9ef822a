use Rattle.std.proofs.Common.{arith, ℤ, lit≤}
use Rattle.hpe_base.specs.Sizes.{number_at, Within}
use Rattle.hpe_lane.proofs.BestBack.{best_of_one, best_row}
use Rattle.hpe_lane.proofs.BestEdges.{entry_less}
use Rattle.hpe_lane.proofs.Sizes.{wider}
use Rattle.hpe_lane.proofs.Sums.{fits_sum}
use Rattle.hpe_lane.proofs.back.best_from_one.Goals as goal

wide : (a : ℤ) → Within 147447 a → Within 1700000000 a
wide a h = wider 147447 1700000000 a (lit≤ tt) h

entry : (a : ℤ) → Within 147447 a → Within 1099983617 a
entry a h = wider 147447 1099983617 a (lit≤ tt) h

number : (x : ℤ) → Within 16383 x → Within 147447 x
number x h = wider 16383 147447 x (lit≤ tt) h

pub overflow_add-result : goal.overflow_add-result
overflow_add-result c =
    fits_sum (number_at c.args.best 0) (number_at c.args.stage.l.now 0) (wide _ (best_row c.args.stage.counts.now c.args.stage.l.now c.args.best 0 c.requires.stage c.requires.best 0 (omega arith))) (number _ (c.requires.stage.within 0))

pub overflow_add-result-2 : goal.overflow_add-result-2
overflow_add-result-2 c =
    fits_sum (number_at c.args.best 1) (number_at c.args.stage.l.now 0) (wide _ (best_row c.args.stage.counts.now c.args.stage.l.now c.args.best 0 c.requires.stage c.requires.best 1 (omega arith))) (number _ (c.requires.stage.within 0))

pub overflow_sub-result : goal.overflow_sub-result
overflow_sub-result c =
    entry_less (number_at c.args.best 2) (number_at c.args.stage.l.now 0) (entry _ (best_row c.args.stage.counts.now c.args.stage.l.now c.args.best 0 c.requires.stage c.requires.best 2 (omega arith))) (c.requires.stage.within 0)

pub overflow_sub-result-2 : goal.overflow_sub-result-2
overflow_sub-result-2 c =
    entry_less (number_at c.args.best 3) (number_at c.args.stage.l.now 0) (entry _ (best_row c.args.stage.counts.now c.args.stage.l.now c.args.best 0 c.requires.stage c.requires.best 3 (omega arith))) (c.requires.stage.within 0)

pub returns : goal.returns
returns c = best_of_one c.args.stage.counts.now c.args.stage.l.now c.args.best c.requires.stage c.requires.best
