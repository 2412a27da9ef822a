use Rattle.hpe_lane.proofs.OuterFits.{best_is}
use Rattle.hpe_lane.proofs.plain.greatest_sum.Goals as goal

pub returns : goal.returns
returns c = best_is c.args.fore c.args.after c.greater_sum-low.result c.greater_sum-high.result c.max.result c.requires.fore c.requires.after c.greater_sum-low.ensures c.greater_sum-high.ensures c.max.ensures.value
