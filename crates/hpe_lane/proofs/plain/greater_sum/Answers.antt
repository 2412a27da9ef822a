use Rattle.hpe_lane.proofs.OuterFits.{greater_is}
use Rattle.hpe_lane.proofs.plain.greater_sum.Goals as goal

pub returns : goal.returns
returns c = greater_is c.args.a c.args.x c.args.b c.args.y c.max.result c.requires.a c.requires.x c.requires.b c.requires.y c.max.ensures.value
