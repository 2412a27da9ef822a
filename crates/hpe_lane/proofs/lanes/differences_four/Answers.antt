use Rattle.std.proofs.Common.{rules}
use Rattle.hpe_lane.proofs.Vectors.{gaps_lanes}
use Rattle.hpe_lane.proofs.lanes.differences_four.Goals as goal

pub returns : goal.returns
returns c = gaps_lanes c.args.fore (search rules) c.requires.fore c.args.zero (search rules) c.requires.zero c.args.one (search rules) c.requires.one
