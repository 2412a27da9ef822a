use Rattle.std.proofs.Common.{rules}
use Rattle.hpe_lane.proofs.Vectors.{forward_lanes}
use Rattle.hpe_lane.proofs.lanes.forward_eight.Goals as goal

pub returns : goal.returns
returns c = forward_lanes c.args.row (search rules) c.requires.row c.args.edges (search rules) c.requires.edges
