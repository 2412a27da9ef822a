use Rattle.std.proofs.Common.{rules}
use Rattle.hpe_lane.proofs.OneLane.{put_eight}
use Rattle.hpe_lane.proofs.Vectors.{joined_lanes}
use Rattle.hpe_lane.proofs.lanes.join_eight.Goals as goal

pub returns : goal.returns
returns c =
    put_eight c.args.joint.now _ _ c.requires.eight
    (joined_lanes c.args.around0 (search rules) c.requires.around0 c.args.around1 (search rules) c.requires.around1 c.args.from0.now c.requires.from0 c.requires.edges0 c.args.from1.now c.requires.from1 c.requires.edges1)
