use Rattle.std.proofs.Common.{lit≤}
use Rattle.hpe_lane.proofs.OneLane.{put_eight, all_wider}
use Rattle.hpe_lane.proofs.Vectors.{count_lanes}
use Rattle.hpe_lane.proofs.lanes.add_eight.Goals as goal

pub returns : goal.returns
returns c = put_eight c.args.scores.now _ _ c.requires.same (count_lanes c.args.scores.now c.requires.same (all_wider 131064 1000000000 c.args.scores.now (lit≤ tt) c.requires.scores) c.args.counts.now c.requires.eight c.requires.most)
