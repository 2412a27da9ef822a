use Rattle.std.proofs.Common.{lit≤}
use Rattle.hpe_lane.proofs.Sizes.{wider}
use Rattle.hpe_lane.proofs.OneLane.{put_eight, all_wider}
use Rattle.hpe_lane.proofs.Vectors.{mirror_lanes}
use Rattle.hpe_lane.proofs.lanes.mirror_eight.Goals as goal

pub returns : goal.returns
returns c = put_eight c.args.high.now _ _ c.requires.same (mirror_lanes c.args.x (wider 81915 1000000000 c.args.x (lit≤ tt) c.requires.x) c.args.low.now c.requires.eight (all_wider 114681 1000000000 c.args.low.now (lit≤ tt) c.requires.low))
