use Rattle.hpe_lane.proofs.OneLane.{put_eight}
use Rattle.hpe_lane.proofs.Eights.{gray_lanes}
use Rattle.hpe_lane.proofs.lanes.gray_eight.Goals as goal

pub returns : goal.returns
returns c = put_eight c.args.out.now _ _ c.requires.eight (gray_lanes c.args.l.now c.requires.three c.requires.l)
