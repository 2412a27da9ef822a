use Rattle.std.proofs.Common.{rules, ℕ, w32, FitsSigned}
use Rattle.hpe_base.specs.Sizes.{number_at}
use Rattle.hpe_lane.proofs.OneLane.{put_eight}
use Rattle.hpe_lane.proofs.Vectors.{at_eight, greater_lanes}
use Rattle.hpe_lane.proofs.lanes.greater_eight.Goals as goal

pub returns : goal.returns
returns c =
    put_eight c.args.best.now _ _ c.requires.eight
    (greater_lanes c.args.best.now c.requires.eight (at_eight (λ (i : ℕ). FitsSigned w32 (number_at c.args.best.now i)) (search rules) (search rules) (search rules) (search rules) (search rules) (search rules) (search rules) (search rules))
    c.args.block.now c.requires.same (at_eight (λ (i : ℕ). FitsSigned w32 (number_at c.args.block.now i)) (search rules) (search rules) (search rules) (search rules) (search rules) (search rules) (search rules) (search rules)))
