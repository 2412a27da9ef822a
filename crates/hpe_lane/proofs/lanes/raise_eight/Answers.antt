use Rattle.std.proofs.Common.{rules, ℕ, w32, FitsSigned}
use Rattle.hpe_base.specs.Sizes.{number_at}
use Rattle.hpe_lane.proofs.OneLane.{put_eight}
use Rattle.hpe_lane.proofs.Vectors.{at_eight, raised_lanes}
use Rattle.hpe_lane.proofs.lanes.raise_eight.Goals as goal

pub returns : goal.returns
returns c =
    put_eight c.args.low.now _ _ c.requires.eight
    (raised_lanes c.args.low.now c.requires.eight (at_eight (λ (i : ℕ). FitsSigned w32 (number_at c.args.low.now i)) (search rules) (search rules) (search rules) (search rules) (search rules) (search rules) (search rules) (search rules))
    c.args.high.now c.requires.same (at_eight (λ (i : ℕ). FitsSigned w32 (number_at c.args.high.now i)) (search rules) (search rules) (search rules) (search rules) (search rules) (search rules) (search rules) (search rules)))
