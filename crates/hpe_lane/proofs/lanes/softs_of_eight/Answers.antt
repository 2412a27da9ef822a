use Rattle.std.proofs.Common.{rules, length, ◌≡◌, ℕ, w32, FitsSigned}
use Rattle.hpe_base.specs.Sizes.{number_at}
use Rattle.hpe_lane.proofs.Vectors.{at_eight}
use Rattle.hpe_lane.proofs.Eights.{softs_lanes}
use Rattle.hpe_lane.proofs.lanes.softs_of_eight.Goals as goal

pub returns : goal.returns
returns c =
    let e : length c.args.scores ≡ 8 = search rules in
    softs_lanes c.args.scores e (at_eight (λ (i : ℕ). FitsSigned w32 (number_at c.args.scores i)) (search rules) (search rules) (search rules) (search rules) (search rules) (search rules) (search rules) (search rules)) c.requires.near
