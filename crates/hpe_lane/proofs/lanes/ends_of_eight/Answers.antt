use Rattle.std.proofs.Common.{rules, length, ◌≡◌, ℕ, w32, FitsSigned}
use Rattle.hpe_base.specs.Sizes.{number_at}
use Rattle.hpe_lane.proofs.Vectors.{at_eight, ends_lanes}
use Rattle.hpe_lane.proofs.lanes.ends_of_eight.Goals as goal

pub returns : goal.returns
returns c =
    let e : length c.args.best ≡ 8 = search rules in
    ends_lanes c.args.best e (at_eight (λ (i : ℕ). FitsSigned w32 (number_at c.args.best i)) (search rules) (search rules) (search rules) (search rules) (search rules) (search rules) (search rules) (search rules))
