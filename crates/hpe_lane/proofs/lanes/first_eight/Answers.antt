use Rattle.std.proofs.Common.{rules, ◌≡◌, ℕ, pos, get_or, of_z, to_z, w32, ◌∷◌, []}
use Rattle.hpe_base.specs.Sizes.{number_at}
use Rattle.hpe_lane.proofs.Vectors.{at_eight}
use Rattle.hpe_lane.proofs.lanes.first_eight.Goals as goal

pub returns : goal.returns
returns c = at_eight (λ (i : ℕ). number_at (to_z w32 (of_z w32 (get_or c.args.scores.now 0 (pos 0))) ∷ to_z w32 (of_z w32 (get_or c.args.scores.now 1 (pos 0))) ∷ to_z w32 (of_z w32 (get_or c.args.scores.now 2 (pos 0))) ∷ to_z w32 (of_z w32 (get_or c.args.scores.now 3 (pos 0))) ∷ to_z w32 (of_z w32 (get_or c.args.scores.now 4 (pos 0))) ∷ to_z w32 (of_z w32 (get_or c.args.scores.now 5 (pos 0))) ∷ to_z w32 (of_z w32 (get_or c.args.scores.now 6 (pos 0))) ∷ to_z w32 (of_z w32 (get_or c.args.scores.now 7 (pos 0))) ∷ []) i ≡ number_at c.args.scores.now i) (search rules) (search rules) (search rules) (search rules) (search rules) (search rules) (search rules) (search rules)
