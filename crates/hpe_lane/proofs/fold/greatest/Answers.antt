use Rattle.std.proofs.Common.{rules, ◌≡◌, ℕ, ◌<◌, length, List, subst, sym, w32, ℤ, to_z, of_z}
use Rattle.std.specs.Int.{int_max}
use Rattle.hpe_base.specs.Sizes.{number_at}
use Rattle.hpe_base.specs.Greatest.{IsGreatest}
use Rattle.hpe_lane.proofs.EndBests.{both_ends}
use Rattle.hpe_lane.proofs.fold.greatest.Goals as goal

pub returns : goal.returns
returns c =
    let xs : List ℤ = c.args.scores.now in
    let best : List ℤ = c.best_ends-best.result in
    let e : to_z w32 (of_z w32 c.max.result) ≡ int_max (number_at best 0) (number_at best 1) = search rules in
    subst (IsGreatest (λ (v : ℕ). v < length xs) (number_at xs)) (sym e) (both_ends (number_at xs) (length xs) (number_at best 0) (number_at best 1) c.best_ends-best.ensures.even c.best_ends-best.ensures.odd)
