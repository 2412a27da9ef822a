use Rattle.std.proofs.Common.{rules, ◌≡◌, ℕ, ◌+◌, ◌<◌, length, List, get_or, subst, sym, w32, ℤ, pos, to_z, of_z}
use Rattle.std.specs.Int.{int_max}
use Rattle.hpe_base.specs.Sizes.{number_at}
use Rattle.hpe_base.proofs.Greatest.{IsGreatestBelow, IsGreatestBelow-take}
use Rattle.hpe_lane.proofs.plain.greatest.Goals as goal

pub loop-score-preserved : goal.loop-score-preserved
loop-score-preserved c =
    let xs : List ℤ = c.args.scores.now in
    let v : ℕ = c.loop-score.score-index in
    let e : to_z w32 (of_z w32 c.max-best.result) ≡ int_max (to_z w32 c.loop-score.best-bits) (get_or xs v (pos 0)) = search rules in
    subst (λ (t : ℤ). IsGreatestBelow (v + 1) (λ (w : ℕ). w < length xs) (number_at xs) t) (sym e) (IsGreatestBelow-take c.loop-score-test.true c.loop-score.invariant)
