use Rattle.std.proofs.Common.{arith, ℤ, ◌+ℤ◌, List, ◌∙◌, ap₂}
use Rattle.std.specs.Int.{int_max}
use Rattle.hpe_base.specs.Sizes.{number_at}
use Rattle.hpe_lane.proofs.BestBack.{greater_edge}
use Rattle.hpe_lane.proofs.Sums.{back_wide, fits_sum, max_of_sums}
use Rattle.hpe_lane.proofs.back.after_best.Goals as goal

pub overflow_add-back : goal.overflow_add-back
overflow_add-back c =
    fits_sum (number_at c.args.back 0) c.max-even.result (back_wide c.args.back c.requires.back 0 (omega arith))
    (greater_edge (number_at c.args.best 0) (number_at c.args.best 2) c.max-even.result (c.requires.best 0 (omega arith)) (c.requires.best 2 (omega arith)) c.max-even.ensures.value).1

pub overflow_add-back-2 : goal.overflow_add-back-2
overflow_add-back-2 c =
    fits_sum (number_at c.args.back 1) c.max-odd.result (back_wide c.args.back c.requires.back 1 (omega arith))
    (greater_edge (number_at c.args.best 1) (number_at c.args.best 3) c.max-odd.result (c.requires.best 1 (omega arith)) (c.requires.best 3 (omega arith)) c.max-odd.ensures.value).1

pub returns : goal.returns
returns c =
    let best : List ℤ = c.args.best in
    let back : List ℤ = c.args.back in
    let even = greater_edge (number_at best 0) (number_at best 2) c.max-even.result (c.requires.best 0 (omega arith)) (c.requires.best 2 (omega arith)) c.max-even.ensures.value in
    let odd = greater_edge (number_at best 1) (number_at best 3) c.max-odd.result (c.requires.best 1 (omega arith)) (c.requires.best 3 (omega arith)) c.max-odd.ensures.value in
    max_of_sums (number_at back 0) c.max-even.result (number_at back 1) c.max-odd.result c.max.result
    (back_wide back c.requires.back 0 (omega arith)) even.1 (back_wide back c.requires.back 1 (omega arith)) odd.1 c.max.ensures.value
    ∙ ap₂ (λ (x y : ℤ). int_max (number_at back 0 +ℤ x) (number_at back 1 +ℤ y)) even.0 odd.0
