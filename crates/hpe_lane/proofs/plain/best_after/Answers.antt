use Rattle.std.proofs.Common.{ℕ, ℤ, ◌+ℤ◌, ◌<◌, ◌%◌, List, length, arith, sym, subst}
use Rattle.hpe_base.specs.Greatest.{IsGreatest}
use Rattle.hpe_base.specs.Sizes.{number_at}
use Rattle.hpe_lane.proofs.Sums.{IsGreatest-within, max_of_sums, after_top, back_wide}
use Rattle.hpe_lane.proofs.plain.best_after.Goals as goal

pub returns : goal.returns
returns c =
    let from : List ℤ = c.args.from.now in
    let back : List ℤ = c.args.back in
    let best : List ℤ = c.best_by_parity-best.result in
    let even = c.best_by_parity-best.ensures.even in
    let odd = c.best_by_parity-best.ensures.odd in
    let e = max_of_sums (number_at back 0) (number_at best 0) (number_at back 1) (number_at best 1) c.max.result
    (back_wide back c.requires.back 0 (omega arith)) (IsGreatest-within 147447 c.requires.edges even) (back_wide back c.requires.back 1 (omega arith)) (IsGreatest-within 147447 c.requires.edges odd) c.max.ensures.value in
    subst (IsGreatest (λ (v : ℕ). v < length from) (λ v. number_at from v +ℤ number_at back (v % 2))) (sym e)
    (after_top (number_at from) back (length from) (number_at best 0) (number_at best 1) even odd)
