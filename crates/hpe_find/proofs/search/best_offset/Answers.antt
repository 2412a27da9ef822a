use Rattle.std.proofs.Common.{ℕ, arith}
use Rattle.std.proofs.lemmas.List.{length-take}
use Rattle.hpe_base.proofs.ParameterLemmas.{period_is, period-pos, period-le}
use Rattle.hpe_find.proofs.search.best_offset.Goals as goal

pub nonzero_div-counts : goal.nonzero_div-counts
nonzero_div-counts c =
    omega (arith, period_is c.geometry-period.result c.args.p.now c.geometry-period.ensures.value, period-pos c.args.p.now c.geometry-period.ensures.valid)

pub best_of-best-requires : goal.best_of-best-requires
best_of-best-requires c =
    let period = period_is c.geometry-period.result c.args.p.now c.geometry-period.ensures.value in
    let most = period-le c.args.p.now c.geometry-period.ensures.valid in
    let long = c.score_row.auto.scores in
    record { from = omega (arith, length-take {A = ℕ}) }
