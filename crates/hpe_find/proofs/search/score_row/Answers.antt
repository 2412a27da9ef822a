use Rattle.std.proofs.Common.{◌^◌, ◌≡◌, ◌≤◌, ◌<◌, ◌+◌, ◌*◌, ℕ, length, get_or, arith, ◌∙◌, ap, sum}
use Rattle.std.proofs.lemmas.Grind.{common_steps}
use Rattle.hpe_base.specs.Lists.{tabulate}
use Rattle.hpe_base.specs.Parameters.{sending_slots, period_slots}
use Rattle.hpe_base.specs.MarkerSearch.{marker_sum, searched_periods, score}
use Rattle.hpe_find.proofs.Sums.{Added-none, Added-more, Added-small}
use Rattle.hpe_base.proofs.ParameterLemmas.{period_is, periods-le}
use Rattle.hpe_find.proofs.Terms.{period_term, period_terms, sending_terms, marker_sum-le, sending_sum-le}
use Rattle.hpe_find.proofs.search.score_row.Goals as goal

place_here : (from j k x y : ℕ) → x ≡ y → from + j * x + k ≡ from + k + j * y
place_here from j k x y e = rw e (omega arith)

start_small : (from j x y : ℕ) → x ≡ y → from < y → j * y + y ≤ 2 ^ 26 → from + j * x ≤ 2 ^ 26
start_small from j x y e h l = rw e (omega arith)

product_small : (j x y : ℕ) → x ≡ y → j * y + y ≤ 2 ^ 26 → j * x ≤ 2 ^ 26
product_small j x y e l = rw e (omega arith)

pub loop-j-init : goal.loop-j-init
loop-j-init c = Added-none _ _

pub overflow_mul-j : goal.overflow_mul-j
overflow_mul-j c =
    let period = period_is c.geometry-period.result c.args.p.now c.geometry-period.ensures.value in
    let small = product_small c.loop-j.j c.geometry-period.result.period (period_slots c.args.p.now) period (periods-le c.args.p.now c.loop-j.j c.geometry-period.ensures.valid (omega arith)) in
    omega arith

pub overflow_add-from : goal.overflow_add-from
overflow_add-from c =
    let period = period_is c.geometry-period.result c.args.p.now c.geometry-period.ensures.value in
    let small = start_small c.args.from c.loop-j.j c.geometry-period.result.period (period_slots c.args.p.now) period c.requires.from (periods-le c.args.p.now c.loop-j.j c.geometry-period.ensures.valid (omega arith)) in
    omega arith

pub add_sending-requires-clause-start : goal.add_sending-requires-clause-start
add_sending-requires-clause-start c =
    let period = period_is c.geometry-period.result c.args.p.now c.geometry-period.ensures.value in
    let small = start_small c.args.from c.loop-j.j c.geometry-period.result.period (period_slots c.args.p.now) period c.requires.from (periods-le c.args.p.now c.loop-j.j c.geometry-period.ensures.valid (omega arith)) in
    omega arith

pub add_repeats-requires-clause-small : goal.add_repeats-requires-clause-small
add_repeats-requires-clause-small c = λ k b.
    let valid = c.geometry-period.ensures.valid in
    let periods : c.args.p.now.search ≤ 4 = valid.range.search_high in
    let small = Added-small (period_term c.args.p.now c.args.counts.now c.args.from) c.fill.new.self c.loop-j.scores c.loop-j.j 134215680 0
    c.loop-j.invariant c.loop-j.auto.scores (λ k b. let zero : get_or c.fill.new.self k 0 ≡ 0 = grind (arith, common_steps) in omega arith)
    (λ k i. marker_sum-le c.args.p.now c.args.counts.now _ valid.range.repeat_high valid.range.marker_high (λ n. omega (arith, c.type_inv.counts n))) k b in
    omega arith

pub add_repeats-requires-clause-terms : goal.add_repeats-requires-clause-terms
add_repeats-requires-clause-terms c = λ x a.
    let zero : get_or c.fill-in-loop-j.new.self x 0 ≡ 0 = grind (arith, common_steps) in
    omega (
      arith,
      c.add_sending.ensures x (omega arith),
      sending_sum-le c.args.p.now c.args.counts.now (c.args.from + c.loop-j.j * c.geometry-period.result.period + x) c.geometry-period.ensures.valid.range.marker_high (λ n. omega (arith, c.type_inv.counts n)),
    )

pub loop-j-preserved : goal.loop-j-preserved
loop-j-preserved c =
    let period = period_is c.geometry-period.result c.args.p.now c.geometry-period.ensures.value in
    let start = c.args.from + c.loop-j.j * c.geometry-period.result.period in
    Added-more (period_term c.args.p.now c.args.counts.now c.args.from) _ _ _ _ c.loop-j.invariant c.add_repeats.auto.scores
    (λ k b. c.add_repeats.ensures k b ∙ ap (λ t. get_or c.loop-j.scores k 0 + t)
    (sending_terms c.args.p.now c.args.counts.now c.add_sending.new.sums start k _ _ c.repeat-repeat.ensures.value (c.sending_slots-stride.ensures.value ∙ ap sending_slots c.order.ensures.value) (omega arith)
    (λ x a.
    let zero : get_or c.fill-in-loop-j.new.self x 0 ≡ 0 = grind (arith, common_steps) in
    omega (arith, c.add_sending.ensures x (omega arith)))
    ∙ ap (marker_sum c.args.p.now c.args.counts.now)
    (place_here c.args.from c.loop-j.j k c.geometry-period.result.period (period_slots c.args.p.now) period)))

pub returns : goal.returns
returns c = λ k b.
    let end : c.loop-j.j ≡ searched_periods c.args.p.now c.args.counts.now = omega arith in
    let within : k < length c.loop-j.scores = omega arith in
    let zero : get_or c.fill.new.self k 0 ≡ 0 = grind (arith, common_steps) in
    let value : get_or c.loop-j.scores k 0 ≡ get_or c.fill.new.self k 0 + sum (tabulate c.loop-j.j (period_term c.args.p.now c.args.counts.now c.args.from k)) = c.loop-j.invariant.sums k within in
    let whole : sum (tabulate c.loop-j.j (period_term c.args.p.now c.args.counts.now c.args.from k)) ≡ score c.args.p.now c.args.counts.now (c.args.from + k) =
    ap (λ n. sum (tabulate n (period_term c.args.p.now c.args.counts.now c.args.from k))) end ∙ period_terms c.args.p.now c.args.counts.now c.args.from k in
    omega arith
