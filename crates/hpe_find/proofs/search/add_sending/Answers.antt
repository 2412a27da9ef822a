use Rattle.std.proofs.Common.{◌^◌, ◌≡◌, ◌≤◌, ◌<◌, ◌+◌, ◌*◌, length, get_or, arith, ◌∙◌, ap, sum}
use Rattle.hpe_base.specs.Lists.{tabulate}
use Rattle.hpe_base.specs.Parameters.{symbol_slots}
use Rattle.hpe_find.proofs.Sums.{Added-none, Added-more, Added-small}
use Rattle.hpe_find.proofs.Terms.{symbol_term, symbol_terms, symbol_count}
use Rattle.hpe_find.proofs.search.add_sending.Goals as goal

pub loop-r-init : goal.loop-r-init
loop-r-init c = Added-none _ _

pub add_counts-requires : goal.add_counts-requires
add_counts-requires c = record {
  small = λ k b.
      let short : length c.marker-marker.result.now ≤ 64 = omega (arith, ap length c.marker-marker.ensures.value, c.marker-marker.ensures.valid.range.marker_high) in
      let small = Added-small (symbol_term c.args.p.now c.args.counts.now c.args.start) c.args.sums.now c.loop-r.sums c.loop-r.r 65535 (2 ^ 30)
      c.loop-r.invariant c.loop-r.auto.sums c.requires.small (λ k r. omega (arith, c.type_inv.counts (c.args.start + k + r * symbol_slots c.args.p.now + get_or c.args.p.now.marker r 0))) k b in
      omega arith;
}

pub loop-r-preserved : goal.loop-r-preserved
loop-r-preserved c =
    let symbol : get_or c.marker-marker.result.now c.loop-r.r 0 ≡ get_or c.args.p.now.marker c.loop-r.r 0 = ap (λ xs. get_or xs c.loop-r.r 0) c.marker-marker.ensures.value in
    Added-more (symbol_term c.args.p.now c.args.counts.now c.args.start) _ _ _ _ c.loop-r.invariant c.add_counts.auto.sums
    (λ k b. c.add_counts.ensures k b ∙ ap (λ t. get_or c.loop-r.sums k 0 + t)
    (symbol_count c.args.p.now c.args.counts.now c.args.start c.loop-r.r _ _ k c.symbol_slots-symbol_slots.ensures.value symbol))

pub returns : goal.returns
returns c = λ k b.
    let end : c.loop-r.r ≡ length c.args.p.now.marker = omega (arith, ap length c.marker-marker.ensures.value) in
    let within : k < length c.loop-r.sums = omega arith in
    c.loop-r.invariant.sums k within
    ∙ (ap (λ n. get_or c.args.sums.now k 0 + sum (tabulate n (symbol_term c.args.p.now c.args.counts.now c.args.start k))) end
    ∙ ap (λ t. get_or c.args.sums.now k 0 + t) (symbol_terms c.args.p.now c.args.counts.now c.args.start k))
