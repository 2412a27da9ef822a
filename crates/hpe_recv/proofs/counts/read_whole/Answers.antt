use Rattle.std.proofs.Common.{◌≤◌, ◌*◌, ◌/◌, ◌∙◌, ℕ, length, take, arith, ap}
use Rattle.std.proofs.lemmas.List.{take_at, length-take}
use Rattle.hpe_base.specs.Counts.{counts_of}
use Rattle.hpe_recv.proofs.Counting.{count_fits, counts_of-whole}
use Rattle.hpe_recv.proofs.counts.read_whole.Goals as goal

pub slice_bounds-read_counts-end-3 : goal.slice_bounds-read_counts-end-3
slice_bounds-read_counts-end-3 c =
    let count : ℕ = length c.args.octets.now / c.count_octets-width.result in
    let fits : count ≤ length c.args.counts.now = count_fits _ _ _ _ c.count_octets-width.ensures.value c.requires.room in
    omega (arith, length-take count c.args.counts.now)

pub returns-clause-within : goal.returns-clause-within
returns-clause-within c =
    let count : ℕ = length c.args.octets.now / c.count_octets-width.result in
    let fits : count ≤ length c.args.counts.now = count_fits _ _ _ _ c.count_octets-width.ensures.value c.requires.room in
    omega (arith, length-take count c.args.counts.now, c.read_counts.auto.counts)

pub returns-clause-counts : goal.returns-clause-counts
returns-clause-counts c =
    let count : ℕ = length c.args.octets.now / c.count_octets-width.result in
    let fits : count ≤ length c.args.counts.now = count_fits _ _ _ _ c.count_octets-width.ensures.value c.requires.room in
    let same = c.count_octets-width.ensures.value in
    let v = c.count_octets-width.ensures.valid.range in
    take_at c.read_counts.new.counts _ count (omega (arith, length-take count c.args.counts.now, c.read_counts.auto.counts))
    ∙ (c.read_counts.ensures ∙ (ap (λ w. counts_of c.args.p.now (take (w * count) c.args.octets.now)) same
    ∙ counts_of-whole c.args.p.now v.count_octets_low v.count_octets_high c.args.octets.now count (ap (λ w. length c.args.octets.now / w) same)))
