use Rattle.std.proofs.Common.{◌≡◌, ◌+◌, ◌*◌, ℕ, List, length, get_or, drop, arith, ap, ◌∙◌}
use Rattle.std.proofs.lemmas.Grind.{common_steps}
use Rattle.hpe_base.specs.Counts.{count_at}
use Rattle.hpe_base.proofs.Counts.{counts_of_from_places}
use Rattle.hpe_slots.proofs.reading.read_counts.Goals as goal

pub returns-then-count_octets-eq1 : goal.returns-then-count_octets-eq1
returns-then-count_octets-eq1 c =
    let one : c.args.p.now.count_octets ≡ 1 = omega (arith, c.count_octets.ensures.value) in
    let size : length c.args.octets.now ≡ 1 * length c.args.counts.now = c.requires ∙ ap (λ w. w * length c.args.counts.now) one in
    counts_of_from_places c.args.p.now c.args.octets.now c.widen.new.counts 1 one (omega arith) (omega arith) (λ i b. ap (λ xs. get_or xs i 0) c.widen.ensures)

-- the number of the two octets from a place on
pair_at : (octets : List ℕ) (i count : ℕ) → count ≡ get_or (drop (2 * i) octets) 0 0 * 256 + (get_or (drop (2 * i) octets) 1 0 * 1 + 0) → count ≡ count_at 2 octets i
pair_at octets i count h = grind (arith, common_steps, h)

pub returns-else-count_octets-eq1 : goal.returns-else-count_octets-eq1
returns-else-count_octets-eq1 c =
    let two : c.args.p.now.count_octets ≡ 2 = omega (arith, c.count_octets.ensures.value, c.count_octets.ensures.valid.range.count_octets_low, c.count_octets.ensures.valid.range.count_octets_high) in
    let size : length c.args.octets.now ≡ 2 * length c.args.counts.now = c.requires ∙ ap (λ w. w * length c.args.counts.now) two in
    counts_of_from_places c.args.p.now c.args.octets.now c.read_u16_into.new.dst 2 two (omega arith) (omega arith) (λ i b.
    pair_at c.args.octets.now i _ (c.read_u16_into.ensures i (omega arith)))
