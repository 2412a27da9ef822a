-- The frames and counts of a simulation, and the room for what comes back.
use Rattle.std.proofs.Common.{◌≡◌, ◌≤◌, ◌<◌, ◌+◌, ◌*◌, ◌/◌, ◌%◌, ◌^◌, ◌∙◌, ℕ, List, length, take, sum, refl, arith, ap, sym}
use Rattle.std.proofs.lemmas.Nat.{div-mul-add, mul-le}
use Rattle.std.proofs.lemmas.List.{length-take, length-map}
use Rattle.std.proofs.Math.Nat.{mul-mod_left, div-mul-le_self, le-div_iff_mul-le}
use Rattle.hpe_base.specs.Counts.{counts_of}
use Rattle.hpe_base.specs.Decoded.{decoded}
use Rattle.hpe_base.specs.Parameters.{Parameters, IsValid, period_slots, block_bits}
use Rattle.hpe_base.specs.Slots.{slots_of, octets_to, slot_at, period_count, sent_symbols}
use Rattle.hpe_base.specs.ChannelInterleaver.{interleaved_channel}
use Rattle.hpe_base.proofs.ParameterLemmas.{codeword_symbols-ge, period-pos}
use Rattle.hpe_sim.specs.declared.task.Task.{Task}
use Rattle.hpe_sim.specs.Simulated.{channel_counts, count_octets_of, generator, sim_counts, sim_octets, sim_slots, slots_for, words_of}
use Rattle.hpe_base.proofs.DecodedSize.{decoded_fits}
use Rattle.hpe_base.proofs.Counts.{length-counts_of}
use Rattle.hpe_sim.proofs.Octets.{counts_of-octets, length-channel_counts, length-count_octets_of, octets-own, sum-count_octets_of}
use Rattle.hpe_sim.proofs.Sizes.{slots_are}
use Rattle.hpe_sim.proofs.Words.{length-words}

-- ---- the frames
-- an octet for each word
length-sim_octets : (p : Parameters) (task : Task) → length (sim_octets p task) ≡ task.frames * p.frame_octets
unfolding sim_octets
length-sim_octets p task =
    length-map (words_of (generator task.seed 1) (task.frames * p.frame_octets)) (λ r. r % 256) ∙ length-words (task.frames * p.frame_octets) (generator task.seed 1)

-- the octets of whole frames
pub whole : (p : Parameters) (task : Task) → length (sim_octets p task) % p.frame_octets ≡ 0
whole p task = ap (λ n. n % p.frame_octets) (length-sim_octets p task) ∙ mul-mod_left task.frames p.frame_octets

-- and few
pub octets_few : (p : Parameters) (task : Task) → IsValid p → task.frames ≤ 65535 → length (sim_octets p task) ≤ 2 ^ 40
octets_few p task v few =
    let all : task.frames * p.frame_octets ≤ 65535 * 65536 = mul-le task.frames p.frame_octets 65535 65536 few v.range.frame_high in
    omega (arith, length-sim_octets p task)

-- the octets of their slots
pub sent_are : (p : Parameters) (task : Task) → IsValid p → length (slots_of p (sim_octets p task)) ≡ p.count_octets * slots_for p task.frames
sent_are p task v = slots_are p (sim_octets p task) task.frames v.range.frame_low (length-sim_octets p task)

-- are those of slots
pub sent_own : (p : Parameters) (octets : List ℕ) → IsValid p → slots_of p octets ≡ count_octets_of p (counts_of p (slots_of p octets))
unfolding slots_of octets_to
sent_own p octets v =
    octets-own p (period_count p octets * period_slots p) (slot_at p (interleaved_channel p (sent_symbols p octets))) (slots_of p octets) v refl

-- as many as there are
length-sim_slots : (p : Parameters) (task : Task) → IsValid p → length (sim_slots p task) ≡ slots_for p task.frames
length-sim_slots p task v =
    let n : ℕ = slots_for p task.frames in
    let low = v.range.count_octets_low in
    let swap : p.count_octets * n ≡ n * p.count_octets + 0 = grind arith in
    length-counts_of p (slots_of p (sim_octets p task)) ∙ ap (λ k. k / p.count_octets) (sent_are p task v ∙ swap) ∙ div-mul-add n p.count_octets 0 low

-- ---- the counts
-- their octets
pub sim_counts-are : (p : Parameters) (task : Task) → count_octets_of p (channel_counts task (counts_of p (slots_of p (sim_octets p task)))) ≡ sim_counts p task
unfolding sim_counts
sim_counts-are p task = refl

-- a count for each slot
pub length-counts_of-sim_counts : (p : Parameters) (task : Task) → IsValid p → length (counts_of p (sim_counts p task)) ≡ slots_for p task.frames
unfolding sim_counts
length-counts_of-sim_counts p task v =
    ap (λ (l : List ℕ). length l) (counts_of-octets p (channel_counts task (sim_slots p task)) v) ∙ length-channel_counts task (sim_slots p task) ∙ length-sim_slots p task v

-- so many octets
length-sim_counts : (p : Parameters) (task : Task) → IsValid p → length (sim_counts p task) ≡ p.count_octets * slots_for p task.frames
unfolding sim_counts
length-sim_counts p task v =
    length-count_octets_of p (channel_counts task (sim_slots p task)) ∙ ap (λ n. p.count_octets * n) (length-channel_counts task (sim_slots p task) ∙ length-sim_slots p task v)

-- which is few
pub counts_few : (p : Parameters) (task : Task) → IsValid p → slots_for p task.frames ≤ 2 ^ 28 → length (sim_counts p task) ≤ 2 ^ 29
counts_few p task v few =
    let all : p.count_octets * slots_for p task.frames ≤ 2 * 2 ^ 28 = mul-le p.count_octets (slots_for p task.frames) 2 (2 ^ 28) v.range.count_octets_high few in
    omega (arith, length-sim_counts p task v)

-- the octets add up to the counts
pub sum-sim_counts : (p : Parameters) (task : Task) → IsValid p → sum (sim_counts p task) ≡ sum (counts_of p (sim_counts p task))
unfolding sim_counts
sum-sim_counts p task v =
    sum-count_octets_of p (channel_counts task (sim_slots p task)) v ∙ ap sum (sym (counts_of-octets p (channel_counts task (sim_slots p task)) v))

-- ---- the room for the frames
-- what is delivered of a front of the counts is less than the room
pub room_for : (p : Parameters) (octets : List ℕ) (slots n : ℕ) → IsValid p → length (counts_of p octets) ≡ slots
    → length (decoded p (take n octets)) < slots / period_slots p * block_bits p.rate / 8 + 1
room_for p octets slots n v e =
    let some = period-pos p v in
    let w : ℕ = p.count_octets in
    let front : ℕ = length (counts_of p (take n octets)) in
    let fit = decoded_fits p (take n octets) (omega (arith, codeword_symbols-ge p.order)) some in
    let small : length (take n octets) / w * w ≤ length (take n octets) = div-mul-le_self (length (take n octets)) w in
    let shorter : length (take n octets) / w ≤ length octets / w =
    (le-div_iff_mul-le v.range.count_octets_low).1 (omega (arith, length-take n octets)) in
    let few : front ≤ slots = omega (arith, length-counts_of p (take n octets), length-counts_of p octets) in
    let back : front / period_slots p * period_slots p ≤ front = div-mul-le_self front (period_slots p) in
    let fewer : front / period_slots p ≤ slots / period_slots p = (le-div_iff_mul-le some).1 (omega arith) in
    let all : front / period_slots p * block_bits p.rate ≤ slots / period_slots p * block_bits p.rate =
    mul-le (front / period_slots p) (block_bits p.rate) (slots / period_slots p) (block_bits p.rate) fewer (omega arith) in
    let less : length (decoded p (take n octets)) ≤ slots / period_slots p * block_bits p.rate / 8 =
    (let eight : 0 < 8 = omega arith in (le-div_iff_mul-le eight).1 (omega arith)) in
    omega arith
