-- Counts as octets.
use Rattle.std.proofs.Common.{◌≡◌, ◌<◌, ◌+◌, ◌-◌, ◌*◌, ◌/◌, ◌%◌, ◌==◌, ◌∙◌, ◌++◌, [], ℕ, List, length, get_or, sum, arith, ap, ap₂, sym, if◌then◌else◌}
use Rattle.std.specs.List.{flat_map}
use Rattle.std.proofs.lemmas.Nat.{div_below}
use Rattle.std.proofs.lemmas.Simd.{get_or-zip2, length-zip2}
use Rattle.hpe_base.specs.Counts.{counts_of, low_octet}
use Rattle.hpe_base.specs.Lists.{tabulate}
use Rattle.hpe_base.specs.Parameters.{Parameters, IsValid}
use Rattle.hpe_base.proofs.Counts.{counts_of-slots, octets-flat, slot_octets, octets-more, get_or-octets, length-counts_of, sum-slot_octets}
use Rattle.hpe_base.proofs.Tabulated.{get_or-tabulate, length-tabulate, tabulate-none, tabulate-same, tabulate-places}
use Rattle.hpe_sim.specs.declared.task.Task.{Task}
use Rattle.hpe_sim.specs.Simulated.{channel_counts, count_of, count_octets_of, generator, words_of}
use Rattle.hpe_sim.proofs.Words.{length-words}

-- a count for each slot
pub length-channel_counts : (task : Task) (slots : List ℕ) → length (channel_counts task slots) ≡ length slots
unfolding channel_counts
length-channel_counts task slots = length-zip2 (count_of task) slots (words_of (generator task.seed 2) (length slots)) (sym (length-words (length slots) (generator task.seed 2)))

-- the count of slot i, by word i
get_or-channel_counts : (task : Task) (slots : List ℕ) (i : ℕ) → i < length slots
    → get_or (channel_counts task slots) i 0 ≡ count_of task (get_or slots i 0) (get_or (words_of (generator task.seed 2) (length slots)) i 0)
unfolding channel_counts
get_or-channel_counts task slots i h =
    get_or-zip2 (count_of task) slots (words_of (generator task.seed 2) (length slots)) i 0 0 0 h (omega (arith, length-words (length slots) (generator task.seed 2)))

-- before a slot is counted
pub counts_none : (w : ℕ) (f : ℕ → ℕ) (xs : List ℕ) → xs ≡ [] → xs ≡ tabulate (w * 0) (low_octet w f)
counts_none w f xs e = let none : w * 0 ≡ 0 = omega arith in e ∙ sym (ap (λ n. tabulate n (low_octet w f)) none ∙ tabulate-none (low_octet w f))

-- one slot more
pub counts_more : (p : Parameters) (task : Task) (octets xs ys : List ℕ) (w i count r : ℕ) → IsValid p → w ≡ p.count_octets → i < length (counts_of p octets)
    → octets ≡ count_octets_of p (counts_of p octets) → get_or (words_of (generator task.seed 2) (length (counts_of p octets))) i 0 ≡ r
    → count ≡ count_of task (get_or octets (w * i + (w - 1)) 0) r
    → xs ≡ tabulate (p.count_octets * i) (low_octet p.count_octets (λ k. get_or (channel_counts task (counts_of p octets)) k 0))
    → ys ≡ xs ++ tabulate w (low_octet w (λ k. count))
    → ys ≡ tabulate (p.count_octets * (i + 1)) (low_octet p.count_octets (λ k. get_or (channel_counts task (counts_of p octets)) k 0))
unfolding count_octets_of
counts_more p task octets xs ys w i count r v same within own word counted was now =
    let slots : List ℕ = counts_of p octets in
    let f : ℕ → ℕ = λ k. get_or (channel_counts task slots) k 0 in
    let slot : get_or octets (w * i + (w - 1)) 0 ≡ get_or slots i 0 =
    ap (λ k. get_or octets (k * i + (k - 1)) 0) same ∙ get_or-octets p.count_octets (length slots) i (λ k. get_or slots k 0) octets v.range.count_octets_low within own in
    let here : count ≡ f i = counted ∙ ap₂ (count_of task) slot (sym word) ∙ sym (get_or-channel_counts task slots i within) in
    now ∙ ap₂ (λ l k. l ++ tabulate k (low_octet k (λ _. count))) was same
    ∙ ap (λ c. tabulate (p.count_octets * i) (low_octet p.count_octets f) ++ tabulate p.count_octets (low_octet p.count_octets (λ _. c))) here
    ∙ sym (octets-more p.count_octets i f v.range.count_octets_low)

-- all slots
pub counts_all : (p : Parameters) (task : Task) (octets xs : List ℕ) (w i : ℕ) → w ≡ p.count_octets → i ≡ length octets / w
    → xs ≡ tabulate (p.count_octets * i) (low_octet p.count_octets (λ k. get_or (channel_counts task (counts_of p octets)) k 0))
    → xs ≡ count_octets_of p (channel_counts task (counts_of p octets))
unfolding count_octets_of
counts_all p task octets xs w i same end was =
    let size : i ≡ length (channel_counts task (counts_of p octets)) =
    end ∙ ap (λ k. length octets / k) same ∙ sym (length-counts_of p octets) ∙ sym (length-channel_counts task (counts_of p octets)) in
    was ∙ ap (λ n. tabulate (p.count_octets * n) (low_octet p.count_octets (λ k. get_or (channel_counts task (counts_of p octets)) k 0))) size

-- ---- counts and their octets
-- so many octets
pub length-count_octets_of : (p : Parameters) (counts : List ℕ) → length (count_octets_of p counts) ≡ p.count_octets * length counts
unfolding count_octets_of
length-count_octets_of p counts = length-tabulate _ _

-- the octets of counts write these counts
pub counts_of-octets : (p : Parameters) (counts : List ℕ) → IsValid p → counts_of p (count_octets_of p counts) ≡ counts
unfolding count_octets_of
counts_of-octets p counts v = counts_of-slots p (length counts) (λ k. get_or counts k 0) v.range.count_octets_low v.range.count_octets_high ∙ tabulate-places counts

-- octets that carry slots are those of the slots that they write
pub octets-own : (p : Parameters) (n : ℕ) (f : ℕ → ℕ) (octets : List ℕ) → IsValid p → octets ≡ tabulate (p.count_octets * n) (low_octet p.count_octets f)
    → octets ≡ count_octets_of p (counts_of p octets)
unfolding count_octets_of
octets-own p n f octets v e =
    let w : ℕ = p.count_octets in
    let slots : counts_of p octets ≡ tabulate n f = ap (counts_of p) e ∙ counts_of-slots p n f v.range.count_octets_low v.range.count_octets_high in
    let size : length (tabulate n f) ≡ n = length-tabulate n f in
    e ∙ sym (ap (λ (l : List ℕ). tabulate (w * length l) (low_octet w (λ k. get_or l k 0))) slots
    ∙ (ap (λ m. tabulate (w * m) (low_octet w (λ k. get_or (tabulate n f) k 0))) size
    ∙ tabulate-same (w * n) (low_octet w (λ k. get_or (tabulate n f) k 0)) (low_octet w f) (λ k b.
    let below : k / w < n = div_below k w n v.range.count_octets_low (let swap : n * w ≡ w * n = grind arith in omega arith) in
    ap (λ c. if k % w == w - 1 then c else 0) (get_or-tabulate n f (k / w) 0 below))))

-- so octets of counts add up to the counts
pub sum-count_octets_of : (p : Parameters) (counts : List ℕ) → IsValid p → sum (count_octets_of p counts) ≡ sum counts
unfolding count_octets_of
sum-count_octets_of p counts v =
    ap sum (octets-flat p.count_octets (length counts) (λ k. get_or counts k 0) v.range.count_octets_low ∙ ap (flat_map (slot_octets p.count_octets)) (tabulate-places counts))
    ∙ sum-slot_octets p.count_octets counts v.range.count_octets_low v.range.count_octets_high
