-- With one octet a count all is as if there were no octets.
use Rattle.std.proofs.Common.{◌≡◌, ◌≤◌, ◌<◌, ◌+◌, ◌*◌, ℕ, List, length, get_or, sum, ap, ◌∙◌, arith, All, inl, inr}
use Rattle.std.proofs.Math.Nat.{mul-le-mul_right}
use Rattle.std.proofs.lemmas.Bool.{cases_lt}
use Rattle.std.proofs.lemmas.List.{get_or_past}
use Rattle.std.proofs.lemmas.List.Elements.{All-get_or}
use Rattle.hpe_base.specs.Lists.{tabulate}
use Rattle.hpe_base.specs.Parameters.{Parameters, positions, sending_slots, period_slots}
use Rattle.hpe_base.specs.ChannelInterleaver.{interleaved_channel}
use Rattle.hpe_base.specs.Slots.{slot_at, octets_to, slots_to}
use Rattle.hpe_base.specs.Counts.{low_octet}
use Rattle.hpe_base.specs.ReceivedWords.{symbol_sums}
use Rattle.hpe_base.specs.Laws.{OneOctetIsPlain, whole_sums}
use Rattle.hpe_base.proofs.Tabulated.{tabulate-same, sum-tabulate-le}
use Rattle.hpe_base.proofs.Counts.{counts_of-one, odd_octets-one, slots-one}

-- an octet is at most 255, also past the last, where 0 stands
octet_at_most : (octets : List ℕ) (k : ℕ) → All (λ octet. octet < 256) octets → get_or octets k 0 ≤ 255
octet_at_most octets k small =
    elim (cases_lt k (length octets)) [
      | inl b ↦ omega (arith, All-get_or (λ octet. octet < 256) octets k 0 b small)
      | inr b ↦ rw (get_or_past octets k 0 b) (omega arith)
    ]

-- a sum of octets isn't cut
sums-whole : (p : Parameters) (octets : List ℕ) (start : ℕ) → p.repeat ≤ 32 → All (λ octet. octet < 256) octets → symbol_sums p octets start ≡ whole_sums p octets start
unfolding symbol_sums
sums-whole p octets start few small =
    tabulate-same (positions p.order) _ _ (λ v h.
    let most : sum (tabulate p.repeat (λ i. get_or octets (start + i * sending_slots p.order + v) 0)) ≤ p.repeat * 255 =
    sum-tabulate-le p.repeat 255 _ (λ i b. octet_at_most octets _ small) in
    let rows : p.repeat * 255 ≤ 32 * 255 = mul-le-mul_right 255 few in
    omega arith)

-- at one octet a slot, octets are slots
slots-plain : (p : Parameters) (n : ℕ) (symbols : List ℕ) → p.count_octets ≡ 1 → octets_to p n symbols ≡ slots_to p n symbols
unfolding octets_to slots_to
slots-plain p n symbols one =
    ap (λ w. tabulate (w * (n * period_slots p)) (low_octet w (slot_at p (interleaved_channel p symbols)))) one
    ∙ slots-one (n * period_slots p) (slot_at p (interleaved_channel p symbols))

-- so the whole chain is as with plain slots
pub one_octet-plain : OneOctetIsPlain
one_octet-plain p v one = record {
  counts = λ octets. counts_of-one p octets one;
  odd = λ octets. odd_octets-one p octets one;
  sums = λ octets start small. sums-whole p octets start v.range.repeat_high small;
  slots = λ n symbols. slots-plain p n symbols one;
}
