-- How many slots frames make.
use Rattle.std.proofs.Common.{◌≡◌, ◌≤◌, ◌+◌, ◌*◌, ◌∙◌, ◌==◌, ℕ, List, length, if◌then◌else◌, ap}
use Rattle.std.specs.Int.{div_ceil}
use Rattle.hpe_base.specs.Parameters.{Parameters, period_slots, block_bits}
use Rattle.hpe_base.specs.FrameScan.{span_bits}
use Rattle.hpe_base.specs.Slicer.{block_count}
use Rattle.hpe_base.specs.Slots.{slots_of, octets_to, octet_at, period_count, flush_words, sent_symbols}
use Rattle.hpe_base.specs.ChannelInterleaver.{interleaved_channel}
use Rattle.hpe_base.proofs.Tabulated.{length-tabulate}
use Rattle.hpe_base.proofs.Shapes.{length-bit_stream}
use Rattle.hpe_sim.specs.Simulated.{words_for, slots_for}
use Rattle.hpe_base.proofs.SentSlots.{frame_count-whole}

words_are : (p : Parameters) (octets : List ℕ) (frames : ℕ) → 1 ≤ p.frame_octets → length octets ≡ frames * p.frame_octets → block_count p octets ≡ words_for p frames
words_are p octets frames some e =
    ap (λ n. div_ceil n (block_bits p.rate)) (length-bit_stream p octets ∙ ap (λ n. n * (span_bits p)) (frame_count-whole p octets frames some e))

-- the octets of the slots of whole frames
pub slots_are : (p : Parameters) (octets : List ℕ) (frames : ℕ) → 1 ≤ p.frame_octets → length octets ≡ frames * p.frame_octets → length (slots_of p octets) ≡ p.count_octets * slots_for p frames
unfolding slots_of octets_to
slots_are p octets frames some e =
    length-tabulate (p.count_octets * (period_count p octets * period_slots p)) (octet_at p (interleaved_channel p (sent_symbols p octets)))
    ∙ ap (λ w. p.count_octets * ((if w == 0 then 0 else w + flush_words p) * period_slots p)) (words_are p octets frames some e)
