-- The line on what was sent is that of the octets that were read.
use Rattle.std.proofs.Common.{◌≡◌, ◌+◌, ◌*◌, ◌∙◌, ◌==◌, ℕ, List, length, Bool, true, false, refl, arith, if◌then◌else◌}
use Rattle.hpe_base.specs.Parameters.{Parameters, period_slots}
use Rattle.hpe_base.specs.Frames.{frame_count}
use Rattle.hpe_base.specs.Slicer.{block_count}
use Rattle.hpe_base.specs.Slots.{slots_to, slot_at, period_count, flush_words, sent_symbols}
use Rattle.hpe_base.specs.ChannelInterleaver.{interleaved_channel}
use Rattle.hpe_base.proofs.Tabulated.{length-tabulate}
use Rattle.hpe_cmd.specs.EncodeRun.{sent_line, sent_slots, encode_line}

none : (n : ℕ) → 0 * n ≡ 0
none n = omega arith

times : (b : Bool) (words period : ℕ) → (if b then 0 else words) * period ≡ (if b then 0 else words * period)
times true words period = none period
times false words period = refl

-- the slots that carry the frames in the octets are as many as are counted
slots_are : (p : Parameters) (octets : List ℕ)
    → length (slots_to p (period_count p octets) (sent_symbols p octets)) ≡ sent_slots p (block_count p octets)
unfolding slots_to
slots_are p octets =
    length-tabulate (period_count p octets * period_slots p) (slot_at p (interleaved_channel p (sent_symbols p octets)))
    ∙ times (block_count p octets == 0) (block_count p octets + flush_words p) (period_slots p)

pub line_is : (p : Parameters) (octets : List ℕ) (frames words : ℕ)
    → frames ≡ frame_count p octets → words ≡ block_count p octets
    → sent_line frames words (sent_slots p words) ≡ encode_line p octets
line_is p octets frames words f w = rw (f, w, slots_are p octets) refl
