-- What a sender has sent when it ends.
use Rattle.std.proofs.Common.{◌≡◌, ◌≤◌, ◌+◌, ◌-◌, ◌*◌, ◌/◌, ◌%◌, ◌==◌, ℕ, List, length, ap, sym, ◌∙◌, refl, arith, if◌then◌else◌}
use Rattle.std.specs.Int.{div_ceil}
use Rattle.std.specs.declared.option.Option.{Option}
use Rattle.std.specs.Io.KnownBytes.{append_known, IsAtEnd}
use Rattle.std.proofs.lemmas.Nat.{div-add-mod'}
use Rattle.hpe_base.specs.Lists.{joined}
use Rattle.hpe_base.specs.Parameters.{Parameters, IsValid, block_bits}
use Rattle.hpe_base.specs.Frames.{bit_stream, frame_count}
use Rattle.hpe_base.specs.Slicer.{block_count}
use Rattle.hpe_base.specs.Codeword.{word_symbols}
use Rattle.hpe_base.specs.Slots.{slots_of, octets_to, flush_words}
use Rattle.hpe_base.proofs.Shapes.{length-bit_stream, length-joined-word_symbols}
use Rattle.hpe_io.specs.Devices.{GrowsByFront, ReadsAll}
use Rattle.hpe_io.specs.Intake.{IntakeState, HasCome}
use Rattle.hpe_send.specs.Chaining.{Chaining}
use Rattle.hpe_send.specs.Sending.{Sends, HasCounts}
use Rattle.hpe_send.specs.Streaming.{word_count, words_of, bit_slots}
use Rattle.hpe_send.specs.declared.sender.Sent.{Sent}
use Rattle.hpe_send.proofs.Chained.{slots_all-front}
use Rattle.hpe_io.proofs.Taking.{come_all}
use Rattle.hpe_send.proofs.Taken.{IsSending}
use Rattle.hpe_io.proofs.Fronts.{IsFront, front-front, grows-front}
use Rattle.hpe_send.proofs.Slotted.{slots_front}
use Rattle.hpe_base.proofs.SentFrames.{words-split}

ceil-ge : (n k : ℕ) → n / k ≤ div_ceil n k
ceil-ge n k = omega arith

-- the slots of the whole blocks stand at the front of all
all_slots-front : (p : Parameters) (octets : List ℕ) → IsValid p → IsFront (bit_slots p (bit_stream p octets)) (slots_of p octets)
unfolding words_of
all_slots-front p octets valid =
    let bits : List ℕ = bit_stream p octets in
    let n : ℕ = word_count p bits in
    let m : ℕ = block_count p octets in
    let le : n ≤ m = ceil-ge (length bits) (block_bits p.rate) in
    let rest : List ℕ = joined (m - n) (λ i. word_symbols p bits (n + i)) in
    let blocks : IsFront (octets_to p n (joined n (word_symbols p bits))) (octets_to p m (joined m (word_symbols p bits))) =
    rw (words-split p bits n m le) (slots_front p (joined n (word_symbols p bits)) rest n m valid.range.repeat_low (length-joined-word_symbols p bits n) le) in
    front-front _ _ _ blocks (slots_all-front p octets (if m == 0 then 0 else flush_words p) m refl refl valid.range.repeat_low)

-- what was written is some front of all slots
pub cut_slots : (p q : Parameters) (octets : List ℕ) (start now : Option (List ℕ)) → q ≡ p → IsValid q → GrowsByFront start now (bit_slots q (bit_stream q octets))
    → GrowsByFront start now (slots_of p octets)
cut_slots p q octets start now same valid cut = grows-front start now _ _ (all_slots-front p octets (rw same at valid)) (rw same at cut)

-- the codewords of so many frames
words_are : (p : Parameters) (octets : List ℕ) (frames words : ℕ) → frames ≡ frame_count p octets → words ≡ div_ceil (frames * (32 + 8 * p.frame_octets)) (block_bits p.rate)
    → words ≡ block_count p octets
words_are p octets frames words f w =
    w ∙ ap (λ n. div_ceil n (block_bits p.rate)) (ap (λ n. n * (32 + 8 * p.frame_octets)) f ∙ sym (length-bit_stream p octets))

-- the counts of what was sent
pub counts_are : (p q : Parameters) (limit count : ℕ) (sent : Sent) → q ≡ p → count ≤ limit → sent.frames ≡ count / q.frame_octets
    → sent.words ≡ div_ceil (sent.frames * (32 + 8 * q.frame_octets)) (block_bits q.rate) → HasCounts p limit sent
counts_are p q limit count sent same within f w =
    let whole : count / p.frame_octets * p.frame_octets + count % p.frame_octets ≡ count = div-add-mod' count p.frame_octets in
    let frames : sent.frames ≡ count / p.frame_octets = rw same at f in
    let octets : sent.frames * p.frame_octets ≡ count / p.frame_octets * p.frame_octets = ap (λ n. n * p.frame_octets) frames in
    record { frames = omega arith; words = rw same at w }

-- what an input that came to its end makes
pub record HasEnded (p : Parameters) (limit : ℕ) (c : Chaining) (left left' : Option (List ℕ)) (octets : List ℕ) (sent : Sent) : Type 0 where
  pub reads : ReadsAll left left' octets
  pub within : length octets ≤ limit
  pub frames : sent.frames ≡ frame_count p octets
  pub words : sent.words ≡ block_count c.coder.parameters octets
  pub same : c.coder.parameters ≡ p

module _ (p : Parameters) (limit : ℕ) (i i' : IntakeState) (c : Chaining) (left0 left left' written0 written : Option (List ℕ))
    (s : IsSending p limit i c left0 left written0 written) (count : ℕ) (sent : Sent) where
  pub has_ended : HasCome i' left0 left' s.octets × IsAtEnd left' → i'.taken ≤ i.limit → count ≡ i'.taken → sent.frames ≡ count / c.coder.parameters.frame_octets
      → sent.words ≡ div_ceil (sent.frames * (32 + 8 * c.coder.parameters.frame_octets)) (block_bits c.coder.parameters.rate) → HasEnded p limit c left0 left' s.octets sent
  has_ended end within taken frames words =
      let long : length s.octets ≡ i'.taken = end.0.count in
      let limits : i.limit ≡ limit = s.limits in
      let all : sent.frames ≡ frame_count p s.octets = (rw s.same at frames) ∙ ap (λ n. n / p.frame_octets) (taken ∙ sym long) in
      record {
        reads = come_all i' left0 left' s.octets end.0 end.1;
        within = omega arith;
        frames = all;
        words = rw (← s.same) at (words_are p s.octets sent.frames sent.words all (rw s.same at words));
        same = s.same;
      }

-- and what is written of it
pub sends : (p : Parameters) (limit : ℕ) (c : Chaining) (left left' written written' : Option (List ℕ)) (octets : List ℕ) (sent : Sent)
    → HasEnded p limit c left left' octets sent → written' ≡ append_known written (slots_of c.coder.parameters octets) → Sends p limit left left' written written' octets sent
sends p limit c left left' written written' octets sent h slots = record {
  reads = h.reads;
  within = h.within;
  slots = rw h.same at slots;
  frames = h.frames;
  words = rw h.same at h.words;
}
