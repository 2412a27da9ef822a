-- Octets that are taken from the input piece by piece and go through the stages of the sender.
use Rattle.std.proofs.Common.{◌≡◌, ◌≤◌, ◌<◌, ◌+◌, ◌++◌, ℕ, List, [], ◌∷◌, length, get_or, take, drop, ap, sym, ◌∙◌, refl, arith, append_assoc, length-append}
use Rattle.std.proofs.lemmas.List.{take-append-drop, take_at}
use Rattle.std.specs.declared.option.Option.{Option}
use Rattle.std.specs.Io.KnownBytes.{append_known}
use Rattle.hpe_base.specs.Parameters.{Parameters, IsValid}
use Rattle.hpe_base.specs.Frames.{bit_stream}
use Rattle.hpe_io.specs.Devices.{GrowsByFront}
use Rattle.hpe_io.specs.Intake.{IntakeState, HasCome}
use Rattle.hpe_send.specs.Chaining.{Chaining, HasTaken}
use Rattle.hpe_send.specs.Streaming.{bit_slots}
use Rattle.hpe_io.proofs.Fronts.{IsFront, grows-front}
use Rattle.hpe_send.proofs.Stepped.{next-front}
use Rattle.hpe_send.proofs.Worded.{bit_slots-front}
use Rattle.hpe_base.proofs.SentFrames.{stream-front}

-- the slots of fewer octets stand at the front
stream_slots-front : (p : Parameters) (octets more : List ℕ) → IsValid p → IsFront (bit_slots p (bit_stream p octets)) (bit_slots p (bit_stream p (octets ++ more)))
stream_slots-front p octets more valid = rw (stream-front p octets more valid.range.frame_low) (bit_slots-front p (bit_stream p octets) _ valid.range.repeat_low)

-- a fault at octet n of a piece
pub octets_cut : (p q : Parameters) (fed piece : List ℕ) (n : ℕ) (start new : Option (List ℕ)) → q ≡ p → n < length piece → IsValid p
    → GrowsByFront start new (bit_slots q (bit_stream q ((fed ++ take n piece) ++ get_or piece n 0 ∷ []))) → GrowsByFront start new (bit_slots p (bit_stream p (fed ++ piece)))
octets_cut p q fed piece n start new same h valid cut =
    let done : List ℕ = fed ++ take (n + 1) piece in
    let all : (fed ++ take (n + 1) piece) ++ drop (n + 1) piece ≡ fed ++ piece =
    append_assoc fed (take (n + 1) piece) (drop (n + 1) piece) ∙ ap (λ (l : List ℕ). fed ++ l) (take-append-drop (n + 1) piece) in
    let front : IsFront (bit_slots p (bit_stream p (fed ++ take (n + 1) piece))) (bit_slots p (bit_stream p (fed ++ piece))) =
    rw all at (stream_slots-front p done (drop (n + 1) piece) valid) in
    grows-front start new (bit_slots p (bit_stream p (fed ++ take (n + 1) piece))) (bit_slots p (bit_stream p (fed ++ piece))) front (rw (same, next-front fed piece n h) at cut)

-- what was written is a front of what is due
pub taken-grows : (c : Chaining) (octets : List ℕ) (start now : Option (List ℕ)) → HasTaken c octets start now
    → GrowsByFront start now (bit_slots c.coder.parameters (bit_stream c.coder.parameters octets))
taken-grows c octets start now h =
    let pending = h.pushed.coded.pending in
    let slots : List ℕ = bit_slots c.coder.parameters (bit_stream c.coder.parameters octets) in
    let all : slots ≡ pending.0 ++ c.coder.held = pending.2 in (
      length pending.0,
      omega (arith, ap (λ (l : List ℕ). length l) all, length-append pending.0 c.coder.held),
      pending.1 ∙ ap (append_known start) (sym (ap (take (length pending.0)) all ∙ take_at pending.0 c.coder.held (length pending.0) refl)),
    )

-- ---- a sender on its way

-- these octets came from the input, all within the limit, and went through the stages
pub record IsSending (p : Parameters) (limit : ℕ) (i : IntakeState) (c : Chaining) (left0 left written0 written : Option (List ℕ)) : Type 0 where
  pub octets : List ℕ
  pub come : HasCome i left0 left octets
  pub taken : HasTaken c octets written0 written
  pub same : c.coder.parameters ≡ p
  pub limits : i.limit ≡ limit
  pub within : i.taken ≤ limit
