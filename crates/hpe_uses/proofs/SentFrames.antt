-- Why frames in memory were not sent.
use Rattle.std.proofs.Common.{◌≡◌, ◌≤◌, ◌<◌, ◌+◌, ◌%◌, ◌∙◌, ◌++◌, ℕ, List, length, take, Some, Result, Err, arith, ap, subst, refl, length-append}
use Rattle.std.specs.Prelude.{IsErrOf}
use Rattle.std.specs.Io.KnownBytes.{prepend_known}
use Rattle.std.proofs.lemmas.List.{length-take}
use Rattle.hpe_base.specs.Frames.{frame_count}
use Rattle.hpe_base.specs.Parameters.{Parameters}
use Rattle.hpe_base.specs.Slicer.{block_count}
use Rattle.hpe_base.specs.Slots.{slots_of}
use Rattle.hpe_base.proofs.SentSlots.{fewer_slots}
use Rattle.hpe_io.specs.Devices.{GrowsByFront, Rose, TakesCount}
use Rattle.hpe_io.specs.Memory.{Store}
use Rattle.hpe_send.specs.Sending.{HasReadCause, HasWriteCause, IfCutOff, IfRagged, Sends}
use Rattle.hpe_send.specs.declared.sender.Sent.{Sent}
use Rattle.hpe_send.specs.declared.sender.SendFault.{SendFault}
use Rattle.hpe_send.specs.declared.sender.SendFault.TheVariants as send
use Rattle.hpe_uses.specs.Causes.{IsSendCause, most_octets}
use Rattle.hpe_uses.specs.declared.fault.UseFault.TheVariants.{Unsent}
use Rattle.hpe_io.proofs.FullSinks.{HasRoom, room_is_short}
use Rattle.hpe_uses.proofs.TakenOctets.{taken_before, taken_count, taken_to_end}

-- what was sent up to a failure
abbrev SentPart : Parameters → ℕ → List ℕ → List ℕ → Store → Store → Type 0
SentPart p limit octets left old new =
    (taken : List ℕ) × (Some octets ≡ prepend_known taken (Some left)) × (length taken ≤ limit + 1)
    × GrowsByFront (Some old.bytes) (Some new.bytes) (slots_of p (take limit taken))

-- all whole frames were sent, and a rest was not
abbrev SentWhole : Parameters → ℕ → List ℕ → List ℕ → Store → Store → ℕ → Sent → Type 0
SentWhole p limit octets left old new rest sent =
    (taken : List ℕ) × Sends p limit (Some octets) (Some left) (Some old.bytes) (Some new.bytes) taken sent
    × (rest ≡ length taken % p.frame_octets) × (0 < rest)

-- what the call left, by its answer
pub record HasSent (p : Parameters) (limit : ℕ) (octets left : List ℕ) (old new : Store) (result : Result Sent SendFault) : Type 0 where
  pub read : HasReadCause 0 0 result
  pub write : HasWriteCause old.faults new.faults result
  pub cut : IfCutOff result (SentPart p limit octets left old new)
  pub ragged : IfRagged result (SentWhole p limit octets left old new)
  pub long : IsErrOf result send.TooLong → TakesCount (Some octets) (Some left) (limit + 1)

-- the sink was too small
write_cause : (p : Parameters) (limit : ℕ) (octets left : List ℕ) (room : ℕ) (old new : Store) → SentPart p limit octets left old new → HasRoom room old new → Rose old.faults new.faults
    → room ≤ length (slots_of p octets)
write_cause p limit octets left room old new cut sink rose =
    let front : List ℕ = take limit cut.0 in
    let e : octets ≡ cut.0 ++ left = taken_before octets left cut.0 cut.1 in
    let shorter : length front ≤ length octets = omega (arith, ap (λ (l : List ℕ). length l) e, length-append cut.0 left, length-take limit cut.0) in
    let due : room ≤ length (slots_of p front) = room_is_short (slots_of p front) room old new sink rose cut.3 in
    omega (arith, fewer_slots p front octets shorter)

-- what the call left shows the cause
cause_of : (p : Parameters) (octets left : List ℕ) (room : ℕ) (old new : Store) (e : SendFault) → HasRoom room old new → HasSent p most_octets octets left old new (Err e)
    → IsSendCause p octets room (Unsent e)
cause_of p octets left room old new send.Read sink h = let rose : Rose 0 0 = h.read in absurd (omega arith)
cause_of p octets left room old new send.Write sink h = write_cause p most_octets octets left room old new h.cut sink h.write
cause_of p octets left room old new send.TooLong sink h =
    let more : most_octets + 1 ≤ length octets = taken_count octets left (most_octets + 1) (h.long refl) in omega arith
cause_of p octets left room old new (send.Ragged rest sent) sink h =
    let r : SentWhole p most_octets octets left old new rest sent = h.ragged in
    let all : r.0 ≡ octets = taken_to_end octets left r.0 r.1.reads in (
      r.3,
      r.2 ∙ ap (λ (l : List ℕ). length l % p.frame_octets) all,
      r.1.frames ∙ ap (λ (l : List ℕ). frame_count p l) all,
      r.1.words ∙ ap (λ (l : List ℕ). block_count p l) all,
    )

-- by the sender's profile and its input
pub send_cause : (q p : Parameters) (start octets left : List ℕ) (room : ℕ) (old new : Store) (e : SendFault) → q ≡ p → start ≡ octets → HasRoom room old new
    → HasSent q most_octets start left old new (Err e) → IsSendCause p octets room (Unsent e)
send_cause q p start octets left room old new e same whole sink h =
    subst (λ (l : List ℕ). IsSendCause p l room (Unsent e)) whole
    (subst (λ (x : Parameters). IsSendCause x start room (Unsent e)) same (cause_of q start left room old new e sink h))
