-- Why counts in memory were not received.
use Rattle.std.proofs.Common.{◌≡◌, ◌≤◌, ◌+◌, ◌∙◌, ◌++◌, ℕ, List, length, take, Some, Result, Err, arith, ap, subst, refl}
use Rattle.std.specs.Prelude.{IsErrOf}
use Rattle.hpe_base.specs.Parameters.{Parameters}
use Rattle.hpe_base.specs.Counts.{counts_of}
use Rattle.hpe_base.specs.Decoded.{decoded, report_of}
use Rattle.hpe_base.specs.MarkerSearch.{Dark, offset_of}
use Rattle.hpe_io.specs.Devices.{Rose, TakesCount}
use Rattle.hpe_io.specs.Memory.{Store}
use Rattle.hpe_recv.specs.Causes.{HasFaultCause}
use Rattle.hpe_recv.specs.Receiving.{IfCutOff, IfNoMarker, Receives, ReceivesPart}
use Rattle.hpe_recv.specs.declared.receiver.Tally.{Tally}
use Rattle.hpe_recv.specs.declared.receiver.RecvFault.{RecvFault}
use Rattle.hpe_recv.specs.declared.receiver.RecvFault.TheVariants as recv
use Rattle.hpe_uses.specs.Causes.{IsReceiveCause, most_octets}
use Rattle.hpe_uses.specs.declared.fault.UseFault.TheVariants.{Unreceived}
use Rattle.hpe_io.proofs.FullSinks.{HasRoom, room_is_short}
use Rattle.hpe_uses.proofs.TakenOctets.{taken_before, taken_count, taken_front, taken_to_end}

-- what stands where a call that received with a limit was cut off
abbrev PartAt : Parameters → ℕ → List ℕ → List ℕ → Store → Store → Store → Store → Type 0
PartAt p limit octets left f f' r r' =
    ReceivesPart p limit (Some octets) (Some left) (Some f.bytes) (Some f'.bytes) (Some r.bytes) (Some r'.bytes)

-- and where all octets are dark
abbrev DarkAt : Parameters → ℕ → List ℕ → List ℕ → Store → Store → Store → Store → ℕ → Type 0
DarkAt p limit octets left f f' r r' n =
    (taken : List ℕ)
    × Receives p limit (Some octets) (Some left) (Some f.bytes) (Some f'.bytes) (Some r.bytes) (Some r'.bytes) taken
    × (n ≡ length (counts_of p taken)) × (offset_of p (counts_of p taken) ≡ Dark) × (f' ≡ f)

-- what the call left, by its answer
pub record HasReceived (p : Parameters) (limit : ℕ) (octets left : List ℕ) (f f' r r' : Store) (result : Result Tally RecvFault) : Type 0 where
  pub cause : HasFaultCause 0 0 f.faults f'.faults r.faults r'.faults result
  pub cut : IfCutOff result (PartAt p limit octets left f f' r r')
  pub dark : IfNoMarker result (DarkAt p limit octets left f f' r r')
  pub long : IsErrOf result recv.TooLong → TakesCount (Some octets) (Some left) (limit + 1)

-- a sink has no room for more than what some front of the octets gives
front_short : (p : Parameters) (limit : ℕ) (octets left taken : List ℕ) (room : ℕ) (due : Parameters → List ℕ → List ℕ) → octets ≡ taken ++ left → room ≤ length (due p (take limit taken))
    → (n : ℕ) × (room ≤ length (due p (take n octets)))
front_short p limit octets left taken room due e short =
    let front = taken_front limit octets left taken e in
    (front.0, subst (λ (l : List ℕ). room ≤ length (due p l)) front.1 short)

-- what the call left shows the cause
cause_of : (p : Parameters) (octets left : List ℕ) (room : ℕ) (f f' r r' : Store) (e : RecvFault) → HasRoom room f f' → HasRoom room r r'
    → HasReceived p most_octets octets left f f' r r' (Err e) → IsReceiveCause p octets room (Unreceived e)
cause_of p octets left room f f' r r' recv.Read frames report h = let rose : Rose 0 0 = h.cause.0 in absurd (omega arith)
cause_of p octets left room f f' r r' recv.Write frames report h =
    let part : PartAt p most_octets octets left f f' r r' = h.cut in
    front_short p most_octets octets left part.octets room decoded (taken_before octets left part.octets part.lost)
    (room_is_short (decoded p (take most_octets part.octets)) room f f' frames h.cause.1 part.decodes)
cause_of p octets left room f f' r r' recv.Report frames report h =
    let part : PartAt p most_octets octets left f f' r r' = h.cut in
    front_short p most_octets octets left part.octets room report_of (taken_before octets left part.octets part.lost)
    (room_is_short (report_of p (take most_octets part.octets)) room r r' report h.cause.2 part.reports)
cause_of p octets left room f f' r r' recv.TooLong frames report h =
    let more : most_octets + 1 ≤ length octets = taken_count octets left (most_octets + 1) (h.long refl) in omega arith
cause_of p octets left room f f' r r' (recv.NoMarker n) frames report h =
    let d : DarkAt p most_octets octets left f f' r r' n = h.dark in
    let all : d.0 ≡ octets = taken_to_end octets left d.0 d.1.reads in (
      d.2 ∙ ap (λ (l : List ℕ). length (counts_of p l)) all,
      subst (λ (l : List ℕ). offset_of p (counts_of p l) ≡ Dark) all d.3,
    )

-- by the receiver's profile and its input
pub receive_cause : (q p : Parameters) (start octets left : List ℕ) (room : ℕ) (f f' r r' : Store) (e : RecvFault) → q ≡ p → start ≡ octets → HasRoom room f f' → HasRoom room r r'
    → HasReceived q most_octets start left f f' r r' (Err e) → IsReceiveCause p octets room (Unreceived e)
receive_cause q p start octets left room f f' r r' e same whole frames report h =
    subst (λ (l : List ℕ). IsReceiveCause p l room (Unreceived e)) whole
    (subst (λ (x : Parameters). IsReceiveCause x start room (Unreceived e)) same (cause_of q start left room f f' r r' e frames report h))
