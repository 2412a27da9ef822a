-- What a sender did to its input and its output, wherever it leaves them.
use Rattle.std.proofs.Common.{◌≡◌, ◌≤◌, ◌+◌, ◌++◌, ◌∙◌, ℕ, Bool, List, length, take, ap, sym, refl, subst, arith, Err}
use Rattle.std.specs.Prelude.{IsErrOf}
use Rattle.std.proofs.lemmas.List.{take_all}
use Rattle.std.specs.declared.option.Option.{Option}
use Rattle.std.specs.Io.KnownBytes.{prepend_known}
use Rattle.hpe_base.specs.Frames.{bit_stream}
use Rattle.hpe_base.specs.Parameters.{Parameters}
use Rattle.hpe_base.specs.Slots.{slots_of}
use Rattle.hpe_io.specs.Devices.{GrowsByFront}
use Rattle.hpe_io.specs.Intake.{IntakeState, HasCome, HasIntakeCause, HasStopped}
use Rattle.hpe_io.specs.declared.intake.IntakeFault.{IntakeFault}
use Rattle.hpe_io.specs.declared.intake.IntakeFault.TheVariants as intake
use Rattle.hpe_send.specs.Chaining.{Chaining}
use Rattle.hpe_send.specs.Sending.{fault_of, HasReadCause, HasWriteCause, IfCutOff, IfRagged, IfSent}
use Rattle.hpe_send.specs.Streaming.{bit_slots}
use Rattle.hpe_send.specs.declared.sender.Sent.{Sent}
use Rattle.hpe_send.specs.declared.sender.SendFault.TheVariants.{TooLong}
use Rattle.hpe_send.proofs.Ended.{cut_slots}
use Rattle.hpe_send.proofs.Taken.{IsSending, taken-grows}

-- ---- faults of the intake

-- what holds wherever the input or the output was left
pub cut_of : {P : Type 0} (e : IntakeFault) → P → IfCutOff (Err (fault_of e)) P
cut_of intake.Read h = h
cut_of intake.TooLong h = h

-- a fault of the intake comes with nothing that was sent
pub no_sent : (P : Sent → Type 0) (e : IntakeFault) → IfSent (Err (fault_of e)) P
no_sent P intake.Read = tt
no_sent P intake.TooLong = tt

-- nor with the rest of a frame
pub no_rest : (P : ℕ → Sent → Type 0) (e : IntakeFault) → IfRagged (Err (fault_of e)) P
no_rest P intake.Read = tt
no_rest P intake.TooLong = tt

-- the input's count of faults behind takes that didn't fail
pub read_of : (before mid now : ℕ) (e : IntakeFault) → mid ≡ before → HasIntakeCause {T = Bool} mid now (Err e) → HasReadCause before now (Err (fault_of e))
read_of before mid now intake.Read same h = rw (← same) h
read_of before mid now intake.TooLong same h = h ∙ same

-- a fault of the intake leaves the output's count of faults
pub write_of : (before now : ℕ) (e : IntakeFault) → now ≡ before → HasWriteCause before now (Err (fault_of e))
write_of before now intake.Read h = h
write_of before now intake.TooLong h = h

-- an input that is too long is so for the intake
pub long_of : (e : IntakeFault) → IsErrOf {T = Sent} (Err (fault_of e)) TooLong → IsErrOf {T = Bool} (Err e) intake.TooLong
long_of intake.Read is = absurd cc
long_of intake.TooLong is = refl

-- ---- where the input or the output was left

-- some octets were taken, and of the slots of those within the limit some front was written
abbrev pub CutOff : Parameters → ℕ → Option (List ℕ) → Option (List ℕ) → Option (List ℕ) → Option (List ℕ) → Type 0
CutOff p limit left left' written written' =
    (octets : List ℕ) × (left ≡ prepend_known octets left') × (length octets ≤ limit + 1) × GrowsByFront written written' (slots_of p (take limit octets))

-- all octets that came are within the limit
pub cut_within : (p : Parameters) (limit : ℕ) (i : IntakeState) (left left' written written' : Option (List ℕ)) (octets : List ℕ)
    → HasCome i left left' octets → i.taken ≤ limit → GrowsByFront written written' (slots_of p octets) → CutOff p limit left left' written written'
cut_within p limit i left left' written written' octets come within g =
    let count : length octets ≡ i.taken = come.count in
    let fits : length octets ≤ limit = omega arith in
    (octets, come.lost, omega arith, subst (λ l. GrowsByFront written written' (slots_of p l)) (sym (take_all limit octets fits)) g)

module _ (p : Parameters) (limit : ℕ) (i i' : IntakeState) (c : Chaining) (left0 left left' written0 written : Option (List ℕ))
    (s : IsSending p limit i c left0 left written0 written) where
  -- the input failed, or has more octets
  pub cut_stopped : i'.limit ≡ i.limit → i'.taken ≤ i.limit + 1 → HasStopped i' left0 left' s.octets → CutOff p limit left0 left' written0 written
  cut_stopped same most h =
      let count : length h.all ≡ i'.taken = h.come.count in
      let limits : i.limit ≡ limit = s.limits in
      let within : take limit h.all ≡ s.octets = ap (λ k. take k h.all) (sym (same ∙ limits)) ∙ h.within in (
        h.all,
        h.come.lost,
        omega arith,
        subst (λ l. GrowsByFront written0 written (slots_of p l)) (sym within)
            (cut_slots p c.coder.parameters s.octets written0 written s.same s.taken.pushed.coded.valid (taken-grows c s.octets written0 written s.taken)),
      )

  -- the output failed within the piece that came last
  pub cut_piece : (written' : Option (List ℕ)) (piece : List ℕ) → HasCome i' left0 left' (s.octets ++ i'.piece) → piece ≡ i'.piece → i'.taken ≤ i.limit
      → GrowsByFront written0 written' (bit_slots c.coder.parameters (bit_stream c.coder.parameters (s.octets ++ piece))) → CutOff p limit left0 left' written0 written'
  cut_piece written' piece come is_piece within g =
      let limits : i.limit ≡ limit = s.limits in
      cut_within p limit i' left0 left' written0 written' (s.octets ++ i'.piece) come (omega arith)
      (cut_slots p c.coder.parameters (s.octets ++ i'.piece) written0 written' s.same s.taken.pushed.coded.valid (rw is_piece at g))
