-- What is sent in memory.
use Rattle.std.proofs.Common.{◌≡◌, ◌≤◌, ◌+◌, ◌++◌, ℕ, List, length, take, arith, ap, subst, Some, Result, Err, length-append}
use Rattle.std.specs.declared.option.Option.{Option}
use Rattle.std.specs.Io.KnownBytes.{prepend_known}
use Rattle.hpe_io.specs.Devices.{Rose, GrowsByFront}
use Rattle.std.proofs.lemmas.List.{length-take}
use Rattle.hpe_base.specs.Parameters.{Parameters}
use Rattle.hpe_base.specs.Slots.{slots_of}
use Rattle.hpe_send.specs.declared.sender.Sent.{Sent}
use Rattle.hpe_send.specs.declared.sender.SendFault.{SendFault}
use Rattle.hpe_send.specs.declared.sender.SendFault.TheVariants.{Write}
use Rattle.hpe_send.specs.Sending.{HasWriteCause, IfCutOff}
use Rattle.hpe_io.proofs.FullSinks.{HasRoom, room_is_short}
use Rattle.hpe_io.specs.Memory.{Store}
use Rattle.hpe_base.proofs.SentSlots.{fewer_slots}

-- what was sent up to a failure
abbrev CutAt : Parameters → ℕ → Option (List ℕ) → Option (List ℕ) → Option (List ℕ) → Option (List ℕ) → Type 0
CutAt p limit left left' written written' =
    (read : List ℕ) × (left ≡ prepend_known read left') × (length read ≤ limit + 1) × GrowsByFront written written' (slots_of p (take limit read))

-- a sink with room for more than all slots is never full
pub never_full : (p : Parameters) (octets left : List ℕ) (limit slots : ℕ) (old new : Store) (result : Result Sent SendFault) → length (slots_of p octets) ≡ slots → HasRoom (slots + 1) old new
    → result ≡ Err Write → HasWriteCause old.faults new.faults result
    → IfCutOff result (CutAt p limit (Some octets) (Some left) (Some old.bytes) (Some new.bytes)) → ⊥
never_full p octets left limit slots old new result count sink failed cause part =
    let cut : CutAt p limit (Some octets) (Some left) (Some old.bytes) (Some new.bytes) =
    subst (λ (x : Result Sent SendFault). IfCutOff x (CutAt p limit (Some octets) (Some left) (Some old.bytes) (Some new.bytes))) failed part in
    let rose : Rose old.faults new.faults = subst (λ (x : Result Sent SendFault). HasWriteCause old.faults new.faults x) failed cause in
    let e : octets ≡ cut.0 ++ left = cc in
    let shorter : length (take limit cut.0) ≤ length octets = omega (arith, ap (λ (l : List ℕ). length l) e, length-append cut.0 left, length-take limit cut.0) in
    let due = room_is_short (slots_of p (take limit cut.0)) (slots + 1) old new sink rose cut.3 in
    omega (arith, fewer_slots p (take limit cut.0) octets shorter)
