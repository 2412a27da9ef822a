-- What is received in memory.
use Rattle.std.proofs.Common.{◌≡◌, ◌≤◌, ◌<◌, ◌+◌, ◌∙◌, ◌++◌, ℕ, List, length, take, arith, ap, sym, subst, Some, length-append, Result, Err}
use Rattle.std.specs.declared.option.Option.{Option}
use Rattle.std.proofs.lemmas.List.{take_all}
use Rattle.std.proofs.Math.Seq.{take-append_seam}
use Rattle.hpe_base.specs.Parameters.{Parameters}
use Rattle.hpe_base.specs.Decoded.{decoded, report_of}
use Rattle.hpe_io.specs.Devices.{GrowsByFront}
use Rattle.hpe_io.specs.Memory.{Store}
use Rattle.hpe_io.proofs.FullSinks.{HasRoom, room_is_short}
use Rattle.hpe_recv.specs.declared.receiver.Tally.{Tally}
use Rattle.hpe_recv.specs.declared.receiver.RecvFault.{RecvFault}
use Rattle.hpe_recv.specs.declared.receiver.RecvFault.TheVariants.{Write, Report}
use Rattle.hpe_recv.specs.Causes.{HasFaultCause}
use Rattle.hpe_recv.specs.Receiving.{IfCutOff, ReceivesPart}

-- what was taken within the limit is a front of what was left
front_of : (limit : ℕ) (left left' octets : List ℕ) → length left ≤ limit → left ≡ octets ++ left' → take limit octets ≡ take (length octets) left
front_of limit left left' octets fits e =
    let size : length left ≡ length octets + length left' = ap (λ (l : List ℕ). length l) e ∙ length-append octets left' in
    take_all limit octets (omega arith) ∙ sym (ap (λ (l : List ℕ). take (length octets) l) e ∙ take-append_seam octets left')

-- a report that was cut off is a front of that on a front of the octets
pub received_front : (p : Parameters) (limit : ℕ) (left left' : List ℕ) (frames frames' report report' : Option (List ℕ)) (result : Result Tally RecvFault) → length left ≤ limit
    → result ≡ Err Report → IfCutOff result (ReceivesPart p limit (Some left) (Some left') frames frames' report report') → (n : ℕ) × GrowsByFront report report' (report_of p (take n left))
received_front p limit left left' frames frames' report report' result fits failed cut =
    let h : ReceivesPart p limit (Some left) (Some left') frames frames' report report' =
    subst (λ (x : Result Tally RecvFault). IfCutOff x (ReceivesPart p limit (Some left) (Some left') frames frames' report report')) failed cut in
    let l : Some left ≡ Some (h.octets ++ left') = h.lost in
    let e : left ≡ h.octets ++ left' = cc in
    (length h.octets, subst (λ (x : List ℕ). GrowsByFront report report' (report_of p x)) (front_of limit left left' h.octets fits e) h.reports)

-- a sink with room for more than all that is ever delivered is never full
pub never_full : (p : Parameters) (limit : ℕ) (left left' : List ℕ) (old new : Store) (report report' : Option (List ℕ)) (told told' : ℕ) (result : Result Tally RecvFault) → length left ≤ limit
    → ((n : ℕ) → length (decoded p (take n left)) < old.room) → HasRoom old.room old new
    → result ≡ Err Write → HasFaultCause 0 0 old.faults new.faults told told' result
    → IfCutOff result (ReceivesPart p limit (Some left) (Some left') (Some old.bytes) (Some new.bytes) report report') → ⊥
never_full p limit left left' old new report report' told told' result fits room sink failed cause cut =
    let h : ReceivesPart p limit (Some left) (Some left') (Some old.bytes) (Some new.bytes) report report' =
    subst (λ (x : Result Tally RecvFault). IfCutOff x (ReceivesPart p limit (Some left) (Some left') (Some old.bytes) (Some new.bytes) report report')) failed cut in
    let risen : HasFaultCause {T = Tally} 0 0 old.faults new.faults told told' (Err Write) = subst (λ (x : Result Tally RecvFault). HasFaultCause 0 0 old.faults new.faults told told' x) failed cause in
    let l : Some left ≡ Some (h.octets ++ left') = h.lost in
    let e : left ≡ h.octets ++ left' = cc in
    let due : length (decoded p (take limit h.octets)) < old.room =
    subst (λ (x : List ℕ). length (decoded p x) < old.room) (sym (front_of limit left left' h.octets fits e)) (room (length h.octets)) in
    omega (arith, room_is_short (decoded p (take limit h.octets)) old.room old new sink risen.1 h.decodes)
