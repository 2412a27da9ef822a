-- Whose count of faults rose in a call, by its answer.
use Rattle.std.specs.Prelude.{ℕ, ◌≡◌, Result, Ok, Err}
use Rattle.hpe_io.specs.Devices.{Rose}
use Rattle.hpe_io.specs.declared.intake.IntakeFault.{IntakeFault}
use Rattle.hpe_io.specs.declared.intake.IntakeFault.TheVariants as intake
use Rattle.hpe_recv.specs.declared.intake.Untaken.{Untaken}
use Rattle.hpe_recv.specs.declared.intake.Untaken.TheVariants as untaken
use Rattle.hpe_recv.specs.declared.outlet.Cut.{Cut}
use Rattle.hpe_recv.specs.declared.outlet.Cut.TheVariants as cut
use Rattle.hpe_recv.specs.declared.receiver.RecvFault.{RecvFault}
use Rattle.hpe_recv.specs.declared.receiver.RecvFault.TheVariants.{Read, Write, Report, TooLong, NoMarker}

-- a fault of the intake, as the cause that an input was left
abbrev pub cause_of_intake : IntakeFault → Untaken
cause_of_intake intake.Read = untaken.Read
cause_of_intake intake.TooLong = untaken.TooLong

-- a failure of a sink, as such a cause
abbrev pub cause_of_cut : Cut → Untaken
cause_of_cut cut.Frames = untaken.Frames
cause_of_cut cut.Report = untaken.Report

-- the count of the sink that failed, and no other
abbrev pub IsCutBy : ℕ → ℕ → ℕ → ℕ → Cut → Type 0
IsCutBy frames frames' report report' cut.Frames = Rose frames frames' × (report' ≡ report)
IsCutBy frames frames' report report' cut.Report = (frames' ≡ frames) × Rose report report'

-- where none failed, no count of the two sinks
abbrev pub HasCutCause : {T : Type 0} → ℕ → ℕ → ℕ → ℕ → Result T Cut → Type 0
HasCutCause frames frames' report report' (Ok _) = (frames' ≡ frames) × (report' ≡ report)
HasCutCause frames frames' report report' (Err e) = IsCutBy frames frames' report report' e

-- the count of the input where it failed, and where the limit was passed none
abbrev pub IsReadBy : ℕ → ℕ → Untaken → Type 0
IsReadBy input input' untaken.Read = Rose input input'
IsReadBy input input' untaken.TooLong = input' ≡ input
IsReadBy input input' untaken.Frames = ⊥
IsReadBy input input' untaken.Report = ⊥

-- of a call that reads alone
abbrev pub HasReadCause : {T : Type 0} → ℕ → ℕ → Result T Untaken → Type 0
HasReadCause input input' (Ok _) = input' ≡ input
HasReadCause input input' (Err e) = IsReadBy input input' e

-- the count of the device that failed, and no other
abbrev pub IsLeftBy : ℕ → ℕ → ℕ → ℕ → ℕ → ℕ → Untaken → Type 0
IsLeftBy input input' frames frames' report report' untaken.Read = Rose input input' × (frames' ≡ frames) × (report' ≡ report)
IsLeftBy input input' frames frames' report report' untaken.TooLong = (input' ≡ input) × (frames' ≡ frames) × (report' ≡ report)
IsLeftBy input input' frames frames' report report' untaken.Frames = (input' ≡ input) × Rose frames frames' × (report' ≡ report)
IsLeftBy input input' frames frames' report report' untaken.Report = (input' ≡ input) × (frames' ≡ frames) × Rose report report'

-- of a call that reads and writes
abbrev pub HasUntakenCause : {T : Type 0} → ℕ → ℕ → ℕ → ℕ → ℕ → ℕ → Result T Untaken → Type 0
HasUntakenCause input input' frames frames' report report' (Ok _) = (input' ≡ input) × (frames' ≡ frames) × (report' ≡ report)
HasUntakenCause input input' frames frames' report report' (Err e) = IsLeftBy input input' frames frames' report report' e

-- after Read the input's count rose and no other, after Write that of the frames' sink, after Report that of the report,
-- and after each other answer none
abbrev pub HasFaultCause : {T : Type 0} → ℕ → ℕ → ℕ → ℕ → ℕ → ℕ → Result T RecvFault → Type 0
HasFaultCause input input' frames frames' report report' (Ok _) = (input' ≡ input) × (frames' ≡ frames) × (report' ≡ report)
HasFaultCause input input' frames frames' report report' (Err Read) = Rose input input' × (frames' ≡ frames) × (report' ≡ report)
HasFaultCause input input' frames frames' report report' (Err Write) = (input' ≡ input) × Rose frames frames' × (report' ≡ report)
HasFaultCause input input' frames frames' report report' (Err Report) = (input' ≡ input) × (frames' ≡ frames) × Rose report report'
HasFaultCause input input' frames frames' report report' (Err TooLong) = (input' ≡ input) × (frames' ≡ frames) × (report' ≡ report)
HasFaultCause input input' frames frames' report report' (Err (NoMarker _)) = (input' ≡ input) × (frames' ≡ frames) × (report' ≡ report)
