-- What a sender did to its input and its output, and how its results are told apart.
use Rattle.std.specs.Prelude.{⊤, ℕ, ◌≡◌, ◌≤◌, ◌+◌, ◌*◌, List, length, Result, Ok, Err}
use Rattle.std.specs.Int.{div_ceil}
use Rattle.std.specs.declared.option.Option.{Option}
use Rattle.std.specs.Io.KnownBytes.{append_known}
use Rattle.hpe_base.specs.Parameters.{Parameters, block_bits}
use Rattle.hpe_base.specs.Frames.{frame_count}
use Rattle.hpe_base.specs.Slicer.{block_count}
use Rattle.hpe_base.specs.Slots.{slots_of}
use Rattle.hpe_io.specs.Devices.{ReadsAll, Rose}
use Rattle.hpe_io.specs.declared.intake.IntakeFault.{IntakeFault}
use Rattle.hpe_io.specs.declared.intake.IntakeFault.TheVariants as intake
use Rattle.hpe_send.specs.declared.sender.Sent.{Sent}
use Rattle.hpe_send.specs.declared.sender.SendFault.{SendFault}
use Rattle.hpe_send.specs.declared.sender.SendFault.TheVariants.{Read, Write, TooLong, Ragged}

-- these octets were read to the input's end, at most the limit, and the slots of their whole frames were written
pub record Sends (p : Parameters) (limit : ℕ) (left left' written written' : Option (List ℕ)) (octets : List ℕ) (sent : Sent) : Type 0 where
  pub reads : ReadsAll left left' octets
  pub within : length octets ≤ limit
  pub slots : written' ≡ append_known written (slots_of p octets)
  pub frames : sent.frames ≡ frame_count p octets
  pub words : sent.words ≡ block_count p octets

-- the counts of what was sent fit the limit and each other
pub record HasCounts (p : Parameters) (limit : ℕ) (sent : Sent) : Type 0 where
  pub frames : sent.frames * p.frame_octets ≤ limit
  pub words : sent.words ≡ div_ceil (sent.frames * (32 + 8 * p.frame_octets)) (block_bits p.rate)

-- what holds of the rest of a frame and of what was sent, where the input ended within a frame
abbrev pub IfRagged : Result Sent SendFault → (ℕ → Sent → Type 0) → Type 0
IfRagged (Ok sent) P = ⊤
IfRagged (Err Read) P = ⊤
IfRagged (Err Write) P = ⊤
IfRagged (Err TooLong) P = ⊤
IfRagged (Err (Ragged rest sent)) P = P rest sent

-- what holds of what was sent, where the input came to its end
abbrev pub IfSent : Result Sent SendFault → (Sent → Type 0) → Type 0
IfSent (Ok sent) P = P sent
IfSent (Err Read) P = ⊤
IfSent (Err Write) P = ⊤
IfSent (Err TooLong) P = ⊤
IfSent (Err (Ragged rest sent)) P = P sent

-- what holds where the input or the output was left before its end
abbrev pub IfCutOff : Result Sent SendFault → Type 0 → Type 0
IfCutOff (Ok sent) P = ⊤
IfCutOff (Err Read) P = P
IfCutOff (Err Write) P = P
IfCutOff (Err TooLong) P = P
IfCutOff (Err (Ragged rest sent)) P = ⊤

-- the input's count of faults rose where a read failed, and stays at each other answer
abbrev pub HasReadCause : ℕ → ℕ → Result Sent SendFault → Type 0
HasReadCause before now (Ok sent) = now ≡ before
HasReadCause before now (Err Read) = Rose before now
HasReadCause before now (Err Write) = now ≡ before
HasReadCause before now (Err TooLong) = now ≡ before
HasReadCause before now (Err (Ragged rest sent)) = now ≡ before

-- the output's count of faults rose where a write failed, and stays at each other answer
abbrev pub HasWriteCause : ℕ → ℕ → Result Sent SendFault → Type 0
HasWriteCause before now (Ok sent) = now ≡ before
HasWriteCause before now (Err Read) = now ≡ before
HasWriteCause before now (Err Write) = Rose before now
HasWriteCause before now (Err TooLong) = now ≡ before
HasWriteCause before now (Err (Ragged rest sent)) = now ≡ before

-- a fault of the intake, as the sender answers it
abbrev pub fault_of : IntakeFault → SendFault
fault_of intake.Read = Read
fault_of intake.TooLong = TooLong
