-- Why the examples sent or received nothing.
use Rattle.std.specs.Prelude.{⊤, ◌≡◌, ◌≤◌, ◌<◌, ◌%◌, ◌^◌, ℕ, List, length, take}
use Rattle.hpe_base.specs.Parameters.{Parameters}
use Rattle.hpe_base.specs.Frames.{frame_count}
use Rattle.hpe_base.specs.Slicer.{block_count}
use Rattle.hpe_base.specs.Slots.{slots_of}
use Rattle.hpe_base.specs.Counts.{counts_of}
use Rattle.hpe_base.specs.Decoded.{decoded, report_of}
use Rattle.hpe_base.specs.MarkerSearch.{Dark, offset_of}
use Rattle.hpe_send.specs.declared.sender.SendFault.TheVariants as send
use Rattle.hpe_recv.specs.declared.receiver.RecvFault.TheVariants as recv
use Rattle.hpe_uses.specs.declared.fault.UseFault.{UseFault}
use Rattle.hpe_uses.specs.declared.fault.UseFault.TheVariants.{NoMemory, Unreceived, Unsent}

-- the most octets of frames or of counts that are taken
abbrev pub most_octets : ℕ
most_octets = 2 ^ 40

-- why frames were not sent: there is no room for more than their slots, they are too many, or the last isn't whole
abbrev pub IsSendCause : Parameters → List ℕ → ℕ → UseFault → Type 0
IsSendCause p frames room NoMemory = ⊤
IsSendCause p frames room (Unsent send.Read) = ⊥
IsSendCause p frames room (Unsent send.Write) = room ≤ length (slots_of p frames)
IsSendCause p frames room (Unsent send.TooLong) = most_octets < length frames
IsSendCause p frames room (Unsent (send.Ragged rest sent)) =
    (0 < rest)
    × (rest ≡ length frames % p.frame_octets)
    × (sent.frames ≡ frame_count p frames)
    × (sent.words ≡ block_count p frames)
IsSendCause p frames room (Unreceived fault) = ⊥

-- why counts were not received: there is no room for more than what some front of them gives, they are too many, or
-- they are dark
abbrev pub IsReceiveCause : Parameters → List ℕ → ℕ → UseFault → Type 0
IsReceiveCause p counts room NoMemory = ⊤
IsReceiveCause p counts room (Unsent fault) = ⊥
IsReceiveCause p counts room (Unreceived recv.Read) = ⊥
IsReceiveCause p counts room (Unreceived recv.Write) = (n : ℕ) × (room ≤ length (decoded p (take n counts)))
IsReceiveCause p counts room (Unreceived recv.Report) = (n : ℕ) × (room ≤ length (report_of p (take n counts)))
IsReceiveCause p counts room (Unreceived recv.TooLong) = most_octets < length counts
IsReceiveCause p counts room (Unreceived (recv.NoMarker n)) =
    (n ≡ length (counts_of p counts)) × (offset_of p (counts_of p counts) ≡ Dark)
