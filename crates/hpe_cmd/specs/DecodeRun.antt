-- What `decode` did to its devices, by how it ended.
use Rattle.std.specs.Prelude.{if◌then◌else◌, ◌==◌, ◌≡◌, ◌<◌, ◌+◌, ◌%◌, ℕ, List, length, All, Option, Some, Result, Ok, Err}
use Rattle.std.specs.Io.KnownBytes.{append_known}
use Rattle.hpe_base.specs.Parameters.{Parameters, period_slots}
use Rattle.hpe_base.specs.ClearChannel.{clear}
use Rattle.hpe_base.specs.Counts.{counts_of}
use Rattle.hpe_base.specs.Decoded.{tally_of}
use Rattle.hpe_base.specs.MarkerSearch.{Offset, Short, Dark, At, offset_of}
use Rattle.hpe_base.specs.Slots.{slots_of}
use Rattle.hpe_io.specs.Devices.{TakesCount}
use Rattle.hpe_recv.specs.declared.receiver.Tally.{Tally}
use Rattle.hpe_recv.specs.declared.receiver.RecvFault.{RecvFault}
use Rattle.hpe_recv.specs.declared.receiver.RecvFault.TheVariants.{Read, Write, Report, TooLong as Long, NoMarker as Unmarked}
use Rattle.hpe_recv.specs.Receiving.{Receives, ReceivesPart, ReportsWords}
use Rattle.hpe_cmd.specs.declared.ending.Ending.{Ending}
use Rattle.hpe_cmd.specs.declared.ending.Ending.TheVariants as ending
use Rattle.hpe_cmd.specs.declared.ending.Status.{Status}
use Rattle.hpe_cmd.specs.declared.ending.Status.TheVariants.{Done, ReadFault, WriteFault, ReportFault, TooLong, WordsLost, NoMarker}
use Rattle.hpe_cmd.specs.Changes.{Change}
use Rattle.hpe_cmd.specs.FaultLines.{IsPut, read_line, write_line, limit_line}

-- ---- the status

-- the status after so many lost words
abbrev pub lost_status : ℕ → Status
lost_status lost = if lost == 0 then Done else WordsLost

-- the status by what the search found and how many words are lost
abbrev pub status_at : Offset → ℕ → Status
status_at Short lost = lost_status lost
status_at Dark lost = NoMarker
status_at (At offset best) lost = lost_status lost

-- how a stream ends the run: no marker, lost words, or all done
abbrev pub decode_status : Parameters → List ℕ → Status
decode_status p octets = status_at (offset_of p (counts_of p octets)) (tally_of p octets).lost

-- how a run ends after the receiver's answer
abbrev pub received : ℕ → Result Tally RecvFault → Ending
received limit (Ok tally) = if tally.lost == 0 then ending.Done else ending.WordsLost
received limit (Err Read) = ending.ReadFault
received limit (Err Write) = ending.WriteFault
received limit (Err Report) = ending.ReportFault
received limit (Err Long) = ending.TooLong limit
received limit (Err (Unmarked counts)) = ending.NoMarker

-- ---- the run

-- the octets of an input that was read to its end: the output grew by the frames that they decode to, the report by its
-- lines on them, and they settle the status
abbrev pub Decodes : Parameters → ℕ → Change → Change → Change → Status → Type 0
Decodes p limit input output report status =
    (octets : List ℕ)
    × Receives p limit input.old input.new output.old output.new report.old report.new octets
    × (status ≡ decode_status p octets)

-- where the input is dark slots for less than a period and then the slots of whole frames, the frames come back
abbrev pub ReturnsFrames : Parameters → Change → Change → Status → Type 0
ReturnsFrames p input output status =
    (octets : List ℕ) (d : ℕ)
    → All (λ octet. octet < 256) octets → length octets % p.frame_octets ≡ 0 → d < period_slots p
    → input.old ≡ Some (clear p d (slots_of p octets))
    → (status ≡ Done) × (output.new ≡ append_known output.old octets)

-- what a decoding of the whole input did
pub record Decoded (p : Parameters) (limit : ℕ) (input output report : Change) (status : Status) : Type 0 where
  pub decoded : Decodes p limit input output report status
  pub clear : ReturnsFrames p input output status

-- the output and the report grew by some front of what the octets settle, the report by whole lines on words, and then
-- by the fault line
pub record CutsDecoding (p : Parameters) (limit : ℕ) (input output report : Change) (line : List ℕ) : Type 0 where
  pub told : Option (List ℕ)
  pub part : ReceivesPart p limit input.old input.new output.old output.new report.old told
  pub lines : ReportsWords p limit input.old input.new report.old told
  pub put : IsPut report.faults_old report.faults_new told report.new line

-- `decode`, by how it ends
abbrev pub DecodeRun : Parameters → ℕ → Change → Change → Change → Status → Type 0
DecodeRun p limit input output report Done = Decoded p limit input output report Done
DecodeRun p limit input output report WordsLost = Decoded p limit input output report WordsLost
DecodeRun p limit input output report NoMarker = Decoded p limit input output report NoMarker
DecodeRun p limit input output report TooLong =
    TakesCount input.old input.new (limit + 1) × CutsDecoding p limit input output report (limit_line limit)
DecodeRun p limit input output report ReadFault = CutsDecoding p limit input output report read_line
DecodeRun p limit input output report WriteFault = CutsDecoding p limit input output report write_line
DecodeRun p limit input output report ReportFault =
    ReceivesPart p limit input.old input.new output.old output.new report.old report.new
DecodeRun p limit input output report _ = ⊥
