-- What `encode` did to its devices, by how it ended, and its line on the report.
use Rattle.std.specs.Prelude.{if◌then◌else◌, ◌==◌, ◌+◌, ◌*◌, ◌%◌, ◌≡◌, ◌≤◌, ◌<◌, ◌++◌, ℕ, List, length, take, codes, decimal}
use Rattle.std.specs.Io.KnownBytes.{append_known, prepend_known}
use Rattle.hpe_base.specs.Parameters.{Parameters, period_slots}
use Rattle.hpe_base.specs.Frames.{frame_count}
use Rattle.hpe_base.specs.Slicer.{block_count}
use Rattle.hpe_base.specs.Slots.{slots_of, flush_words, slots_to, period_count, sent_symbols}
use Rattle.hpe_io.specs.Devices.{ReadsAll, TakesCount}
use Rattle.hpe_send.specs.declared.sender.SendFault.{SendFault}
use Rattle.hpe_send.specs.declared.sender.SendFault.TheVariants.{Read, Write, TooLong as Long, Ragged as Rest}
use Rattle.hpe_cmd.specs.declared.ending.Ending.{Ending}
use Rattle.hpe_cmd.specs.declared.ending.Ending.TheVariants as ending
use Rattle.hpe_cmd.specs.declared.ending.Status.{Status}
use Rattle.hpe_cmd.specs.declared.ending.Status.TheVariants.{Done, ReadFault, WriteFault, ReportFault, TooLong, Ragged}
use Rattle.hpe_cmd.specs.Changes.{Change, Fails, GrowsIn, IsTold, Serves}
use Rattle.hpe_cmd.specs.FaultLines.{read_line, write_line, limit_line, ragged_line}

-- ---- the line

-- the line on so many frames, codewords and slots
unfoldable pub sent_line : ℕ → ℕ → ℕ → List ℕ
sent_line frames words slots =
    codes "frames " ++ decimal frames
    ++ codes " words " ++ decimal words
    ++ codes " slots " ++ decimal slots
    ++ codes "\n"

-- the slots of so many codewords: a period for each, and for each that flushes the channel interleaver
abbrev pub sent_slots : Parameters → ℕ → ℕ
sent_slots p words = if words == 0 then 0 else (words + flush_words p) * period_slots p

-- the line on the frames in the octets
abbrev pub encode_line : Parameters → List ℕ → List ℕ
encode_line p octets =
    sent_line (frame_count p octets) (block_count p octets)
    (length (slots_to p (period_count p octets) (sent_symbols p octets)))

-- a line that is no fault line was put, or the report failed in it
abbrev pub Reports : Change → List ℕ → Status → Type 0
Reports report line Done = (report.new ≡ append_known report.old line) × Serves report
Reports report line ReportFault = Fails report × GrowsIn report line
Reports report line _ = ⊥

-- ---- the run

-- these octets were read to the input's end, at most the limit, and the slots of their whole frames were written
pub record Encodes (p : Parameters) (limit : ℕ) (input output : Change) (octets : List ℕ) : Type 0 where
  pub reads : ReadsAll input.old input.new octets
  pub within : length octets ≤ limit
  pub slots : output.new ≡ append_known output.old (slots_of p octets)

-- octets were taken, at most one more than the limit, and some front was written of the slots of the whole frames in
-- the first of them, as many as the limit
pub record CutsOff (p : Parameters) (limit : ℕ) (input output : Change) : Type 0 where
  pub octets : List ℕ
  pub lost : input.old ≡ prepend_known octets input.new
  pub most : length octets ≤ limit + 1
  pub slots : GrowsIn output (slots_of p (take limit octets))

-- how a run ends where not all was sent
abbrev pub unsent : ℕ → SendFault → Ending
unsent limit Read = ending.ReadFault
unsent limit Write = ending.WriteFault
unsent limit Long = ending.TooLong limit
unsent limit (Rest rest sent) = ending.Ragged rest

-- `encode`, by how it ends
abbrev pub EncodeRun : Parameters → ℕ → Change → Change → Change → Status → Type 0
EncodeRun p limit input output report Done =
    (octets : List ℕ) × Encodes p limit input output octets
    × (length octets % p.frame_octets ≡ 0)
    × (report.new ≡ append_known report.old (encode_line p octets))
EncodeRun p limit input output report ReportFault =
    (octets : List ℕ) × Encodes p limit input output octets
    × (length octets % p.frame_octets ≡ 0)
    × GrowsIn report (encode_line p octets)
EncodeRun p limit input output report Ragged =
    (octets : List ℕ) × Encodes p limit input output octets
    × (0 < length octets % p.frame_octets)
    × IsTold report (ragged_line (length octets % p.frame_octets))
EncodeRun p limit input output report TooLong =
    TakesCount input.old input.new (limit + 1) × CutsOff p limit input output × IsTold report (limit_line limit)
EncodeRun p limit input output report ReadFault = CutsOff p limit input output × IsTold report read_line
EncodeRun p limit input output report WriteFault = CutsOff p limit input output × IsTold report write_line
EncodeRun p limit input output report _ = ⊥
