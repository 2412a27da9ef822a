-- What a receiver keeps, what it did to its input and its sinks, and how its results are told apart.
use Rattle.std.specs.Prelude.{⊤, ℕ, ◌≡◌, ◌≤◌, ◌+◌, ◌*◌, ◌/◌, List, length, take, Bool, ◌++◌, codes, decimal, Result, Ok, Err}
use Rattle.std.specs.declared.option.Option.{Option}
use Rattle.std.specs.Io.KnownBytes.{append_known, prepend_known}
use Rattle.hpe_base.specs.Parameters.{Parameters, positions, symbol_slots, interleaver_depth, codeword_symbols}
use Rattle.hpe_base.specs.Counts.{counts_of}
use Rattle.hpe_base.specs.Decoded.{Tally, verdicts_of, decoded, report_of, word_lines}
use Rattle.hpe_io.specs.Devices.{ReadsAll, GrowsByFront}
use Rattle.hpe_find.specs.Finding.{finder_room}
use Rattle.hpe_recv.specs.declared.intake.Untaken.{Untaken}
use Rattle.hpe_recv.specs.declared.intake.Untaken.TheVariants as untaken
use Rattle.hpe_recv.specs.declared.receiver.Tally as counter
use Rattle.hpe_recv.specs.declared.receiver.RecvFault.{RecvFault}
use Rattle.hpe_recv.specs.declared.receiver.RecvFault.TheVariants.{Read, Write, Report, TooLong, NoMarker}

-- a receiver: whether it has received nothing, and how many counts and sums it keeps: the counts of the marker search,
-- those of the symbol that is begun, the sums that wait in the channel interleaver, and those of the words that are loaded
-- or begun
pub record Receiving : Type 0 where
  pub parameters : Parameters
  pub workers : ℕ
  pub fresh : Bool
  pub counts : ℕ
  pub begun : ℕ
  pub waiting : ℕ
  pub sums : ℕ

-- the most counts and sums that a receiver keeps
abbrev pub held_limit : Parameters → ℕ → ℕ
held_limit p workers =
    finder_room p + symbol_slots p
    + (positions p.order * interleaver_depth p / 2 + workers * (codeword_symbols p.order * positions p.order))

-- a tally as the definitions have it
abbrev pub tallied : counter.Tally → Tally
tallied t = record { words = t.words; kept = t.kept; lost = t.lost; frames = t.frames; lead = t.lead; tail = t.tail }

-- why an input was not taken to its end, as a fault
abbrev pub fault_of : Untaken → RecvFault
fault_of untaken.Read = Read
fault_of untaken.Frames = Write
fault_of untaken.Report = Report
fault_of untaken.TooLong = TooLong

-- these octets were read to the input's end, at most the limit, and the sinks grew by their frames and their report
pub record Receives (p : Parameters) (limit : ℕ) (left left' frames frames' report report' : Option (List ℕ)) (octets : List ℕ) : Type 0 where
  pub reads : ReadsAll left left' octets
  pub within : length octets ≤ limit
  pub decodes : frames' ≡ append_known frames (decoded p octets)
  pub reports : report' ≡ append_known report (report_of p octets)

-- octets were taken, at most one more than the limit, and the sinks grew by some front of the frames and of the report of
-- the first of them, as many as the limit
pub record ReceivesPart (p : Parameters) (limit : ℕ) (left left' frames frames' report report' : Option (List ℕ)) : Type 0 where
  pub octets : List ℕ
  pub lost : left ≡ prepend_known octets left'
  pub most : length octets ≤ limit + 1
  pub decodes : GrowsByFront frames frames' (decoded p (take limit octets))
  pub reports : GrowsByFront report report' (report_of p (take limit octets))

-- octets were taken, and the report grew by the lines of some first words of the first of them, as many as the limit
pub record ReportsWords (p : Parameters) (limit : ℕ) (left left' report report' : Option (List ℕ)) : Type 0 where
  pub octets : List ℕ
  pub lost : left ≡ prepend_known octets left'
  pub words : ℕ
  pub reports : report' ≡ append_known report (word_lines 0 (take words (verdicts_of p (counts_of p (take limit octets)))))

-- what holds of the number of counts where no marker was found
abbrev pub IfNoMarker : Result counter.Tally RecvFault → (ℕ → Type 0) → Type 0
IfNoMarker (Ok tally) P = ⊤
IfNoMarker (Err Read) P = ⊤
IfNoMarker (Err Write) P = ⊤
IfNoMarker (Err Report) P = ⊤
IfNoMarker (Err TooLong) P = ⊤
IfNoMarker (Err (NoMarker counts)) P = P counts

-- what holds where the input or a sink was left before its end
abbrev pub IfCutOff : Result counter.Tally RecvFault → Type 0 → Type 0
IfCutOff (Ok tally) P = ⊤
IfCutOff (Err Read) P = P
IfCutOff (Err Write) P = P
IfCutOff (Err Report) P = P
IfCutOff (Err TooLong) P = P
IfCutOff (Err (NoMarker counts)) P = ⊤

-- and where that was not the report
abbrev pub IfReportStands : Result counter.Tally RecvFault → Type 0 → Type 0
IfReportStands (Ok tally) P = ⊤
IfReportStands (Err Read) P = P
IfReportStands (Err Write) P = P
IfReportStands (Err Report) P = ⊤
IfReportStands (Err TooLong) P = P
IfReportStands (Err (NoMarker counts)) P = ⊤

-- the line on a stream without a marker
unfoldable pub dark_line : ℕ → List ℕ
dark_line counts = codes "no marker in " ++ decimal counts ++ codes " slots\n"
