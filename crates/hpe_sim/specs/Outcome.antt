-- What a simulation did, by its answer.
use Rattle.std.specs.Prelude.{⊤, ◌≡◌, ◌≢◌, ℕ, List, length, take, Result, Ok, Err}
use Rattle.std.specs.declared.option.Option.{Option}
use Rattle.std.specs.Io.KnownBytes.{append_known}
use Rattle.hpe_base.specs.Counts.{counts_of}
use Rattle.hpe_base.specs.Decoded.{report_of, tally_of}
use Rattle.hpe_base.specs.MarkerSearch.{offset_of, Dark}
use Rattle.hpe_base.specs.Parameters.{Parameters}
use Rattle.hpe_io.specs.Devices.{GrowsByFront, Rose}
use Rattle.hpe_recv.specs.declared.receiver.Tally.{Tally}
use Rattle.hpe_recv.specs.Receiving.{tallied}
use Rattle.hpe_sim.specs.declared.simulation.SimFault.{SimFault}
use Rattle.hpe_sim.specs.declared.simulation.SimFault.TheVariants.{Write, Report, TooLong, NoMarker, NoMemory}

-- the answer is the tally of the counts that octets write, or how many of them have no marker, as the counts settle
abbrev pub HasAnswer : Parameters → List ℕ → Result Tally SimFault → Type 0
HasAnswer p octets (Ok tally) = (tallied tally ≡ tally_of p octets) × (offset_of p (counts_of p octets) ≢ Dark)
HasAnswer p octets (Err Write) = offset_of p (counts_of p octets) ≢ Dark
HasAnswer p octets (Err Report) = ⊤
HasAnswer p octets (Err TooLong) = ⊤
HasAnswer p octets (Err (NoMarker counts)) =
    (counts ≡ length (counts_of p octets)) × (offset_of p (counts_of p octets) ≡ Dark)
HasAnswer p octets (Err NoMemory) = ⊤

-- the report grew by what is told of the counts that octets write, where it failed by a front of what is told of a
-- front of them, and where nothing was made it is as before
abbrev pub HasReported : {R : Type 0} → (R → Option (List ℕ)) → R → R → Parameters → List ℕ → Result Tally SimFault
    → Type 0
HasReported written old new p octets (Ok tally) = written new ≡ append_known (written old) (report_of p octets)
HasReported written old new p octets (Err Write) = written new ≡ append_known (written old) (report_of p octets)
HasReported written old new p octets (Err Report) =
    (n : ℕ) × GrowsByFront (written old) (written new) (report_of p (take n octets))
HasReported written old new p octets (Err TooLong) = new ≡ old
HasReported written old new p octets (Err (NoMarker counts)) =
    written new ≡ append_known (written old) (report_of p octets)
HasReported written old new p octets (Err NoMemory) = new ≡ old

-- the output grew by the line, where it failed by a front of the line, and at each other answer it is as before
abbrev pub HasSummed : {O : Type 0} → (O → Option (List ℕ)) → O → O → List ℕ → Result Tally SimFault → Type 0
HasSummed written old new line (Ok tally) = written new ≡ append_known (written old) line
HasSummed written old new line (Err Write) = GrowsByFront (written old) (written new) line
HasSummed written old new line (Err Report) = new ≡ old
HasSummed written old new line (Err TooLong) = new ≡ old
HasSummed written old new line (Err (NoMarker counts)) = new ≡ old
HasSummed written old new line (Err NoMemory) = new ≡ old

-- the report's count of faults rose where it failed, and stays at each other answer
abbrev pub HasReportCause : ℕ → ℕ → Result Tally SimFault → Type 0
HasReportCause before now (Ok tally) = now ≡ before
HasReportCause before now (Err Write) = now ≡ before
HasReportCause before now (Err Report) = Rose before now
HasReportCause before now (Err TooLong) = now ≡ before
HasReportCause before now (Err (NoMarker counts)) = now ≡ before
HasReportCause before now (Err NoMemory) = now ≡ before

-- the output's count of faults rose where it failed, and stays at each other answer
abbrev pub HasWriteCause : ℕ → ℕ → Result Tally SimFault → Type 0
HasWriteCause before now (Ok tally) = now ≡ before
HasWriteCause before now (Err Write) = Rose before now
HasWriteCause before now (Err Report) = now ≡ before
HasWriteCause before now (Err TooLong) = now ≡ before
HasWriteCause before now (Err (NoMarker counts)) = now ≡ before
HasWriteCause before now (Err NoMemory) = now ≡ before
