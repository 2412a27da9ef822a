-- What `simulate` did to its devices, by how it ended.
use Rattle.std.specs.Prelude.{if◌then◌else◌, ◌==◌, ◌≡◌, ◌≢◌, ◌≤◌, ◌<◌, ℕ, take, Result, Ok, Err}
use Rattle.std.specs.Io.KnownBytes.{append_known}
use Rattle.hpe_base.specs.Counts.{counts_of}
use Rattle.hpe_base.specs.Decoded.{report_of}
use Rattle.hpe_base.specs.MarkerSearch.{Dark, offset_of}
use Rattle.hpe_base.specs.Parameters.{Parameters}
use Rattle.hpe_recv.specs.declared.receiver.Tally.{Tally}
use Rattle.hpe_sim.specs.Simulated.{sim_counts, slots_for, summary}
use Rattle.hpe_sim.specs.declared.simulation.SimFault.{SimFault}
use Rattle.hpe_sim.specs.declared.simulation.SimFault.TheVariants.{Write, Report, TooLong as Long, NoMarker as Unmarked, NoMemory}
use Rattle.hpe_sim.specs.declared.task.Task.{Task}
use Rattle.hpe_cmd.specs.declared.ending.Ending.{Ending}
use Rattle.hpe_cmd.specs.declared.ending.Ending.TheVariants as ending
use Rattle.hpe_cmd.specs.declared.ending.Status.{Status}
use Rattle.hpe_cmd.specs.declared.ending.Status.TheVariants.{Done, WriteFault, ReportFault, TooLong, WordsLost, NoMarker}
use Rattle.hpe_cmd.specs.Changes.{Change, GrowsIn, IsTold}
use Rattle.hpe_cmd.specs.DecodeRun.{decode_status}
use Rattle.hpe_cmd.specs.FaultLines.{IsPut, write_line, limit_line}

-- ---- the status

-- how a run ends after the answer of a simulation; without memory nothing was done
abbrev pub simulated : ℕ → Result Tally SimFault → Result Ending Ending
simulated limit (Ok tally) = if tally.lost == 0 then Ok ending.Done else Ok ending.WordsLost
simulated limit (Err Write) = Ok ending.WriteFault
simulated limit (Err Report) = Ok ending.ReportFault
simulated limit (Err Long) = Ok (ending.TooLong limit)
simulated limit (Err (Unmarked counts)) = Ok ending.NoMarker
simulated limit (Err NoMemory) = Err ending.NoMemory

-- ---- the run

-- the slots are within the limit, the report grew by all that is told of their counts, and these settle the status
pub record Simulates (p : Parameters) (limit : ℕ) (task : Task) (report : Change) (status : Status) : Type 0 where
  pub within : slots_for p task.frames ≤ limit
  pub told : report.new ≡ append_known report.old (report_of p (sim_counts p task))
  pub settled : status ≡ decode_status p (sim_counts p task)

-- the output failed: it grew by a front of the summary, and the report by all that is told and then by the fault line
pub record CutsSummary (p : Parameters) (limit : ℕ) (task : Task) (output report : Change) : Type 0 where
  pub within : slots_for p task.frames ≤ limit
  pub lit : offset_of p (counts_of p (sim_counts p task)) ≢ Dark
  pub front : GrowsIn output (summary p task)
  pub told : IsPut report.faults_old report.faults_new (append_known report.old (report_of p (sim_counts p task)))
      report.new write_line

-- the report failed: it grew by a front of what is told of a front of the counts, and nothing was written
pub record CutsReport (p : Parameters) (limit : ℕ) (task : Task) (output report : Change) : Type 0 where
  pub within : slots_for p task.frames ≤ limit
  pub unwritten : output.new ≡ output.old
  pub octets : ℕ
  pub front : GrowsIn report (report_of p (take octets (sim_counts p task)))

-- `simulate`, by how it ends
abbrev pub SimulateRun : Parameters → ℕ → Task → Change → Change → Status → Type 0
SimulateRun p limit task output report Done =
    Simulates p limit task report Done × (output.new ≡ append_known output.old (summary p task))
SimulateRun p limit task output report WordsLost =
    Simulates p limit task report WordsLost × (output.new ≡ append_known output.old (summary p task))
SimulateRun p limit task output report NoMarker =
    Simulates p limit task report NoMarker × (output.new ≡ output.old)
SimulateRun p limit task output report TooLong =
    (limit < slots_for p task.frames) × (output.new ≡ output.old) × IsTold report (limit_line limit)
SimulateRun p limit task output report WriteFault = CutsSummary p limit task output report
SimulateRun p limit task output report ReportFault = CutsReport p limit task output report
SimulateRun p limit task output report _ = ⊥
