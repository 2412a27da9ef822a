-- What a run comes to by what is asked alone, where its limit is kept and nothing fails.
use Rattle.std.specs.Prelude.{if◌then◌else◌, ⊤, ◌≡◌, ◌≢◌, ◌≤◌, ◌%◌, ◌==◌, ℕ, List, [], length, Option, Some, Ok}
use Rattle.std.specs.Io.KnownBytes.{append_known}
use Rattle.hpe_base.specs.Counts.{counts_of}
use Rattle.hpe_base.specs.Decoded.{decoded, report_of}
use Rattle.hpe_base.specs.MarkerSearch.{Offset, Short, Dark, At, offset_of}
use Rattle.hpe_base.specs.Parameters.{Parameters}
use Rattle.hpe_base.specs.Slots.{slots_of}
use Rattle.hpe_io.specs.Devices.{Rose}
use Rattle.hpe_io.specs.Shelves.{Named}
use Rattle.hpe_sim.specs.Simulated.{sim_counts, slots_for, summary}
use Rattle.hpe_sim.specs.declared.task.Task.{Task}
use Rattle.hpe_cmd.specs.declared.ending.Status.{Status}
use Rattle.hpe_cmd.specs.declared.ending.Status.TheVariants.{Done, NoMemory, Ragged}
use Rattle.hpe_cmd.specs.declared.words.Action.{Action}
use Rattle.hpe_cmd.specs.declared.words.Action.TheVariants.{Encode, Decode, Geometry, Simulate}
use Rattle.hpe_cmd.specs.Changes.{Change, Fails}
use Rattle.hpe_cmd.specs.DecodeRun.{decode_status}
use Rattle.hpe_cmd.specs.EncodeRun.{encode_line}
use Rattle.hpe_cmd.specs.FaultLines.{ragged_line}
use Rattle.hpe_cmd.specs.GeometryRun.{geometry_line}
use Rattle.hpe_cmd.specs.Runs.{opened}
use Rattle.hpe_cmd.specs.Words.{Request}

-- ---- what is due

-- how a run ends, and what it writes to the output and tells the report
pub record Outcome : Type 0 where
  pub status : Status
  pub written : List ℕ
  pub told : List ℕ

-- the slots of the whole frames in the octets, and the line on them or on the octets that are left over
abbrev pub encode_outcome : Parameters → List ℕ → Outcome
encode_outcome p octets =
    if length octets % p.frame_octets == 0
    then record { status = Done; written = slots_of p octets; told = encode_line p octets }
    else record {
      status = Ragged;
      written = slots_of p octets;
      told = ragged_line (length octets % p.frame_octets);
    }

-- the frames that the octets decode to, and the report on their words
abbrev pub decode_outcome : Parameters → List ℕ → Outcome
decode_outcome p octets =
    record { status = decode_status p octets; written = decoded p octets; told = report_of p octets }

-- the measures
abbrev pub geometry_outcome : Parameters → Outcome
geometry_outcome p = record { status = Done; written = geometry_line p; told = [] }

-- the summary, or nothing where all that the marker search sees is dark
abbrev pub summary_at : Offset → List ℕ → List ℕ
summary_at Short line = line
summary_at Dark line = []
summary_at (At offset best) line = line

-- the summary of the simulation, and the report on its words
abbrev pub simulate_outcome : Parameters → Task → Outcome
simulate_outcome p task = record {
  status = decode_status p (sim_counts p task);
  written = summary_at (offset_of p (counts_of p (sim_counts p task))) (summary p task);
  told = report_of p (sim_counts p task);
}

-- what an action comes to under a profile, where an input that it reads holds these octets
abbrev pub outcome : Action → Parameters → Task → List ℕ → Outcome
outcome Encode p task octets = encode_outcome p octets
outcome Decode p task octets = decode_outcome p octets
outcome Geometry p task octets = geometry_outcome p
outcome Simulate p task octets = simulate_outcome p task

-- ---- where it is due

-- an input that the action reads holds these octets, as many as the limit at most, or the simulation has so many slots
abbrev pub IsWithin : Action → Parameters → ℕ → Task → Option (List ℕ) → List ℕ → Type 0
IsWithin Encode p limit task left octets = (left ≡ Some octets) × (length octets ≤ limit)
IsWithin Decode p limit task left octets = (left ≡ Some octets) × (length octets ≤ limit)
IsWithin Geometry p limit task left octets = ⊤
IsWithin Simulate p limit task left octets = slots_for p task.frames ≤ limit

-- the words ask for this, its profile is the built-in one or that under its name, and its limit is kept
pub record IsFeasible (asked : Option Request) (texts : Option (List Named)) (left : Option (List ℕ)) (r : Request)
    (p : Parameters) (octets : List ℕ) : Type 0 where
  pub asks : asked ≡ Some r
  pub profile : opened texts r.profile ≡ Some (Ok p)
  pub within : IsWithin r.action p r.limit r.task left octets

-- the count of faults of the shelf, of the input, of the output and of the report didn't rise, and there was memory
pub record MeetsNoFault (before now : ℕ) (input output report : Change) (status : Status) : Type 0 where
  pub shelf : Rose before now → ⊥
  pub input_serves : Fails input → ⊥
  pub output_serves : Fails output → ⊥
  pub report_serves : Fails report → ⊥
  pub memory : status ≢ NoMemory

-- the run ended so, and the sinks grew by all that is due
pub record HasOutcome (due : Outcome) (output report : Change) (status : Status) : Type 0 where
  pub ends : status ≡ due.status
  pub written : output.new ≡ append_known output.old due.written
  pub told : report.new ≡ append_known report.old due.told
