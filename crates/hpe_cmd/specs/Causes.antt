-- Whose count of faults rose in a run, by how it ended.
use Rattle.std.specs.Prelude.{⊤, ◌≡◌, ℕ, Result, Ok, Err}
use Rattle.hpe_io.specs.Devices.{Rose}
use Rattle.hpe_cmd.specs.declared.ending.Ending.{Ending}
use Rattle.hpe_cmd.specs.declared.ending.Status.{Status}
use Rattle.hpe_cmd.specs.declared.ending.Status.TheVariants.{Done, ShelfFault, ReadFault, WriteFault, ReportFault, WordsLost, NoMarker}
use Rattle.hpe_cmd.specs.Changes.{Change, Fails, Serves}
use Rattle.hpe_cmd.specs.Statuses.{status_of}

-- the shelf's count
abbrev pub ShelfCause : Status → ℕ → ℕ → Type 0
ShelfCause ShelfFault before now = Rose before now
ShelfCause _ before now = now ≡ before

abbrev pub InputCause : Status → Change → Type 0
InputCause ReadFault input = Fails input
InputCause _ input = Serves input

abbrev pub OutputCause : Status → Change → Type 0
OutputCause WriteFault output = Fails output
OutputCause _ output = Serves output

-- the report's count, where the put of a fault line plays no part: what it did is told beside the line
abbrev pub ReportCause : Status → Change → Type 0
ReportCause Done report = Serves report
ReportCause WordsLost report = Serves report
ReportCause NoMarker report = Serves report
ReportCause ReportFault report = Fails report
ReportCause _ report = ⊤

-- the count of the device that the status names rose, and no other
pub record HasCause (status : Status) (taken put told : Change) : Type 0 where
  pub input : InputCause status taken
  pub output : OutputCause status put
  pub report : ReportCause status told

-- the status of a step that ended the run, or of one that let it go on
abbrev pub status_after : {X : Type 0} → Result X Ending → Status
status_after (Ok x) = Done
status_after (Err e) = status_of e
