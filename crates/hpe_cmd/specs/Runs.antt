-- What a run comes to by its words and its shelf, and what its action did.
use Rattle.std.specs.Prelude.{◌≡◌, ◌≢◌, ◌≤◌, ◌⊎◌, ℕ, Bool, false, List, Option, Some, None, Result, Ok, Err, IfSome, IsTrue, is_ok, is_some, option_map}
use Rattle.hpe_base.specs.Parameters.{Parameters, basic}
use Rattle.hpe_io.specs.Shelves.{Named, text_under, fetched}
use Rattle.hpe_io.specs.declared.shelf.ShelfFault.{ShelfFault as Refused}
use Rattle.hpe_io.specs.declared.shelf.ShelfFault.TheVariants as shelf
use Rattle.hpe_profile.specs.ProfileText.{profile_of_text}
use Rattle.hpe_profile.specs.declared.fault.ReadFault.{ReadFault as Cause}
use Rattle.hpe_sim.specs.declared.task.Task.{Task}
use Rattle.hpe_cmd.specs.declared.ending.Ending.{Ending}
use Rattle.hpe_cmd.specs.declared.ending.Ending.TheVariants as ending
use Rattle.hpe_cmd.specs.declared.ending.Status.{Status}
use Rattle.hpe_cmd.specs.declared.ending.Status.TheVariants.{Usage, ShelfFault, NoMemory}
use Rattle.hpe_cmd.specs.declared.words.Action.{Action}
use Rattle.hpe_cmd.specs.declared.words.Refusal.{Refusal}
use Rattle.hpe_cmd.specs.declared.words.Refusal.TheVariants as refusal
use Rattle.hpe_cmd.specs.declared.words.Action.TheVariants.{Encode, Decode, Geometry, Simulate}
use Rattle.clap.specs.Walk.{Text}
use Rattle.hpe_cmd.specs.Changes.{Change, IsTold}
use Rattle.hpe_cmd.specs.DecodeRun.{DecodeRun}
use Rattle.hpe_cmd.specs.EncodeRun.{EncodeRun}
use Rattle.hpe_cmd.specs.FaultLines.{fault_line}
use Rattle.hpe_cmd.specs.GeometryRun.{GeometryRun}
use Rattle.hpe_cmd.specs.SimulateRun.{SimulateRun}
use Rattle.hpe_cmd.specs.Statuses.{status_of, is_early}
use Rattle.hpe_cmd.specs.Words.{Request}

-- ---- words

-- the run ends by its words exactly where they ask for nothing, if there is memory
abbrev pub IsUsage : Option Request → Status → Type 0
IsUsage None status = (status ≡ Usage) ⊎ (status ≡ NoMemory)
IsUsage (Some request) status = status ≢ Usage

-- how a run ends that its words don't begin
abbrev pub ending_of : Refusal → Ending
ending_of refusal.Usage = ending.Usage
ending_of refusal.NoMemory = ending.NoMemory

-- ---- profiles

-- the profile that a text names, or how the run ends
abbrev pub read_as : Result Parameters Cause → Result Parameters Ending
read_as (Ok p) = Ok p
read_as (Err cause) = Err (ending.BadProfile cause)

abbrev pub refusal_of : Refused → Ending
refusal_of shelf.Failed = ending.ShelfFault
refusal_of shelf.Absent = ending.ProfileAbsent
refusal_of shelf.TooLong = ending.ProfileTooLong
refusal_of shelf.NoMemory = ending.NoMemory

abbrev pub profile_in : Result (List ℕ) Refused → Result Parameters Ending
profile_in (Ok text) = read_as (profile_of_text text)
profile_in (Err refused) = Err (refusal_of refused)

-- the profile of that name on a shelf with these texts, or how the run ends
abbrev pub named_profile : Text → List Named → Result Parameters Ending
named_profile name texts = profile_in (fetched (text_under texts name))

-- what settles the profile: without a name it is the built-in one, and under a name what the shelf tells of it
abbrev pub opened : Option (List Named) → Option Text → Option (Result Parameters Ending)
opened texts None = Some (Ok basic)
opened texts (Some name) = option_map (named_profile name) texts

-- this is the profile that is asked
abbrev pub IsChosen : Option (List Named) → Option Text → Parameters → Type 0
IsChosen texts name p = IfSome (opened texts name) (λ settled. settled ≡ Ok p)

-- no more than this was done: the shelf failed, or there was no memory
abbrev pub Stops : {X : Type 0} → Result X Ending → Type 0
Stops result = (result ≡ Err ending.ShelfFault) ⊎ (result ≡ Err ending.NoMemory)

-- a profile was opened as is settled, unless the run stops
abbrev pub Opens : Result Parameters Ending → Result Parameters Ending → Type 0
Opens settled result = (result ≡ settled) ⊎ Stops result

-- an action followed where a profile is settled, else the ending that is settled, unless the run stops
abbrev pub Follows : Result Parameters Ending → Result Status Ending → Type 0
Follows (Ok p) result = IsTrue (is_ok result) ⊎ Stops result
Follows (Err e) result = (result ≡ Err e) ⊎ Stops result

-- the run ended as the opening of the profile settles, with the fault line of its ending, or the shelf failed, or there
-- was no memory
abbrev pub Settles : Result Parameters Ending → Change → Status → Type 0
Settles (Ok p) report status = (is_early status ≡ false) ⊎ ((status ≡ ShelfFault) ⊎ (status ≡ NoMemory))
Settles (Err e) report status =
    ((status ≡ status_of e) × IsTold report (fault_line e)) ⊎ ((status ≡ ShelfFault) ⊎ (status ≡ NoMemory))

-- whether the words name a profile
abbrev pub names_profile : Option Request → Bool
names_profile None = false
names_profile (Some request) = is_some request.profile

-- what a run does to a shelf: it is asked only for a profile that the words name
pub record ShelfRun {S : Type 0} (request : Option Request) (texts : S → Option (List Named)) (faults : S → ℕ)
    (old new : S) (status : Status) : Type 0 where
  pub later : faults old ≤ faults new
  pub same : texts new ≡ texts old
  pub unasked : names_profile request ≡ false → new ≡ old
  pub fault : status ≡ ShelfFault → IsTrue (names_profile request)

-- ---- actions

-- an ending that the report knows nothing of yet, as the status that it will be
abbrev pub status_in : Result Status Ending → Status
status_in (Ok status) = status
status_in (Err e) = status_of e

-- a run that ended before its action began: its fault line was put
abbrev pub EarlyRun : Change → Status → Type 0
EarlyRun report status = (e : Ending) × (status ≡ status_of e) × IsTold report (fault_line e)

-- what an action did, by how it ended
abbrev pub ActRun : Action → Parameters → ℕ → Task → Change → Change → Change → Status → Type 0
ActRun Encode p limit task input output report status = EncodeRun p limit input output report status
ActRun Decode p limit task input output report status = DecodeRun p limit input output report status
ActRun Geometry p limit task input output report status = (input.new ≡ input.old) × GeometryRun p output report status
ActRun Simulate p limit task input output report status =
    (input.new ≡ input.old) × SimulateRun p limit task output report status

-- what was asked was done under the profile that is asked
abbrev pub Acts : Option Request → Option (List Named) → Change → Change → Change → Status → Type 0
Acts asked texts input output report status =
    (r : Request) × (asked ≡ Some r) × (p : Parameters) × IsChosen texts r.profile p
    × ActRun r.action p r.limit r.task input output report status

-- what holds of a run whose words ask for this action and that gets to it, under the profile that is asked and what the
-- words ask
abbrev pub WhereAsked : Option Request → Option (List Named) → Action → Status → (Parameters → Request → Type 0)
    → Type 0
WhereAsked asked texts action status Holds =
    (r : Request) → asked ≡ Some r → r.action ≡ action → is_early status ≡ false
    → (p : Parameters) × IsChosen texts r.profile p × Holds p r
