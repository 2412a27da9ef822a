-- The lines of the report on how a run failed.
use Rattle.std.specs.Prelude.{◌≡◌, ◌⊎◌, ◌++◌, ℕ, List, [], codes, decimal}
use Rattle.std.specs.declared.option.Option.{Option}
use Rattle.std.specs.Io.KnownBytes.{append_known}
use Rattle.hpe_base.specs.declared.fault.Rule.{Rule}
use Rattle.hpe_base.specs.declared.fault.Rule.TheVariants as rule
use Rattle.hpe_base.specs.declared.fault.ProfileFault.TheVariants.{Range, Tie}
use Rattle.hpe_io.specs.Devices.{Rose, GrowsByFront}
use Rattle.hpe_profile.specs.ProfileText.{key_name}
use Rattle.hpe_profile.specs.declared.fault.ReadFault.{ReadFault as Cause}
use Rattle.hpe_profile.specs.declared.fault.ReadFault.TheVariants as cause
use Rattle.hpe_cmd.specs.declared.ending.Ending.{Ending}
use Rattle.hpe_cmd.specs.declared.ending.Ending.TheVariants.{Done, Usage, BadProfile, ShelfFault, ReadFault, WriteFault, ReportFault, NoMemory, TooLong, Ragged, WordsLost, NoMarker, ProfileTooLong, ProfileAbsent}

abbrev pub usage_line : List ℕ
usage_line = codes "usage: hpe encode, decode, geometry or simulate, with options\n"

abbrev pub read_line : List ℕ
read_line = codes "read fault\n"

abbrev pub write_line : List ℕ
write_line = codes "write fault\n"

abbrev pub memory_line : List ℕ
memory_line = codes "no memory\n"

-- the line on an input with more octets than the limit, or a simulation with more slots
unfoldable pub limit_line : ℕ → List ℕ
limit_line limit = codes "too long: limit " ++ decimal limit ++ codes "\n"

-- the line on an input that ends with so many octets of a begun frame
unfoldable pub ragged_line : ℕ → List ℕ
ragged_line rest = codes "ragged: rest " ++ decimal rest ++ codes "\n"

-- a rule between the values of a profile
abbrev pub rule_text : Rule → List ℕ
rule_text rule.ColumnEmpty = codes "column empty"
rule_text rule.ColumnCount = codes "column count"
rule_text rule.KeptTotal = codes "kept total"
rule_text rule.RowsDivide = codes "rows divide"
rule_text rule.MarkerValue = codes "marker value"
rule_text rule.Depth = codes "depth"
rule_text rule.Window = codes "window"

-- why a text names no profile
abbrev pub cause_text : Cause → List ℕ
cause_text cause.Text = codes "text"
cause_text cause.Unknown = codes "unknown key"
cause_text (cause.Missing key) = codes "missing " ++ key_name key
cause_text (cause.Kind key) = codes "kind of " ++ key_name key
cause_text (cause.Profile (Range key)) = codes "range of " ++ key_name key
cause_text (cause.Profile (Tie rule)) = codes "rule " ++ rule_text rule
cause_text cause.NoMemory = codes "no memory"

unfoldable pub profile_line : Cause → List ℕ
profile_line cause = codes "bad profile: " ++ cause_text cause ++ codes "\n"

-- the fault line of an ending; there is none where all was done, the report failed or the report says it
abbrev pub fault_line : Ending → List ℕ
fault_line Done = []
fault_line Usage = usage_line
fault_line (BadProfile cause) = profile_line cause
fault_line ShelfFault = codes "profile not read\n"
fault_line ReadFault = read_line
fault_line WriteFault = write_line
fault_line ReportFault = []
fault_line NoMemory = memory_line
fault_line (TooLong limit) = limit_line limit
fault_line (Ragged rest) = ragged_line rest
fault_line WordsLost = []
fault_line NoMarker = []
fault_line ProfileTooLong = codes "profile too long\n"
fault_line ProfileAbsent = codes "profile not found\n"

-- the line was put and the count of faults stays, or it rose and a front of the line was put
abbrev pub IsPut : ℕ → ℕ → Option (List ℕ) → Option (List ℕ) → List ℕ → Type 0
IsPut faults faults' written written' line =
    ((written' ≡ append_known written line) × (faults' ≡ faults))
    ⊎ (Rose faults faults' × GrowsByFront written written' line)
