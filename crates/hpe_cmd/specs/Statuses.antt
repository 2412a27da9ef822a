-- The exit statuses of the process.
use Rattle.std.specs.Prelude.{ℕ, Bool, true, false}
use Rattle.hpe_cmd.specs.declared.ending.Ending.{Ending}
use Rattle.hpe_cmd.specs.declared.ending.Ending.TheVariants as ending
use Rattle.hpe_cmd.specs.declared.ending.Status.{Status}
use Rattle.hpe_cmd.specs.declared.ending.Status.TheVariants.{Done, Usage, BadProfile, ShelfFault, ReadFault, WriteFault, ReportFault, NoMemory, TooLong, Ragged, WordsLost, NoMarker, ProfileTooLong, ProfileAbsent}

abbrev pub status_number : Status → ℕ
status_number Done = 0
status_number Usage = 2
status_number BadProfile = 3
status_number ShelfFault = 4
status_number ReadFault = 5
status_number WriteFault = 6
status_number ReportFault = 7
status_number NoMemory = 8
status_number TooLong = 9
status_number Ragged = 10
status_number WordsLost = 11
status_number NoMarker = 12
status_number ProfileTooLong = 13
status_number ProfileAbsent = 17

abbrev pub status_of : Ending → Status
status_of ending.Done = Done
status_of ending.Usage = Usage
status_of (ending.BadProfile cause) = BadProfile
status_of ending.ShelfFault = ShelfFault
status_of ending.ReadFault = ReadFault
status_of ending.WriteFault = WriteFault
status_of ending.ReportFault = ReportFault
status_of ending.NoMemory = NoMemory
status_of (ending.TooLong limit) = TooLong
status_of (ending.Ragged rest) = Ragged
status_of ending.WordsLost = WordsLost
status_of ending.NoMarker = NoMarker
status_of ending.ProfileTooLong = ProfileTooLong
status_of ending.ProfileAbsent = ProfileAbsent

-- the run ended before its action began: no input was taken and nothing written
abbrev pub is_early : Status → Bool
is_early Usage = true
is_early BadProfile = true
is_early ShelfFault = true
is_early NoMemory = true
is_early ProfileTooLong = true
is_early ProfileAbsent = true
is_early _ = false
