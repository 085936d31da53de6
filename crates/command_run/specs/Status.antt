-- How a run ends.
use Rattle.std.specs.Prelude.{◌≡◌, ◌⊎◌, ℕ}
use Rattle.command_run.specs.declared.status.Ending.{Ending}
use Rattle.command_run.specs.declared.status.Ending.TheVariants as ending
use Rattle.command_run.specs.declared.status.Status.{Status}
use Rattle.command_run.specs.declared.status.Status.TheVariants.{Done, ReadFault, WriteFault, TooLong, BadProfile, Refused, Usage, OutOfMemory}

-- the number that the program ends with
abbrev pub exit_code : Status → ℕ
exit_code Done = 0
exit_code ReadFault = 1
exit_code WriteFault = 2
exit_code TooLong = 3
exit_code BadProfile = 4
exit_code Refused = 5
exit_code Usage = 6
exit_code OutOfMemory = 7

-- how a run ends whose answer was written whole
abbrev pub status_of : Ending → Status
status_of ending.Done = Done
status_of ending.BadProfile = BadProfile
status_of ending.Refused = Refused

-- a run ends with this status, or for lack of memory
abbrev pub EndsWith : Status → Status → Type 0
EndsWith wanted result = (result ≡ wanted) ⊎ (result ≡ OutOfMemory)
