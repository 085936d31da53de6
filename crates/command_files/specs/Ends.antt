-- How a run ends that has no answer, or couldn't deliver it.
use Rattle.std.specs.Prelude.{◌≡◌, ◌⊎◌}
use Rattle.command_run.specs.declared.status.Status.{Status}
use Rattle.command_run.specs.declared.status.Status.TheVariants as status
use Rattle.command_files.specs.declared.command.Stop.{Stop}
use Rattle.command_files.specs.declared.command.Stop.TheVariants.{TooLong, TooLongInAll, Unread, Unreplaced, Unwritten}
use Rattle.command_files.specs.declared.running.End.{End}
use Rattle.command_files.specs.declared.running.End.TheVariants.{OutOfMemory, Stopped}

abbrev pub status_of_stop : Stop → Status
status_of_stop (Unread place kind) = status.ReadFault
status_of_stop (TooLong place) = status.TooLong
status_of_stop (TooLongInAll place) = status.TooLong
status_of_stop Unwritten = status.WriteFault
status_of_stop Unreplaced = status.WriteFault

abbrev pub end_status : End → Status
end_status OutOfMemory = status.OutOfMemory
end_status (Stopped stop) = status_of_stop stop

-- what ends a run before its inputs are read
abbrev pub EndsReading : Status → Type 0
EndsReading s = (s ≡ status.ReadFault) ⊎ (s ≡ status.TooLong) ⊎ (s ≡ status.OutOfMemory)

-- what ends it before its answer is delivered
abbrev pub EndsWriting : Status → Type 0
EndsWriting s = (s ≡ status.WriteFault) ⊎ (s ≡ status.OutOfMemory)

abbrev pub IsEndStatus : Status → Type 0
IsEndStatus s = EndsReading s ⊎ EndsWriting s
