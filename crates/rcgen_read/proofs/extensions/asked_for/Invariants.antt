use Rattle.std.proofs.Common.{◌≡◌, drop}
use Rattle.rcgen_read.specs.ExtensionReading.{ask_for, asked_view, nothing_asked}
use Rattle.rcgen_read.specs.Reading.{try_fold}
use Rattle.rcgen_read.proofs.extensions.asked_for.Given as goal

-- what is left, from here on, is the whole from the start
abbrev pub invariant-loop-extension : goal.invariant-loop-extension
invariant-loop-extension l = try_fold ask_for nothing_asked l.extensions ≡ try_fold ask_for (asked_view l.asked) (drop l.extension-index l.extensions)
