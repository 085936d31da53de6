-- What a run of the program does.
use Rattle.std.specs.Prelude.{ℕ, List, Option}
use Rattle.std.specs.Io.KnownBytes.{Appends}
use Rattle.command_run.specs.Io.{AppendsFront}
use Rattle.command_run.specs.Run as run
use Rattle.certify_core.specs.Command.{command_of, reads_input}
use Rattle.certify_core.specs.declared.command.Command.{Command}

-- the input was taken for the command; one that doesn't read has an empty input
abbrev pub Takes : Option (List ℕ) → Option (List ℕ) → Command → List ℕ → Type 0
Takes old new command = run.Takes old new (reads_input command)

-- the input is all that the source reports as left, and it isn't too long
abbrev pub Has : Option (List ℕ) → Command → List ℕ → Type 0
Has left command = run.Has left (reads_input command)

-- the words are a command, which has its input by I, and P holds of the two
abbrev pub OnInput : List (List ℕ) → (Command → List ℕ → Type 0) → (Command → List ℕ → Type 0) → Type 0
OnInput words = run.OnInput (command_of words)

-- the words are a command that doesn't read
abbrev pub ReadsNothing : List (List ℕ) → Type 0
ReadsNothing words = run.ReadsNothing (command_of words) reads_input

-- the words are a command that reads, and what the source reports as left is too long
abbrev pub HasTooMuch : List (List ℕ) → Option (List ℕ) → Type 0
HasTooMuch words = run.HasTooMuch (command_of words) reads_input

-- what was written grew by exactly one text of which P holds
abbrev pub AppendsOne : Option (List ℕ) → Option (List ℕ) → (List ℕ → Type 0) → Type 0
AppendsOne old new P = (text : List ℕ) × P text × Appends old new text

-- what was written grew by some front of such a text
abbrev pub AppendsFrontOfOne : Option (List ℕ) → Option (List ℕ) → (List ℕ → Type 0) → Type 0
AppendsFrontOfOne old new P = (text : List ℕ) × P text × AppendsFront old new text
