-- How a run ends that answers an input.
use Rattle.std.specs.Prelude.{◌≡◌, ℕ, List, [], Option}
use Rattle.command_run.specs.Status.{status_of}
use Rattle.command_run.specs.declared.status.Ending.{Ending}
use Rattle.command_run.specs.declared.status.Status.{Status}
use Rattle.certify_core.specs.Command.{Gives}
use Rattle.certify_core.specs.Outcome.{IsAnswer}
use Rattle.certify_core.specs.Run.{OnInput, Takes, AppendsOne, AppendsFrontOfOne}
use Rattle.certify_core.specs.declared.command.Command.{Command}

-- the text is answered with the ending, without a complaint
abbrev pub AnswersWith : Command → List ℕ → Ending → List ℕ → List ℕ → Type 0
AnswersWith command input ending text complaint = IsAnswer (Gives command input) (status_of ending) text × (complaint ≡ [])

-- the words are a command that took its whole input, and what was written grew by exactly the answer with this status
abbrev pub Answered : List (List ℕ) → Option (List ℕ) → Option (List ℕ) → Option (List ℕ) → Option (List ℕ) → Status → Type 0
Answered words left_old left_new written_old written_new status =
    OnInput words (Takes left_old left_new) (λ command input. AppendsOne written_old written_new (IsAnswer (Gives command input) status))

-- the same, but that only some front of an answer was written
abbrev pub CutShort : List (List ℕ) → Option (List ℕ) → Option (List ℕ) → Option (List ℕ) → Option (List ℕ) → Type 0
CutShort words left_old left_new written_old written_new =
    OnInput words (Takes left_old left_new) (λ command input.
    (status : Status) × AppendsFrontOfOne written_old written_new (IsAnswer (Gives command input) status))
