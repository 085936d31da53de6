-- The limits within which a request comes to something.
use Rattle.std.specs.Prelude.{◌≡◌, ℕ, ◌+◌, ◌<◌, ◌^◌, Bool, true, List, length, Result, Ok, Err}
use Rattle.outcomes.specs.Outcomes.{are_octets, has_ascii_names, job_size}
use Rattle.shelf_command.specs.declared.request.Action.{Action}
use Rattle.shelf_command.specs.declared.request.Action.TheVariants.{Help, HelpOn, Run, Version}
use Rattle.shelf_command.specs.declared.word.Word.{Word}
use Rattle.shelf_command.specs.declared.word.Word.TheVariants.{Explain, ExplainJson, Lint, LintJson, LintOrder, Path, Seal, Tbs}
use Rattle.shelf_core.specs.Outcome.{first, ordered_with, rest}
use Rattle.shelf_fault.specs.declared.fault.Fault.{Fault}
use Rattle.shelf_input.specs.Signatures.{signature_in}
use Rattle.shelf_job.specs.Jobs.{IsMessage}
use Rattle.shelf_job.specs.declared.job.Job.{Job}

-- what the job asks for has fewer than 2^60 octets, and the subject's alternative names are ASCII
pub record IsWithin (j : Job) : Type 0 where
  pub size : job_size j < 2 ^ 60
  pub ascii : has_ascii_names j ≡ true

-- a message and a signature are octets, fewer than 2^60 together
pub record AreWithin (message signature : List ℕ) : Type 0 where
  pub message_octets : are_octets message ≡ true
  pub signature_octets : are_octets signature ≡ true
  pub size : length message + length signature < 2 ^ 60

-- so is the job, and its message with the signature, where there is one
pub record IsWithinSigned (given : Result (List ℕ) Fault) (j : Job) : Type 0 where
  pub unsigned : IsWithin j
  pub signed : (message signature : List ℕ) → IsMessage j message → given ≡ Ok signature → AreWithin message signature

-- P holds of the job that an order comes to with its files, where it comes to one
abbrev pub OfJob : (Job → Type 0) → Result Job Fault → Type 0
OfJob P (Ok j) = P j
OfJob P (Err fault) = Unit {0}

-- by the inputs after the subcommand, among which a file of `--revoked` may be
abbrev pub WordIsWithin : Word → Bool → List (List ℕ) → Type 0
WordIsWithin Tbs has_revoked inputs = OfJob IsWithin (ordered_with has_revoked (first inputs) (rest inputs))
WordIsWithin LintOrder has_revoked inputs = OfJob IsWithin (ordered_with has_revoked (first inputs) (rest inputs))
WordIsWithin Seal has_revoked inputs =
    OfJob (IsWithinSigned (signature_in (first (rest inputs)))) (ordered_with has_revoked (first inputs) (rest (rest inputs)))
WordIsWithin Lint has_revoked inputs = Unit {0}
WordIsWithin LintJson has_revoked inputs = Unit {0}
WordIsWithin Explain has_revoked inputs = Unit {0}
WordIsWithin ExplainJson has_revoked inputs = Unit {0}
WordIsWithin Path has_revoked inputs = Unit {0}

abbrev pub IsWithinLimits : Action → Bool → List (List ℕ) → Type 0
IsWithinLimits (Run word) has_revoked inputs = WordIsWithin word has_revoked inputs
IsWithinLimits (HelpOn word) has_revoked inputs = Unit {0}
IsWithinLimits Help has_revoked inputs = Unit {0}
IsWithinLimits Version has_revoked inputs = Unit {0}
