-- What an input comes to.
use Rattle.std.specs.Prelude.{◌≡◌, ℕ, List}
use Rattle.rcgen_text.specs.Causes.{Origin, memory, key, cause, origin_of}
use Rattle.rcgen_text.specs.declared.error.Error.{Error}
use Rattle.toml_format.specs.declared.reason.Reason.{Reason}
use Rattle.command_run.specs.declared.status.Status.{Status}
use Rattle.command_run.specs.declared.status.Status.TheVariants as status
use Rattle.certify_core.specs.Lines.{bad_profile_line, cause_name, key_name, refused_line}
use Rattle.certify_core.specs.declared.refusal.Refusal.{Refusal}
use Rattle.certify_core.specs.declared.refusal.Refusal.TheVariants as refusal

-- the text that a command writes, a reason why the input is none that it takes, or the name of the cause why it can't
-- do what the input asks for
pub data Outcome : Type 0 where
  done : List ℕ → Outcome
  bad_profile : Reason → Outcome
  refused : List ℕ → Outcome

-- the status with which it is answered
abbrev pub status_of : Outcome → Status
status_of (done text) = status.Done
status_of (bad_profile reason) = status.BadProfile
status_of (refused name) = status.Refused

-- why there is no text; memory may run out at any time
abbrev pub HasRefusal : (Outcome → Type 0) → Refusal → Type 0
HasRefusal Gives (refusal.Reason reason) = Gives (bad_profile reason)
HasRefusal Gives (refusal.Cause name) = Gives (refused name)
HasRefusal Gives refusal.OutOfMemory = Unit {0}

-- what an error is as a refusal, by where it comes from
abbrev pub refusal_by : Origin → Refusal
refusal_by memory = refusal.OutOfMemory
refusal_by key = refusal.Cause key_name
refusal_by (cause c) = refusal.Cause (cause_name c)

abbrev pub refusal_of : Error → Refusal
refusal_of e = refusal_by (origin_of e)

-- the text is what is written before the run ends with the status
abbrev pub IsAnswer : (Outcome → Type 0) → Status → List ℕ → Type 0
IsAnswer Gives status.Done text = Gives (done text)
IsAnswer Gives status.BadProfile text = (reason : Reason) × Gives (bad_profile reason) × (text ≡ bad_profile_line reason)
IsAnswer Gives status.Refused text = (name : List ℕ) × Gives (refused name) × (text ≡ refused_line name)
IsAnswer Gives _ text = ⊥

-- one status and one text are answered
abbrev pub HasOneAnswer : (Outcome → Type 0) → Type 0
HasOneAnswer Gives =
    (status other : Status) (text another : List ℕ) → IsAnswer Gives status text → IsAnswer Gives other another
    → (status ≡ other) × (text ≡ another)

-- what decides that a run ends with the status: for success that there is no reason and no cause
abbrev pub Decides : (Outcome → Type 0) → Status → Type 0
Decides Gives status.Done = ((reason : Reason) → ¬ (Gives (bad_profile reason))) × ((name : List ℕ) → ¬ (Gives (refused name)))
Decides Gives status.BadProfile = (reason : Reason) × Gives (bad_profile reason)
Decides Gives status.Refused = (name : List ℕ) × Gives (refused name)
Decides Gives _ = ⊥

-- all that an input comes to is one text, one reason, or the name of one cause
abbrev pub ComesToOne : (Outcome → Type 0) → Type 0
ComesToOne Gives = (o p : Outcome) → Gives o → Gives p → o ≡ p
