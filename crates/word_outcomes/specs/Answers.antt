-- That each request comes to exactly one outcome, and so has exactly one answer.
use Rattle.std.specs.Prelude.{◌≡◌, ◌⊎◌, ℕ, Bool, List}
use Rattle.command_run.specs.declared.status.Ending.{Ending}
use Rattle.shelf_command.specs.declared.request.Action.{Action}
use Rattle.shelf_core.specs.Outcome.{Comes, IsAnswer, Outcome, faulty}
use Rattle.shelf_fault.specs.declared.fault.Fault.{Fault}
use Rattle.word_outcomes.specs.Limits.{IsWithinLimits}

-- P holds of exactly one outcome
pub record ComesToOne (P : Outcome → Type 0) : Type 0 where
  pub outcome : Outcome
  pub comes : P outcome
  pub no_other : (other : Outcome) → P other → other ≡ outcome

abbrev pub EachRequestHasOneOutcome : Type 0
EachRequestHasOneOutcome =
    (action : Action) (strict is_der has_revoked : Bool) (inputs : List (List ℕ)) → IsWithinLimits action has_revoked inputs
    → ComesToOne (Comes action strict is_der has_revoked inputs)

-- there is an answer, and each answer has its ending, its text and, unless there is a fault, its complaint
pub record HasOneAnswer (P : Outcome → Type 0) : Type 0 where
  pub ending : Ending
  pub text : List ℕ
  pub complaint : List ℕ
  pub is_answer : IsAnswer P ending text complaint
  pub no_other : (e : Ending) (t c : List ℕ) → IsAnswer P e t c
      → (e ≡ ending) × (t ≡ text) × ((c ≡ complaint) ⊎ ((fault : Fault) × P (faulty fault)))

abbrev pub EachRequestHasOneAnswer : Type 0
EachRequestHasOneAnswer =
    (action : Action) (strict is_der has_revoked : Bool) (inputs : List (List ℕ)) → IsWithinLimits action has_revoked inputs
    → HasOneAnswer (Comes action strict is_der has_revoked inputs)
