-- Inputs without a fault.
use Rattle.std.specs.Prelude.{◌≡◌, ℕ, Bool, false, List, [], Result, Ok, true}
use Rattle.shelf_fault.specs.declared.fault.Fault.{Fault}
use Rattle.shelf_job.specs.Jobs.{IsMessage, broken_rules, key_of, ready}
use Rattle.shelf_job.specs.declared.job.Job.{Job}
use Rattle.shelf_keys.specs.Signatures.{checked}
use Rattle.shelf_input.specs.Signatures.{signature_in}
use Rattle.shelf_path.specs.Asked.{Asked, asked_in}
use Rattle.shelf_path.specs.Verdicts.{IsVerdict, is_valid}
use Rattle.shelf_path.specs.declared.verdict.Verdict.{Verdict}
use Rattle.shelf_core.specs.Explaining.{explained_in, explained_json}
use Rattle.shelf_core.specs.Outcome.{done, first, lint_in, ordered_with, rest, stops}
use Rattle.shelf_command.specs.declared.request.Action.{Action}
use Rattle.shelf_command.specs.declared.request.Action.TheVariants.{Help, HelpOn, Run, Version}
use Rattle.shelf_command.specs.declared.word.Word.{Word}
use Rattle.shelf_command.specs.declared.word.Word.TheVariants.{Explain, ExplainJson, Lint, LintJson, LintOrder, Path, Seal, Tbs}

-- the order with what is given beside it is a job that nothing prevents, and of which nothing is noticed where that
-- would be a fault
pub record IsReady (strict : Bool) (ordered : Result Job Fault) (j : Job) : Type 0 where
  pub says : ordered ≡ Ok j
  pub ready : ready j ≡ Ok tt
  pub quiet : (message : List ℕ) → IsMessage j message → stops strict (broken_rules j message) ≡ false

-- the signature of a file is taken over what is to be signed
pub record IsTaken (j : Job) (file : List ℕ) : Type 0 where
  pub signature : List ℕ
  pub read : signature_in file ≡ Ok signature
  pub taken : (message : List ℕ) → IsMessage j message → checked (key_of j) message signature ≡ Ok tt

abbrev pub WordHasNoFault : Word → Bool → Bool → List (List ℕ) → Type 0
WordHasNoFault Tbs strict has_revoked inputs = (j : Job) × IsReady strict (ordered_with has_revoked (first inputs) (rest inputs)) j
WordHasNoFault Lint strict has_revoked inputs = (text : List ℕ) × (lint_in false strict inputs ≡ Ok (done text []))
WordHasNoFault LintJson strict has_revoked inputs = (text : List ℕ) × (lint_in true strict inputs ≡ Ok (done text []))
WordHasNoFault LintOrder strict has_revoked inputs = (j : Job) × IsReady strict (ordered_with has_revoked (first inputs) (rest inputs)) j
WordHasNoFault Seal strict has_revoked inputs =
    (j : Job) × IsReady strict (ordered_with has_revoked (first inputs) (rest (rest inputs))) j × IsTaken j (first (rest inputs))
WordHasNoFault Explain strict has_revoked inputs = (text : List ℕ) × (explained_in inputs ≡ Ok text)
WordHasNoFault ExplainJson strict has_revoked inputs = (text : List ℕ) × (explained_json inputs ≡ Ok text)
WordHasNoFault Path strict has_revoked inputs = (a : Asked) × (asked_in (first inputs) (rest inputs) ≡ Ok a) × ((v : Verdict) → IsVerdict a v → is_valid v ≡ true)

abbrev pub HasNoFault : Action → Bool → Bool → List (List ℕ) → Type 0
HasNoFault (Run word) strict has_revoked inputs = WordHasNoFault word strict has_revoked inputs
HasNoFault (HelpOn word) strict has_revoked inputs = Unit {0}
HasNoFault Help strict has_revoked inputs = Unit {0}
HasNoFault Version strict has_revoked inputs = Unit {0}
