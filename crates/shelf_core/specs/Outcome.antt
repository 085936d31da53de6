-- What a subcommand comes to with its inputs.
use Rattle.std.specs.Prelude.{◌≡◌, ◌⊎◌, ℕ, Bool, false, length, not, true, ◌&&◌, ◌==◌, ◌||◌, if◌then◌else◌, List, [], ◌∷◌, Option, Some, None, Result, Ok, Err}
use Rattle.command_run.specs.declared.status.Ending.{Ending}
use Rattle.command_run.specs.declared.status.Ending.TheVariants as ending
use Rattle.pem.specs.Blocks.{blocks}
use Rattle.pem.specs.Encoding.{Encoding}
use Rattle.pem.specs.Text.{pem_text}
use Rattle.revoked_lines.specs.Orders.{with_revoked}
use Rattle.shelf_fault.specs.Faults.{and_then}
use Rattle.shelf_fault.specs.declared.fault.Fault.{Fault}
use Rattle.shelf_fault.specs.declared.fault.Fault.TheVariants as fault
use Rattle.shelf_input.specs.Blocks.{blocks_in}
use Rattle.shelf_input.specs.Files.{files_blocks}
use Rattle.shelf_input.specs.Orders.{order_in}
use Rattle.shelf_input.specs.Signatures.{signature_in}
use Rattle.shelf_job.specs.Jobs.{IsMessage, IsSealed, broken_rules, job_of, key_of, label, ready}
use Rattle.shelf_job.specs.declared.job.Job.{Job}
use Rattle.shelf_keys.specs.Signatures.{checked}
use Rattle.shelf_path.specs.Asked.{Asked, asked_in}
use Rattle.shelf_path.specs.Verdicts.{Judges, is_valid, verdict_text}
use Rattle.shelf_path.specs.declared.verdict.Verdict.{Verdict}
use Rattle.rule_table.specs.declared.rule.Rule.{Rule}
use Rattle.rule_texts.specs.Errors.{has_error}
use Rattle.rule_texts.specs.Lines.{finding_lines}
use Rattle.lint_files.specs.Findings.{findings_in, has_error as has_error_finding}
use Rattle.lint_files.specs.Json.{findings_json}
use Rattle.lint_files.specs.Lines.{finding_lines as located_lines}
use Rattle.lint_files.specs.Locations.{LocatedView}
use Rattle.shelf_core.specs.Explaining.{explained_in, explained_json}
use Rattle.shelf_core.specs.Texts.{help_text, version_text, word_help}
use Rattle.shelf_core.specs.declared.answer.Text.{Text}
use Rattle.shelf_core.specs.declared.answer.Text.TheVariants.{Done, Refused, Stopped}
use Rattle.shelf_command.specs.declared.request.Action.{Action}
use Rattle.shelf_command.specs.declared.request.Action.TheVariants.{Help, HelpOn, Run, Version}
use Rattle.shelf_command.specs.declared.word.Word.{Word}
use Rattle.shelf_command.specs.declared.word.Word.TheVariants.{Explain, ExplainJson, Lint, LintJson, LintOrder, Path, Seal, Tbs}

-- ---- inputs by their places: one that isn't there is an empty one

abbrev pub first : List (List ℕ) → List ℕ
first [] = []
first (x ∷ xs) = x

abbrev pub rest : List (List ℕ) → List (List ℕ)
rest [] = []
rest (x ∷ xs) = xs

-- ---- what the inputs say

-- what an order comes to with the entries of a file of `--revoked`, where one is given, and with the blocks of files
unfoldable pub ordered_in : List ℕ → Option (List ℕ) → List (List ℕ) → Result Job Fault
ordered_in order revoked files =
    and_then (order_in order) (λ own. and_then (with_revoked own revoked) (λ o. and_then (blocks_in files) (λ blocks. job_of o blocks)))

-- the same of the inputs after an order and a signature: the file of `--revoked`, where it is among them, and the files
abbrev pub ordered_with : Bool → List ℕ → List (List ℕ) → Result Job Fault
ordered_with false order inputs = ordered_in order None inputs
ordered_with true order inputs = ordered_in order (Some (first inputs)) (rest inputs)

-- ---- what it comes to

-- a text and its notes; that it isn't so; the rules that stop it; or the first fault
pub data Outcome : Type 0 where
  done : List ℕ → List ℕ → Outcome
  refused : List ℕ → Outcome
  stopped : List ℕ → Outcome
  faulty : Fault → Outcome

-- that of what is written
abbrev pub outcome : Text → Outcome
outcome (Done text told) = done text.items told.items
outcome (Refused text) = refused text.items
outcome (Stopped told) = stopped told.items

-- an order stops at an error, and where it is strict at a warning too
abbrev pub stops : Bool → List Rule → Bool
stops strict broken = has_error broken || (strict && not (length broken == 0))

-- the text with its notes, unless the broken rules stop the order
abbrev pub unless_stopped : Bool → List Rule → List ℕ → List ℕ → Outcome
unless_stopped strict broken text told = if stops strict broken then stopped (finding_lines broken) else done text told

-- what P says where a step passes, or its fault
abbrev pub OnPass : Result (Unit {0}) Fault → (Outcome → Type 0) → Outcome → Type 0
OnPass (Ok u) P x = P x
OnPass (Err f) P x = x ≡ faulty f

-- the message is what is to be signed for the job, and P says what comes of it
abbrev pub OfMessage : Job → (List ℕ → Outcome → Type 0) → Outcome → Type 0
OfMessage j P = OnPass (ready j) (λ x. (message : List ℕ) × IsMessage j message × P message x)

-- `tbs`: the message, and beside it a line for each rule that it breaks
abbrev pub Tells : Bool → Job → Outcome → Type 0
Tells strict j = OfMessage j (λ message x. x ≡ unless_stopped strict (broken_rules j message) message (finding_lines (broken_rules j message)))

-- `lint` with an order: no text, and the same lines
abbrev pub Looks : Bool → Job → Outcome → Type 0
Looks strict j = OfMessage j (λ message x. x ≡ unless_stopped strict (broken_rules j message) [] (finding_lines (broken_rules j message)))

-- what is issued, as DER or as PEM
abbrev pub sealed_text : Bool → List ℕ → List ℕ → List ℕ
sealed_text true label der = der
sealed_text false label der = pem_text label der

-- in the PEM that one block is read (RFC 7468, 2)
abbrev pub IsReadBack : List ℕ → List ℕ → Type 0
IsReadBack label der = blocks (pem_text label der) ≡ Ok (record { label = label; octets = der } ∷ [])

-- what is issued over a message with a signature, and nothing beside it
pub record SealsInto (strict is_der : Bool) (j : Job) (signature message : List ℕ) (x : Outcome) : Type 0 where
  pub der : List ℕ
  pub sealed : IsSealed j message signature der
  pub read_back : IsReadBack (label j) der
  pub comes : x ≡ unless_stopped strict (broken_rules j message) (sealed_text is_der (label j) der) []

-- where the signature is taken over the message
abbrev pub SealsOver : Bool → Bool → Job → List ℕ → List ℕ → Outcome → Type 0
SealsOver strict is_der j signature message = OnPass (checked (key_of j) message signature) (SealsInto strict is_der j signature message)

-- `seal`
abbrev pub Seals : Bool → Bool → Result (List ℕ) Fault → Job → Outcome → Type 0
Seals strict is_der (Ok signature) j = OfMessage j (SealsOver strict is_der j signature)
Seals strict is_der (Err fault) j = λ x. x ≡ faulty fault

-- what comes of an order, or its fault
abbrev pub OfOrder : (Job → Outcome → Type 0) → Result Job Fault → Outcome → Type 0
OfOrder Comes (Ok j) x = Comes j x
OfOrder Comes (Err fault) x = x ≡ faulty fault

-- a text, or a fault
abbrev pub text_or_fault : Result (List ℕ) Fault → Outcome
text_or_fault (Ok text) = done text []
text_or_fault (Err fault) = faulty fault

-- `lint` is refused if a finding is an error, or with `--strict` if there is one
abbrev pub is_wrong : Bool → List LocatedView → Bool
is_wrong strict found = has_error_finding found || (strict && not (length found == 0))

-- lines, or JSON
abbrev pub lint_text : Bool → List LocatedView → List ℕ
lint_text false found = located_lines found
lint_text true found = findings_json found

abbrev pub lint_outcome : Bool → Bool → List LocatedView → Outcome
lint_outcome is_json strict found = if is_wrong strict found then refused (lint_text is_json found) else done (lint_text is_json found) []

-- of blocks, of which there is one
abbrev pub lint_blocks : Bool → Bool → List Encoding → Result Outcome Fault
lint_blocks is_json strict [] = Err fault.NoBlock
lint_blocks is_json strict (e ∷ es) = Ok (lint_outcome is_json strict (findings_in (e ∷ es)))

-- of the blocks of files
unfoldable pub lint_in : Bool → Bool → List (List ℕ) → Result Outcome Fault
lint_in is_json strict files = and_then (files_blocks 0 [] files) (lint_blocks is_json strict)

-- an outcome, or a fault
abbrev pub outcome_or_fault : Result Outcome Fault → Outcome
outcome_or_fault (Ok x) = x
outcome_or_fault (Err fault) = faulty fault

-- `path`: the verdict on the path that is asked about, which is done only where the path is valid
abbrev pub verdict_outcome : Verdict → Outcome
verdict_outcome v = if is_valid v then done (verdict_text v) [] else refused (verdict_text v)

pub record FindsVerdict (found : Result Asked Fault) (x : Outcome) : Type 0 where
  pub verdict : Verdict
  pub judged : Judges found (Ok verdict)
  pub comes : x ≡ verdict_outcome verdict

abbrev pub Finds : Result Asked Fault → Outcome → Type 0
Finds (Ok a) = FindsVerdict (Ok a)
Finds (Err fault) = λ x. x ≡ faulty fault

-- ---- what is asked comes to

-- a subcommand, by its order or question, the signature, the file of `--revoked` and the files; `lint` and `explain` have files alone
abbrev pub Gives : Word → Bool → Bool → Bool → List (List ℕ) → Outcome → Type 0
Gives Tbs strict is_der has_revoked inputs = OfOrder (Tells strict) (ordered_with has_revoked (first inputs) (rest inputs))
Gives Seal strict is_der has_revoked inputs =
    OfOrder (Seals strict is_der (signature_in (first (rest inputs)))) (ordered_with has_revoked (first inputs) (rest (rest inputs)))
Gives LintOrder strict is_der has_revoked inputs = OfOrder (Looks strict) (ordered_with has_revoked (first inputs) (rest inputs))
Gives Lint strict is_der has_revoked inputs = λ x. x ≡ outcome_or_fault (lint_in false strict inputs)
Gives LintJson strict is_der has_revoked inputs = λ x. x ≡ outcome_or_fault (lint_in true strict inputs)
Gives Explain strict is_der has_revoked inputs = λ x. x ≡ text_or_fault (explained_in inputs)
Gives ExplainJson strict is_der has_revoked inputs = λ x. x ≡ text_or_fault (explained_json inputs)
Gives Path strict is_der has_revoked inputs = Finds (asked_in (first inputs) (rest inputs))

-- whether warnings are errors, DER is written, and a file of `--revoked` is among the inputs
abbrev pub Comes : Action → Bool → Bool → Bool → List (List ℕ) → Outcome → Type 0
Comes (Run word) strict is_der has_revoked inputs = Gives word strict is_der has_revoked inputs
Comes (HelpOn word) strict is_der has_revoked inputs = λ x. x ≡ done (word_help word) []
Comes Help strict is_der has_revoked inputs = λ x. x ≡ done help_text []
Comes Version strict is_der has_revoked inputs = λ x. x ≡ done version_text []

-- no inputs come to two
abbrev pub HasOneOutcome : Action → Bool → Bool → Bool → List (List ℕ) → Type 0
HasOneOutcome action strict is_der has_revoked inputs =
    (x y : Outcome) → Comes action strict is_der has_revoked inputs x → Comes action strict is_der has_revoked inputs y → x ≡ y

-- ---- how it is answered

-- the inputs aren't ones that the subcommand takes, or else what they ask for can't be done
abbrev pub ending_of : Fault → Ending
ending_of (fault.Blocks refusal) = ending.BadProfile
ending_of fault.NoBlock = ending.BadProfile
ending_of (fault.NoBlockIn number) = ending.BadProfile
ending_of (fault.NotCertificate number) = ending.BadProfile
ending_of (fault.NotList number) = ending.BadProfile
ending_of (fault.OtherLabel number) = ending.BadProfile
ending_of (fault.Repeated label) = ending.BadProfile
ending_of (fault.Missing label) = ending.BadProfile
ending_of (fault.Unused label) = ending.BadProfile
ending_of (fault.Order reason) = ending.BadProfile
ending_of fault.RevokedUnused = ending.BadProfile
ending_of fault.RevokedText = ending.BadProfile
ending_of (fault.RevokedLine number what) = ending.BadProfile
ending_of _ = ending.Refused

-- the text is written with this ending, and its notes are the complaint
pub record IsDone (Comes : Outcome → Type 0) (e : Ending) (text complaint : List ℕ) : Type 0 where
  pub ending : e ≡ ending.Done
  pub comes : Comes (done text complaint)

-- that it isn't so is written as an answer
pub record IsRefused (Comes : Outcome → Type 0) (e : Ending) (text complaint : List ℕ) : Type 0 where
  pub ending : e ≡ ending.Refused
  pub comes : Comes (refused text)
  pub no_complaint : complaint ≡ []

-- nothing is written beside the lines of the rules that stop it
pub record IsStopped (Comes : Outcome → Type 0) (e : Ending) (text complaint : List ℕ) : Type 0 where
  pub ending : e ≡ ending.Refused
  pub comes : Comes (stopped complaint)
  pub no_text : text ≡ []

-- nothing is written beside a fault, whose message is free
pub record IsFaulty (Comes : Outcome → Type 0) (e : Ending) (text : List ℕ) : Type 0 where
  pub fault : Fault
  pub comes : Comes (faulty fault)
  pub ending : e ≡ ending_of fault
  pub no_text : text ≡ []

abbrev pub IsAnswer : (Outcome → Type 0) → Ending → List ℕ → List ℕ → Type 0
IsAnswer Comes e text complaint = IsDone Comes e text complaint ⊎ IsRefused Comes e text complaint ⊎ IsStopped Comes e text complaint ⊎ IsFaulty Comes e text
