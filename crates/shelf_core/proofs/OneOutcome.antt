-- The inputs come to one outcome.
use Rattle.std.proofs.Common.{◌≡◌, ◌∙◌, ℕ, Bool, List, [], Result, Ok, Err, ap, subst, sym}
use Rattle.shelf_fault.specs.declared.fault.Fault.{Fault}
use Rattle.shelf_job.specs.Jobs.{IsMessage, broken_rules, key_of, label, ready}
use Rattle.shelf_job.specs.Once.{HasOneDer, HasOneMessage}
use Rattle.shelf_job.specs.declared.job.Job.{Job}
use Rattle.shelf_keys.specs.Signatures.{checked}
use Rattle.shelf_input.specs.Signatures.{signature_in}
use Rattle.shelf_path.specs.Asked.{Asked, asked_in}
use Rattle.shelf_path.specs.Verdicts.{Judges}
use Rattle.shelf_path.specs.declared.verdict.Verdict.{Verdict}
use Rattle.shelf_core.specs.Outcome.{Finds, HasOneOutcome, Looks, OfMessage, OfOrder, OnPass, Outcome, Seals, SealsInto, SealsOver, Tells, first, ordered_with, rest, sealed_text, unless_stopped, verdict_outcome}
use Rattle.rule_texts.specs.Lines.{finding_lines}
use Rattle.shelf_command.specs.declared.request.Action.{Action}
use Rattle.shelf_command.specs.declared.request.Action.TheVariants.{Help, HelpOn, Run, Version}
use Rattle.shelf_command.specs.declared.word.Word.TheVariants.{Explain, ExplainJson, Lint, LintJson, LintOrder, Path, Seal, Tbs}

-- of what P says of there is one
abbrev pub IsOnce : (Outcome → Type 0) → Type 0
IsOnce P = (x y : Outcome) → P x → P y → x ≡ y

pub on_pass_once : (p : Result (Unit {0}) Fault) (P : Outcome → Type 0) → IsOnce P → IsOnce (OnPass p P)
on_pass_once (Ok u) P once = once
on_pass_once (Err f) P once = λ x y h k. h ∙ sym k

pub of_message_once : HasOneMessage → (j : Job) (P : List ℕ → Outcome → Type 0)
    → ((m n : List ℕ) (x y : Outcome) → m ≡ n → P m x → P n y → x ≡ y) → IsOnce (OfMessage j P)
of_message_once once j P one =
    on_pass_once (ready j) (λ x. (message : List ℕ) × IsMessage j message × P message x)
    (λ x y h k. one h.0 k.0 x y (once j h.0 k.0 h.1 k.1) h.2 k.2)

tells_once : HasOneMessage → (strict : Bool) (j : Job) → IsOnce (Tells strict j)
tells_once once strict j =
    of_message_once once j (λ message x. x ≡ unless_stopped strict (broken_rules j message) message (finding_lines (broken_rules j message)))
    (λ m n x y e h k. h ∙ ap (λ (o : List ℕ). unless_stopped strict (broken_rules j o) o (finding_lines (broken_rules j o))) e ∙ sym k)

looks_once : HasOneMessage → (strict : Bool) (j : Job) → IsOnce (Looks strict j)
looks_once once strict j =
    of_message_once once j (λ message x. x ≡ unless_stopped strict (broken_rules j message) [] (finding_lines (broken_rules j message)))
    (λ m n x y e h k. h ∙ ap (λ (o : List ℕ). unless_stopped strict (broken_rules j o) [] (finding_lines (broken_rules j o))) e ∙ sym k)

into_once : HasOneDer → (strict is_der : Bool) (j : Job) (signature m : List ℕ) → IsOnce (SealsInto strict is_der j signature m)
into_once once strict is_der j signature m x y h k =
    h.comes
    ∙ ap (λ (d : List ℕ). unless_stopped strict (broken_rules j m) (sealed_text is_der (label j) d) []) (once j signature m m h.der k.der h.sealed k.sealed)
    ∙ sym k.comes

over_once : HasOneDer → (strict is_der : Bool) (j : Job) (signature m : List ℕ) → IsOnce (SealsOver strict is_der j signature m)
over_once once strict is_der j signature m =
    on_pass_once (checked (key_of j) m signature) (SealsInto strict is_der j signature m) (into_once once strict is_der j signature m)

seals_once : HasOneMessage → HasOneDer → (strict is_der : Bool) (given : Result (List ℕ) Fault) (j : Job) → IsOnce (Seals strict is_der given j)
seals_once once der strict is_der (Ok signature) j =
    of_message_once once j (SealsOver strict is_der j signature)
    (λ m n x y e h k. over_once der strict is_der j signature n x y (subst (λ (o : List ℕ). SealsOver strict is_der j signature o x) e h) k)
seals_once once der strict is_der (Err fault) j = λ x y h k. h ∙ sym k

abbrev pub HasOneVerdict : Type 0
HasOneVerdict = (found : Result Asked Fault) (v w : Verdict) → Judges found (Ok v) → Judges found (Ok w) → v ≡ w

finds_once : HasOneVerdict → (found : Result Asked Fault) → IsOnce (Finds found)
finds_once once (Ok a) = λ x y h k. h.comes ∙ ap verdict_outcome (once (Ok a) h.verdict k.verdict h.judged k.judged) ∙ sym k.comes
finds_once once (Err fault) = λ x y h k. h ∙ sym k

of_order : (Comes : Job → Outcome → Type 0) → ((j : Job) → IsOnce (Comes j)) → (found : Result Job Fault) → IsOnce (OfOrder Comes found)
of_order Comes once (Ok j) = once j
of_order Comes once (Err fault) = λ x y h k. h ∙ sym k

pub one_outcome : HasOneMessage → HasOneDer → HasOneVerdict → (action : Action) (strict is_der has_revoked : Bool) (inputs : List (List ℕ))
    → HasOneOutcome action strict is_der has_revoked inputs
one_outcome once der verdict (Run Tbs) strict is_der has_revoked inputs = of_order (Tells strict) (tells_once once strict) (ordered_with has_revoked (first inputs) (rest inputs))
one_outcome once der verdict (Run Lint) strict is_der has_revoked inputs = λ x y h k. h ∙ sym k
one_outcome once der verdict (Run LintJson) strict is_der has_revoked inputs = λ x y h k. h ∙ sym k
one_outcome once der verdict (Run LintOrder) strict is_der has_revoked inputs = of_order (Looks strict) (looks_once once strict) (ordered_with has_revoked (first inputs) (rest inputs))
one_outcome once der verdict (Run Seal) strict is_der has_revoked inputs =
    of_order (Seals strict is_der (signature_in (first (rest inputs)))) (seals_once once der strict is_der (signature_in (first (rest inputs))))
    (ordered_with has_revoked (first inputs) (rest (rest inputs)))
one_outcome once der verdict (Run Explain) strict is_der has_revoked inputs = λ x y h k. h ∙ sym k
one_outcome once der verdict (Run ExplainJson) strict is_der has_revoked inputs = λ x y h k. h ∙ sym k
one_outcome once der verdict (Run Path) strict is_der has_revoked inputs = finds_once verdict (asked_in (first inputs) (rest inputs))
one_outcome once der verdict (HelpOn word) strict is_der has_revoked inputs = λ x y h k. h ∙ sym k
one_outcome once der verdict Help strict is_der has_revoked inputs = λ x y h k. h ∙ sym k
one_outcome once der verdict Version strict is_der has_revoked inputs = λ x y h k. h ∙ sym k
