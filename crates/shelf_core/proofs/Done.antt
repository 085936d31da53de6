-- Inputs without a fault are answered with what was asked for.
use Rattle.std.proofs.Common.{◌≡◌, ◌∙◌, ℕ, Bool, false, true, List, [], Result, Ok, ap, if◌then◌else◌, inl, inr, refl, subst, sym}
use Rattle.command_files.specs.Run.{Decides}
use Rattle.command_run.specs.declared.status.Ending.TheVariants as ending
use Rattle.shelf_fault.specs.declared.fault.Fault.{Fault}
use Rattle.shelf_input.specs.Signatures.{signature_in}
use Rattle.shelf_job.specs.Jobs.{IsMessage, broken_rules, key_of, ready}
use Rattle.shelf_job.specs.declared.job.Job.{Job}
use Rattle.shelf_keys.specs.Signatures.{checked}
use Rattle.shelf_path.proofs.Judging.{same_asked}
use Rattle.shelf_path.specs.Asked.{Asked, asked_in}
use Rattle.shelf_path.specs.Verdicts.{IsVerdict, is_valid}
use Rattle.shelf_path.specs.declared.verdict.Verdict.{Verdict}
use Rattle.shelf_core.specs.Explaining.{explained_in, explained_json}
use Rattle.shelf_core.specs.NoFault.{HasNoFault}
use Rattle.shelf_core.specs.Outcome.{Comes, Finds, FindsVerdict, IsAnswer, Looks, OfOrder, OnPass, Outcome, Seals, SealsInto, Tells, done, faulty, first, lint_in, outcome_or_fault, ordered_with, refused, rest, stopped, stops, text_or_fault, unless_stopped, verdict_outcome}
use Rattle.rule_table.specs.declared.rule.Rule.{Rule}
use Rattle.rule_texts.specs.Lines.{finding_lines}
use Rattle.shelf_command.specs.declared.request.Action.{Action}
use Rattle.shelf_command.specs.declared.request.Action.TheVariants.{Help, HelpOn, Run, Version}
use Rattle.shelf_command.specs.declared.word.Word.TheVariants.{Explain, ExplainJson, Lint, LintJson, LintOrder, Path, Seal, Tbs}

-- it is a text
abbrev pub IsText : Outcome → Type 0
IsText (done text told) = Unit {0}
IsText (refused text) = ⊥
IsText (stopped told) = ⊥
IsText (faulty fault) = ⊥

abbrev pub AreTexts : (Outcome → Type 0) → Type 0
AreTexts P = (x : Outcome) → P x → IsText x

decided : (P : Outcome → Type 0) → AreTexts P → Decides (IsAnswer P) ending.Done
decided P all e text complaint (inl d) = d.ending
decided P all e text complaint (inr (inl r)) = absurd (all (refused text) r.comes)
decided P all e text complaint (inr (inr (inl w))) = absurd (all (stopped complaint) w.comes)
decided P all e text complaint (inr (inr (inr f))) = absurd (all (faulty f.fault) f.comes)

is_text : (x y : Outcome) → x ≡ y → IsText y → IsText x
is_text x y e h = subst IsText (sym e) h

on_pass : (p : Result (Unit {0}) Fault) (P : Outcome → Type 0) → p ≡ Ok tt → AreTexts P → AreTexts (OnPass p P)
on_pass p P e all x h = all x (subst (λ (q : Result (Unit {0}) Fault). OnPass q P x) e h)

of_order : (P : Job → Outcome → Type 0) (found : Result Job Fault) (j : Job) → found ≡ Ok j → AreTexts (P j) → AreTexts (OfOrder P found)
of_order P found j e all x h = all x (subst (λ (f : Result Job Fault). OfOrder P f x) e h)

not_stopped : (strict : Bool) (broken : List Rule) (text told : List ℕ) → stops strict broken ≡ false → IsText (unless_stopped strict broken text told)
not_stopped strict broken text told quiet =
    subst (λ (b : Bool). IsText (if b then stopped (finding_lines broken) else done text told)) (sym quiet) tt

abbrev pub IsQuiet : Bool → Job → Type 0
IsQuiet strict j = (message : List ℕ) → IsMessage j message → stops strict (broken_rules j message) ≡ false

tells : (strict : Bool) (j : Job) → ready j ≡ Ok tt → IsQuiet strict j → AreTexts (Tells strict j)
tells strict j r quiet =
    on_pass (ready j) _ r
    (λ x h. is_text x (unless_stopped strict (broken_rules j h.0) h.0 (finding_lines (broken_rules j h.0))) h.2
    (not_stopped strict (broken_rules j h.0) h.0 (finding_lines (broken_rules j h.0)) (quiet h.0 h.1)))

looks : (strict : Bool) (j : Job) → ready j ≡ Ok tt → IsQuiet strict j → AreTexts (Looks strict j)
looks strict j r quiet =
    on_pass (ready j) _ r
    (λ x h. is_text x (unless_stopped strict (broken_rules j h.0) [] (finding_lines (broken_rules j h.0))) h.2
    (not_stopped strict (broken_rules j h.0) [] (finding_lines (broken_rules j h.0)) (quiet h.0 h.1)))

into : (strict is_der : Bool) (j : Job) (signature message : List ℕ) → IsMessage j message → IsQuiet strict j
    → AreTexts (SealsInto strict is_der j signature message)
into strict is_der j signature message m quiet x h =
    is_text x (unless_stopped strict (broken_rules j message) _ []) h.comes (not_stopped strict (broken_rules j message) _ [] (quiet message m))

seals : (strict is_der : Bool) (given : Result (List ℕ) Fault) (signature : List ℕ) (j : Job) → given ≡ Ok signature → ready j ≡ Ok tt → IsQuiet strict j
    → ((message : List ℕ) → IsMessage j message → checked (key_of j) message signature ≡ Ok tt) → AreTexts (Seals strict is_der given j)
seals strict is_der given signature j e r quiet taken x h =
    let known : Seals strict is_der (Ok signature) j x = subst (λ (g : Result (List ℕ) Fault). Seals strict is_der g j x) e h in
    on_pass (ready j) _ r
    (λ y k. on_pass (checked (key_of j) k.0 signature) (SealsInto strict is_der j signature k.0) (taken k.0 k.1)
    (into strict is_der j signature k.0 k.1 quiet) y k.2) x known

explains : (found : Result (List ℕ) Fault) (text : List ℕ) → found ≡ Ok text → AreTexts (λ x. x ≡ text_or_fault found)
explains found text e x h = is_text x (done text []) (h ∙ ap text_or_fault e) tt

lints : (found : Result Outcome Fault) (text : List ℕ) → found ≡ Ok (done text []) → AreTexts (λ x. x ≡ outcome_or_fault found)
lints found text e x h = is_text x (done text []) (h ∙ ap outcome_or_fault e) tt

valid_text : (v : Verdict) → is_valid v ≡ true → IsText (verdict_outcome v)
valid_text v e = rw e tt

finds : (found : Result Asked Fault) (a : Asked) → found ≡ Ok a → ((v : Verdict) → IsVerdict a v → is_valid v ≡ true) → AreTexts (Finds found)
finds found a e valid x h =
    let known : FindsVerdict (Ok a) x = subst (λ (f : Result Asked Fault). Finds f x) e h in
    let v = known.verdict in
    let judged = known.judged in
    is_text x (verdict_outcome v) known.comes
    (valid_text v (valid v (subst (λ (b : Asked). IsVerdict b v) (same_asked judged.0 a (sym judged.1)) judged.2)))

texts : (action : Action) (strict is_der has_revoked : Bool) (inputs : List (List ℕ)) → HasNoFault action strict has_revoked inputs → AreTexts (Comes action strict is_der has_revoked inputs)
texts (Run Tbs) strict is_der has_revoked inputs h =
    of_order (Tells strict) (ordered_with has_revoked (first inputs) (rest inputs)) h.0 h.1.says (tells strict h.0 h.1.ready h.1.quiet)
texts (Run Lint) strict is_der has_revoked inputs h = lints (lint_in false strict inputs) h.0 h.1
texts (Run LintJson) strict is_der has_revoked inputs h = lints (lint_in true strict inputs) h.0 h.1
texts (Run LintOrder) strict is_der has_revoked inputs h =
    of_order (Looks strict) (ordered_with has_revoked (first inputs) (rest inputs)) h.0 h.1.says (looks strict h.0 h.1.ready h.1.quiet)
texts (Run Seal) strict is_der has_revoked inputs h =
    of_order (Seals strict is_der (signature_in (first (rest inputs)))) (ordered_with has_revoked (first inputs) (rest (rest inputs))) h.0 h.1.says
    (seals strict is_der (signature_in (first (rest inputs))) h.2.signature h.0 h.2.read h.1.ready h.1.quiet h.2.taken)
texts (Run Explain) strict is_der has_revoked inputs h = explains (explained_in inputs) h.0 h.1
texts (Run ExplainJson) strict is_der has_revoked inputs h = explains (explained_json inputs) h.0 h.1
texts (Run Path) strict is_der has_revoked inputs h = finds (asked_in (first inputs) (rest inputs)) h.0 h.1 h.2
texts (HelpOn word) strict is_der has_revoked inputs h = λ x e. is_text x (done _ []) e tt
texts Help strict is_der has_revoked inputs h = λ x e. is_text x (done _ []) e tt
texts Version strict is_der has_revoked inputs h = λ x e. is_text x (done _ []) e tt

pub no_fault_is_done : (action : Action) (strict is_der has_revoked : Bool) (inputs : List (List ℕ)) → HasNoFault action strict has_revoked inputs
    → Decides (IsAnswer (Comes action strict is_der has_revoked inputs)) ending.Done
no_fault_is_done action strict is_der has_revoked inputs h = decided (Comes action strict is_der has_revoked inputs) (texts action strict is_der has_revoked inputs h)
