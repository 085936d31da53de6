-- Each request comes to exactly one outcome.
use Rattle.std.specs.Prelude.{ℕ, Bool, false, true, List, [], refl}
use Rattle.outcomes.specs.Outcomes.{EachJobHasOneMessage, EachSignatureHasOneResult}
use Rattle.outcomes.specs.Times.{EachInstantIsCivil}
use Rattle.pem.specs.RoundTrip.{ReadBack}
use Rattle.shelf_command.specs.declared.request.Action.{Action}
use Rattle.shelf_command.specs.declared.request.Action.TheVariants.{Help, HelpOn, Run, Version}
use Rattle.shelf_command.specs.declared.word.Word.{Word}
use Rattle.shelf_command.specs.declared.word.Word.TheVariants.{Explain, ExplainJson, Lint, LintJson, LintOrder, Path, Seal, Tbs}
use Rattle.shelf_core.specs.Explaining.{explained_in, explained_json}
use Rattle.shelf_core.specs.Outcome.{Comes, Gives, HasOneOutcome, Looks, Seals, Tells, done, first, lint_in, ordered_with, outcome_or_fault, rest, text_or_fault}
use Rattle.shelf_core.specs.Texts.{help_text, version_text, word_help}
use Rattle.shelf_input.specs.Signatures.{signature_in}
use Rattle.shelf_path.specs.Asked.{asked_in}
use Rattle.word_outcomes.specs.Answers.{EachRequestHasOneOutcome}
use Rattle.word_outcomes.specs.Limits.{IsWithin, IsWithinLimits, IsWithinSigned, WordIsWithin}
use Rattle.word_outcomes.proofs.Orders.{looked, sealed, told}
use Rattle.word_outcomes.proofs.Questions.{asked_time, found}
use Rattle.word_outcomes.proofs.There.{There, of_order}

by_word : EachJobHasOneMessage → EachSignatureHasOneResult → ReadBack → EachInstantIsCivil → (word : Word) (strict is_der has_revoked : Bool)
    (inputs : List (List ℕ)) → WordIsWithin word has_revoked inputs → There (Gives word strict is_der has_revoked inputs)
by_word one results back civil Tbs strict is_der has_revoked inputs w =
    of_order (Tells strict) IsWithin (told one strict) (ordered_with has_revoked (first inputs) (rest inputs)) w
by_word one results back civil Seal strict is_der has_revoked inputs w =
    let given = signature_in (first (rest inputs)) in
    of_order (Seals strict is_der given) (IsWithinSigned given) (sealed one results back strict is_der given)
    (ordered_with has_revoked (first inputs) (rest (rest inputs))) w
by_word one results back civil LintOrder strict is_der has_revoked inputs w =
    of_order (Looks strict) IsWithin (looked one strict) (ordered_with has_revoked (first inputs) (rest inputs)) w
by_word one results back civil Lint strict is_der has_revoked inputs w = (outcome_or_fault (lint_in false strict inputs), refl)
by_word one results back civil LintJson strict is_der has_revoked inputs w = (outcome_or_fault (lint_in true strict inputs), refl)
by_word one results back civil Explain strict is_der has_revoked inputs w = (text_or_fault (explained_in inputs), refl)
by_word one results back civil ExplainJson strict is_der has_revoked inputs w = (text_or_fault (explained_json inputs), refl)
by_word one results back civil Path strict is_der has_revoked inputs w =
    found civil (asked_in (first inputs) (rest inputs)) (asked_time (first inputs) (rest inputs))

by_action : EachJobHasOneMessage → EachSignatureHasOneResult → ReadBack → EachInstantIsCivil → (action : Action) (strict is_der has_revoked : Bool)
    (inputs : List (List ℕ)) → IsWithinLimits action has_revoked inputs → There (Comes action strict is_der has_revoked inputs)
by_action one results back civil (Run word) strict is_der has_revoked inputs w = by_word one results back civil word strict is_der has_revoked inputs w
by_action one results back civil (HelpOn word) strict is_der has_revoked inputs w = (done (word_help word) [], refl)
by_action one results back civil Help strict is_der has_revoked inputs w = (done help_text [], refl)
by_action one results back civil Version strict is_der has_revoked inputs w = (done version_text [], refl)

pub one_each : ((action : Action) (strict is_der has_revoked : Bool) (inputs : List (List ℕ)) → HasOneOutcome action strict is_der has_revoked inputs)
    → EachJobHasOneMessage → EachSignatureHasOneResult → ReadBack → EachInstantIsCivil → EachRequestHasOneOutcome
one_each once one results back civil action strict is_der has_revoked inputs w =
    let x = by_action one results back civil action strict is_der has_revoked inputs w in
    record { outcome = x.0; comes = x.1; no_other = λ y h. once action strict is_der has_revoked inputs y x.0 h x.1 }
