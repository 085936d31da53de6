-- `tbs` and `seal` with one order and the same files.
use Rattle.std.specs.Prelude.{◌≡◌, ℕ, Bool, List, ◌∷◌, Ok}
use Rattle.shelf_input.specs.Signatures.{signature_in}
use Rattle.shelf_job.specs.declared.job.Job.{Job}
use Rattle.shelf_core.specs.Outcome.{Gives, Outcome, SealsOver, done, ordered_with}
use Rattle.shelf_command.specs.declared.word.Word.TheVariants.{Seal, Tbs}

-- whatever is handed in as the signature: what `seal` comes to, it comes to over the message that `tbs` wrote
abbrev pub HasOneMessageForBoth : Type 0
HasOneMessageForBoth =
    (strict strict' is_der has_revoked : Bool) (order file signature message told : List ℕ) (inputs : List (List ℕ)) (j : Job) (x : Outcome)
    → Gives Tbs strict' is_der has_revoked (order ∷ inputs) (done message told) → Gives Seal strict is_der has_revoked (order ∷ file ∷ inputs) x
    → ordered_with has_revoked order inputs ≡ Ok j → signature_in file ≡ Ok signature → SealsOver strict is_der j signature message x
