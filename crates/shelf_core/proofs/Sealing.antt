-- What `seal` comes to.
use Rattle.std.proofs.Common.{◌≡◌, ◌∙◌, ℕ, Bool, List, [], Ok, ap, subst}
use Rattle.shelf_job.specs.Jobs.{IsMessage, IsSealed, broken_rules, key_of, label, ready}
use Rattle.shelf_job.specs.declared.job.Job.{Job}
use Rattle.shelf_keys.specs.Signatures.{checked}
use Rattle.shelf_core.specs.Outcome.{IsReadBack, Outcome, Seals, SealsInto, SealsOver, sealed_text, unless_stopped}
use Rattle.rule_table.specs.declared.rule.Rule.{Rule}
use Rattle.shelf_core.proofs.Passing.{on_pass}

-- m and n are the message as the steps have it, l the label
pub seals : (strict is_der : Bool) (j : Job) (signature message der text : List ℕ) (broken : List Rule) (m n l : List ℕ) (x : Outcome)
    → ready j ≡ Ok tt → IsMessage j message → m ≡ message → n ≡ message → checked (key_of j) m signature ≡ Ok tt → IsSealed j m signature der
    → l ≡ label j → IsReadBack l der → text ≡ sealed_text is_der l der → broken ≡ broken_rules j n → x ≡ unless_stopped strict broken text []
    → Seals strict is_der (Ok signature) j x
seals strict is_der j signature message der text broken m n l x r is em en c s el back t w e =
    let taken : checked (key_of j) message signature ≡ Ok tt = subst (λ (o : List ℕ). checked (key_of j) o signature ≡ Ok tt) em c in
    let sealed : IsSealed j message signature der = subst (λ (o : List ℕ). IsSealed j o signature der) em s in
    let read_back : IsReadBack (label j) der = subst (λ (o : List ℕ). IsReadBack o der) el back in
    let comes : x ≡ unless_stopped strict (broken_rules j message) (sealed_text is_der (label j) der) [] =
    e ∙ ap (λ (o : List Rule). unless_stopped strict o text []) (w ∙ ap (λ (o : List ℕ). broken_rules j o) en)
    ∙ ap (λ (o : List ℕ). unless_stopped strict (broken_rules j message) o []) (t ∙ ap (λ (o : List ℕ). sealed_text is_der o der) el) in
    on_pass (ready j) (λ y. (o : List ℕ) × IsMessage j o × SealsOver strict is_der j signature o y) x r (
      message,
      is,
      on_pass (checked (key_of j) message signature) (SealsInto strict is_der j signature message) x taken
          (record { der = der; sealed = sealed; read_back = read_back; comes = comes }),
    )
