-- Why nothing is imported.
use Rattle.std.specs.Prelude.{◌≡◌, ℕ, true, false, List, Option, Some, None}
use Rattle.std.proofs.Common.{ap, sym, ◌∙◌}
use Rattle.std.proofs.lemmas.Bool.{false≢true}
use Rattle.asn1_core.specs.Binds.{some_is}
use Rattle.der_tree.specs.Form.{value_of}
use Rattle.pkix_attr.specs.Certificates.{attribute_certificate_info}
use Rattle.pkix_cert.specs.Views.{certificate_parts}
use Rattle.register_steps.proofs.SealedOnce.{same_opened}
use Rattle.register_steps.specs.Import.{ExplainsImport, IsImported, is_named}
use Rattle.register_steps.specs.Messages.{described}
use Rattle.register_steps.specs.Sealing.{ExplainsOpen, IsOpened}
use Rattle.register_steps.specs.declared.import.ImportedEvents.{ImportedEvents}
use Rattle.register_steps.specs.declared.message.Description.{Description}
use Rattle.register_steps.specs.declared.sealing.SealError.{SealError}
use Rattle.register_steps.specs.declared.sealing.SealError.TheVariants as seal

pub not_opened : (issuer octets : List ℕ) (e : SealError) → ExplainsOpen issuer octets e → ExplainsImport issuer octets e
not_opened issuer octets seal.NoIssuer why = λ i k. why k.message k.opened
not_opened issuer octets seal.NotMessage why = λ i k. why k.message k.opened
not_opened issuer octets seal.WrongSignature why = λ i k. why k.message k.opened
not_opened issuer octets seal.OtherIssuer why = λ i k. why k.message k.opened
not_opened issuer octets seal.OutOfMemory why = tt

some_says : {A : Type 0} (o : Option A) (v : A) → o ≡ None → o ≡ Some v → ⊥
some_says None v e f = absurd cc
some_says (Some w) v e f = absurd cc

pub says_nothing : (issuer octets message : List ℕ) → IsOpened issuer octets message → described message ≡ None → (i : ImportedEvents) → IsImported issuer octets i → ⊥
says_nothing issuer octets message h e i k =
    some_says (described message) k.says e (ap described (same_opened issuer octets message k.message h k.opened) ∙ k.says_is)

-- one message says one thing
named_as : (issuer octets m n : List ℕ) (d e : Description) → m ≡ n → d ≡ e
    → is_named d.kind (certificate_parts issuer) (certificate_parts octets) (value_of attribute_certificate_info m) ≡ false
    → is_named e.kind (certificate_parts issuer) (certificate_parts octets) (value_of attribute_certificate_info n) ≡ true → ⊥
named_as issuer octets m n d e one same none there =
    false≢true (
    sym none
    ∙ ap (λ (x : Description). is_named x.kind (certificate_parts issuer) (certificate_parts octets) (value_of attribute_certificate_info m)) same
    ∙ ap (λ (x : List ℕ). is_named e.kind (certificate_parts issuer) (certificate_parts octets) (value_of attribute_certificate_info x)) one
    ∙ there
    )

pub other_issuer : (issuer octets message : List ℕ) (says : Description) → IsOpened issuer octets message → described message ≡ Some says
    → is_named says.kind (certificate_parts issuer) (certificate_parts octets) (value_of attribute_certificate_info message) ≡ false
    → (i : ImportedEvents) → IsImported issuer octets i → ⊥
other_issuer issuer octets message says h e none i k =
    let one = same_opened issuer octets message k.message h k.opened in
    named_as issuer octets message k.message says k.says one (some_is says k.says (sym e ∙ ap described one ∙ k.says_is)) none k.named
