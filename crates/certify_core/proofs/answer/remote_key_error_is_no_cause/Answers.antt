use Rattle.std.specs.Prelude.{◌≡◌, ◌≢◌, ℕ, true, false, nat_eq, List, refl}
use Rattle.std.specs.Cmp.Lexicographic.{pointwise}
use Rattle.std.proofs.Common.{ap, sym, ◌∙◌}
use Rattle.std.proofs.lemmas.Cmp.{nat_list_eq_equiv}
use Rattle.rcgen_text.specs.Causes.{Cause, not_certificate, not_request, request_signature, name_type, printable_text, universal_text, ia5_text, teletex_text, bmp_text}
use Rattle.rcgen_text.specs.Causes.{address_length, unsupported_extension, unsupported_algorithm, time, unsupported_in_csr, next_update, not_crl_signer, empty_uris}
use Rattle.rcgen_text.specs.Causes.{x509, identifier, attribute_values}
use Rattle.attr_issue.specs.AttributeCauses.{AttributeCause, no_attributes, refused, repeated_attribute}
use Rattle.certify_core.specs.AttributeRefusals.{attribute_cause_name}
use Rattle.certify_core.specs.Lines.{cause_name, key_name}
use Rattle.certify_core.proofs.answer.remote_key_error_is_no_cause.Goals as goal

true_false : true ≡ false → ⊥
true_false e = cc

another : (name : List ℕ) → pointwise nat_eq name key_name ≡ false → name ≢ key_name
another name d e = true_false (sym (ap (λ (n : List ℕ). pointwise nat_eq n key_name) e ∙ nat_list_eq_equiv.refl key_name) ∙ d)

differs : (c : Cause) → pointwise nat_eq (cause_name c) key_name ≡ false
differs not_certificate = refl
differs not_request = refl
differs request_signature = refl
differs name_type = refl
differs (printable_text text) = refl
differs (universal_text text) = refl
differs (ia5_text text) = refl
differs (teletex_text text) = refl
differs (bmp_text text) = refl
differs (address_length n) = refl
differs unsupported_extension = refl
differs unsupported_algorithm = refl
differs time = refl
differs unsupported_in_csr = refl
differs next_update = refl
differs not_crl_signer = refl
differs empty_uris = refl
differs (x509 text) = refl
differs identifier = refl
differs attribute_values = refl

attribute_differs : (c : AttributeCause) → pointwise nat_eq (attribute_cause_name c) key_name ≡ false
attribute_differs no_attributes = refl
attribute_differs repeated_attribute = refl
attribute_differs (refused c) = differs c

pub returns : goal.returns
returns c = record {
  causes = λ c. another (cause_name c) (differs c);
  attribute_causes = λ c. another (attribute_cause_name c) (attribute_differs c);
}
