-- Who holds attributes and who issues them, a line for each field (RFC 5755, 4.2.2 and 4.2.3).
use Rattle.std.specs.Prelude.{◌≡◌, ◌⊎◌, List, None, refl}
use Rattle.std.proofs.Common.{inl, inr}
use Rattle.der_tree.specs.Codec.{Codec, Struct}
use Rattle.der_tree.specs.Grammar.{as_choice, as_struct, either, implicitly, optional, required, sequence, sequence_of, ◌&◌, ◌⊗◌}
use Rattle.der_tree.specs.PrimitiveTypes.{bit_string, integer}
use Rattle.der_tree.specs.Tags.{context, universal}
use Rattle.pkix_name.specs.GeneralNames.{general_name}
use Rattle.pkix_name.specs.declared.general_name.GeneralName.{GeneralName}
use Rattle.pkix_attr.specs.Digests.{object_digest_info}
use Rattle.pkix_attr.specs.declared.holder.Holder.{Holder}
use Rattle.pkix_attr.specs.declared.holder.IssuerSerial.{IssuerSerial}
use Rattle.pkix_attr.specs.declared.holder.Issuer.{Issuer}
use Rattle.pkix_attr.specs.declared.holder.V2Form.{V2Form}
use Rattle.pkix_attr.specs.declared.holder.Issuer.TheVariants.{V1, V2}

unfoldable pub issuer_serial_fields : Struct IssuerSerial
issuer_serial_fields = as_struct (
    required (sequence_of general_name 0 None refl)
    & required integer
    & optional bit_string
    ) refl
    (λ v. v.issuer ⊗ v.serial ⊗ v.issuer_uid)
    (λ issuer serial issuer_uid. record { issuer = issuer; serial = serial; issuer_uid = issuer_uid }) (λ v. refl) (λ f. refl)

abbrev pub issuer_serial : Codec IssuerSerial
issuer_serial = sequence (universal 16) issuer_serial_fields

unfoldable pub holder_fields : Struct Holder
holder_fields = as_struct (
    optional (implicitly (context 0) issuer_serial refl)
    & optional (implicitly (context 1) (sequence_of general_name 0 None refl) refl)
    & optional (implicitly (context 2) object_digest_info refl)
    ) refl
    (λ v. v.base_certificate_id ⊗ v.entity_name ⊗ v.object_digest_info)
    (λ base_certificate_id entity_name object_digest_info. record {
      base_certificate_id = base_certificate_id;
      entity_name = entity_name;
      object_digest_info = object_digest_info;
    })
    (λ v. refl) (λ f. refl)

abbrev pub holder : Codec Holder
holder = sequence (universal 16) holder_fields

unfoldable pub v2_form_fields : Struct V2Form
v2_form_fields = as_struct (
    optional (sequence_of general_name 0 None refl)
    & optional (implicitly (context 0) issuer_serial refl)
    & optional (implicitly (context 1) object_digest_info refl)
    ) refl
    (λ v. v.issuer_name ⊗ v.base_certificate_id ⊗ v.object_digest_info)
    (λ issuer_name base_certificate_id object_digest_info. record {
      issuer_name = issuer_name;
      base_certificate_id = base_certificate_id;
      object_digest_info = object_digest_info;
    })
    (λ v. refl) (λ f. refl)

abbrev pub v2_form : Codec V2Form
v2_form = sequence (universal 16) v2_form_fields

abbrev pub issuer_parts : Issuer → List GeneralName ⊎ V2Form
issuer_parts (V1 v) = inl v
issuer_parts (V2 v) = inr v

abbrev pub issuer_of : List GeneralName ⊎ V2Form → Issuer
issuer_of (inl v) = V1 v
issuer_of (inr v) = V2 v

pub issuer_there : (v : Issuer) → issuer_of (issuer_parts v) ≡ v
issuer_there (V1 v) = refl
issuer_there (V2 v) = refl

pub issuer_back : (p : List GeneralName ⊎ V2Form) → issuer_parts (issuer_of p) ≡ p
issuer_back (inl v) = refl
issuer_back (inr v) = refl

abbrev pub issuer : Codec Issuer
issuer = as_choice (either (sequence_of general_name 0 None refl) (implicitly (context 0) v2_form refl) refl) issuer_parts issuer_of issuer_there issuer_back
