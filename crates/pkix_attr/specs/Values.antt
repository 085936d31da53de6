-- Values of attributes, a line for each field (RFC 5755, 4.4).
use Rattle.std.specs.Prelude.{◌≡◌, ◌⊎◌, ℕ, List, None, refl}
use Rattle.std.proofs.Common.{inl, inr}
use Rattle.asn1_core.specs.StringTypes.{utf8}
use Rattle.der_tree.specs.CharacterStrings.{text}
use Rattle.der_tree.specs.Codec.{Codec, Struct}
use Rattle.der_tree.specs.Grammar.{as_choice, as_struct, either, explicitly, implicitly, optional, required, sequence, sequence_of, ◌&◌, ◌⊗◌}
use Rattle.der_tree.specs.PrimitiveTypes.{object_identifier, octet_string}
use Rattle.der_tree.specs.Tags.{context, universal}
use Rattle.pkix_name.specs.GeneralNames.{general_name}
use Rattle.pkix_attr.specs.declared.value.IetfAttrSyntax.{IetfAttrSyntax}
use Rattle.pkix_attr.specs.declared.value.IetfAttrSyntaxValue.{IetfAttrSyntaxValue}
use Rattle.pkix_attr.specs.declared.value.SvceAuthInfo.{SvceAuthInfo}
use Rattle.pkix_attr.specs.declared.value.RoleSyntax.{RoleSyntax}
use Rattle.pkix_attr.specs.declared.value.IetfAttrSyntaxValue.TheVariants.{Octets, Oid, String}

abbrev pub ietf_attr_syntax_value_parts : IetfAttrSyntaxValue → List ℕ ⊎ (List ℕ ⊎ List ℕ)
ietf_attr_syntax_value_parts (Octets v) = inl v
ietf_attr_syntax_value_parts (Oid v) = inr (inl v)
ietf_attr_syntax_value_parts (String v) = inr (inr v)

abbrev pub ietf_attr_syntax_value_of : List ℕ ⊎ (List ℕ ⊎ List ℕ) → IetfAttrSyntaxValue
ietf_attr_syntax_value_of (inl v) = Octets v
ietf_attr_syntax_value_of (inr (inl v)) = Oid v
ietf_attr_syntax_value_of (inr (inr v)) = String v

pub ietf_attr_syntax_value_there : (v : IetfAttrSyntaxValue) → ietf_attr_syntax_value_of (ietf_attr_syntax_value_parts v) ≡ v
ietf_attr_syntax_value_there (Octets v) = refl
ietf_attr_syntax_value_there (Oid v) = refl
ietf_attr_syntax_value_there (String v) = refl

pub ietf_attr_syntax_value_back : (p : List ℕ ⊎ (List ℕ ⊎ List ℕ)) → ietf_attr_syntax_value_parts (ietf_attr_syntax_value_of p) ≡ p
ietf_attr_syntax_value_back (inl v) = refl
ietf_attr_syntax_value_back (inr (inl v)) = refl
ietf_attr_syntax_value_back (inr (inr v)) = refl

abbrev pub ietf_attr_syntax_value : Codec IetfAttrSyntaxValue
ietf_attr_syntax_value = as_choice (either octet_string (either object_identifier
    (text utf8) refl) refl) ietf_attr_syntax_value_parts ietf_attr_syntax_value_of ietf_attr_syntax_value_there ietf_attr_syntax_value_back

unfoldable pub ietf_attr_syntax_fields : Struct IetfAttrSyntax
ietf_attr_syntax_fields = as_struct (
    optional (implicitly (context 0) (sequence_of general_name 0 None refl) refl)
    & required (sequence_of ietf_attr_syntax_value 0 None refl)
    ) refl
    (λ v. v.policy_authority ⊗ v.values)
    (λ policy_authority values. record { policy_authority = policy_authority; values = values }) (λ v. refl) (λ f. refl)

abbrev pub ietf_attr_syntax : Codec IetfAttrSyntax
ietf_attr_syntax = sequence (universal 16) ietf_attr_syntax_fields

unfoldable pub svce_auth_info_fields : Struct SvceAuthInfo
svce_auth_info_fields = as_struct (
    required general_name
    & required general_name
    & optional octet_string
    ) refl
    (λ v. v.service ⊗ v.ident ⊗ v.auth_info)
    (λ service ident auth_info. record { service = service; ident = ident; auth_info = auth_info }) (λ v. refl) (λ f. refl)

abbrev pub svce_auth_info : Codec SvceAuthInfo
svce_auth_info = sequence (universal 16) svce_auth_info_fields

unfoldable pub role_syntax_fields : Struct RoleSyntax
role_syntax_fields = as_struct (
    optional (implicitly (context 0) (sequence_of general_name 0 None refl) refl)
    & required (explicitly (context 1) general_name)
    ) refl
    (λ v. v.role_authority ⊗ v.role_name)
    (λ role_authority role_name. record { role_authority = role_authority; role_name = role_name }) (λ v. refl) (λ f. refl)

abbrev pub role_syntax : Codec RoleSyntax
role_syntax = sequence (universal 16) role_syntax_fields
