-- Trust anchors, a line for each field (RFC 5914, 2).
use Rattle.std.specs.Prelude.{◌≡◌, ◌⊎◌, None, refl}
use Rattle.std.proofs.Common.{inl, inr}
use Rattle.asn1_core.specs.StringTypes.{utf8}
use Rattle.der_tree.specs.CharacterStrings.{text}
use Rattle.der_tree.specs.Codec.{Codec, Struct}
use Rattle.der_tree.specs.Grammar.{as_choice, as_struct, either, explicitly, implicitly, optional, required, sequence, sequence_of, with_default, ◌&◌, ◌⊗◌}
use Rattle.der_tree.specs.PrimitiveTypes.{bit_string, integer, octet_string}
use Rattle.der_tree.specs.Tags.{context, universal}
use Rattle.pkix_name.specs.Names.{name}
use Rattle.pkix_cert.specs.Algorithms.{subject_public_key_info}
use Rattle.pkix_cert.specs.Extensions.{extensions}
use Rattle.pkix_cert.specs.Certificates.{certificate, tbs_certificate}
use Rattle.pkix_cert.specs.declared.certificate.Certificate.{Certificate}
use Rattle.pkix_cert.specs.declared.certificate.TbsCertificate.{TbsCertificate}
use Rattle.pkix_cert.specs.Constraints.{name_constraints}
use Rattle.pkix_trust.specs.Versions.{same_anchor_version, same_anchor_version_exact, anchor_v1, anchor_version}
use Rattle.pkix_trust.specs.Policies.{policy_information}
use Rattle.pkix_trust.specs.declared.anchor.TrustAnchorInfo.{TrustAnchorInfo}
use Rattle.pkix_trust.specs.declared.anchor.CertPathControls.{CertPathControls}
use Rattle.pkix_trust.specs.declared.anchor.TrustAnchorChoice.{TrustAnchorChoice}
use Rattle.pkix_trust.specs.declared.anchor.TrustAnchorChoice.TheVariants as trust_anchor_choice_kind

unfoldable pub cert_path_controls_fields : Struct CertPathControls
cert_path_controls_fields = as_struct (
    required name
    & optional (implicitly (context 0) certificate refl)
    & optional (implicitly (context 1) (sequence_of policy_information 0 None refl) refl)
    & optional (implicitly (context 2) bit_string refl)
    & optional (implicitly (context 3) name_constraints refl)
    & optional (implicitly (context 4) integer refl)
    ) refl
    (λ v. v.ta_name ⊗ v.certificate ⊗ v.policy_set ⊗ v.policy_flags ⊗ v.name_constr ⊗ v.path_len_constraint)
    (λ ta_name certificate policy_set policy_flags name_constr path_len_constraint. record {
      ta_name = ta_name;
      certificate = certificate;
      policy_set = policy_set;
      policy_flags = policy_flags;
      name_constr = name_constr;
      path_len_constraint = path_len_constraint;
    }) (λ v. refl) (λ f. refl)

abbrev pub cert_path_controls : Codec CertPathControls
cert_path_controls = sequence (universal 16) cert_path_controls_fields

unfoldable pub trust_anchor_info_fields : Struct TrustAnchorInfo
trust_anchor_info_fields = as_struct (
    with_default (explicitly (context 1) anchor_version) same_anchor_version same_anchor_version_exact anchor_v1
    & required subject_public_key_info
    & required octet_string
    & optional (text utf8)
    & optional cert_path_controls
    & optional (explicitly (context 1) extensions)
    & optional (implicitly (context 2) (text utf8) refl)
    ) refl
    (λ v. v.version ⊗ v.pub_key ⊗ v.key_id ⊗ v.ta_title ⊗ v.cert_path ⊗ v.exts ⊗ v.ta_title_lang_tag)
    (λ version pub_key key_id ta_title cert_path exts ta_title_lang_tag. record {
      version = version;
      pub_key = pub_key;
      key_id = key_id;
      ta_title = ta_title;
      cert_path = cert_path;
      exts = exts;
      ta_title_lang_tag = ta_title_lang_tag;
    }) (λ v. refl) (λ f. refl)

abbrev pub trust_anchor_info : Codec TrustAnchorInfo
trust_anchor_info = sequence (universal 16) trust_anchor_info_fields

abbrev pub trust_anchor_choice_parts : TrustAnchorChoice → Certificate ⊎ (TbsCertificate ⊎ TrustAnchorInfo)
trust_anchor_choice_parts (trust_anchor_choice_kind.Certificate v) = inl v
trust_anchor_choice_parts (trust_anchor_choice_kind.TbsCertificate v) = inr (inl v)
trust_anchor_choice_parts (trust_anchor_choice_kind.TrustAnchorInfo v) = inr (inr v)

abbrev pub trust_anchor_choice_of : Certificate ⊎ (TbsCertificate ⊎ TrustAnchorInfo) → TrustAnchorChoice
trust_anchor_choice_of (inl v) = trust_anchor_choice_kind.Certificate v
trust_anchor_choice_of (inr (inl v)) = trust_anchor_choice_kind.TbsCertificate v
trust_anchor_choice_of (inr (inr v)) = trust_anchor_choice_kind.TrustAnchorInfo v

pub trust_anchor_choice_there : (v : TrustAnchorChoice) → trust_anchor_choice_of (trust_anchor_choice_parts v) ≡ v
trust_anchor_choice_there (trust_anchor_choice_kind.Certificate v) = refl
trust_anchor_choice_there (trust_anchor_choice_kind.TbsCertificate v) = refl
trust_anchor_choice_there (trust_anchor_choice_kind.TrustAnchorInfo v) = refl

pub trust_anchor_choice_back : (p : Certificate ⊎ (TbsCertificate ⊎ TrustAnchorInfo)) → trust_anchor_choice_parts (trust_anchor_choice_of p) ≡ p
trust_anchor_choice_back (inl v) = refl
trust_anchor_choice_back (inr (inl v)) = refl
trust_anchor_choice_back (inr (inr v)) = refl

abbrev pub trust_anchor_choice : Codec TrustAnchorChoice
trust_anchor_choice =
    as_choice (either certificate (either (explicitly (context 1) tbs_certificate) (explicitly (context 2) trust_anchor_info) refl) refl)
    trust_anchor_choice_parts trust_anchor_choice_of trust_anchor_choice_there trust_anchor_choice_back
