-- The certificate that is issued for parameters: a row for each field (RFC 5280, 4.1).
use Rattle.std.specs.Prelude.{◌≡◌, ℕ, Bool, true, false, ◌&&◌, not, List, [], ◌∷◌, ◌++◌, Option, Some, None, is_some, refl}
use Rattle.std.specs.List.{AllByRecursion, list_all}
use Rattle.std.specs.Option.{IfSome, option_map}
use Rattle.rcgen_certificate.specs.KeyIdentifiers.{authority_key_if, subject_key_if}
use Rattle.rcgen_certificate.specs.SubjectAltNames.{has_type_id, subject_alt_name}
use Rattle.asn1_core.specs.Bits.{bits}
use Rattle.der_tree.specs.Form.{IsDerOf}
use Rattle.der_tree.specs.Grammar.{sequence_of}
use Rattle.der_tree.specs.HasTree.{HasTree}
use Rattle.der_tree.specs.PrimitiveTypes.{object_identifier, octet_string}
use Rattle.pkix_name.specs.GeneralNames.{general_name}
use Rattle.pkix_name.specs.Names.{name as name_codec}
use Rattle.pkix_name.specs.declared.name.Name.{Name}
use Rattle.pkix_cert.specs.Certificates.{certificate, tbs_certificate}
use Rattle.pkix_cert.specs.Constraints.{name_constraints as name_constraints_codec}
use Rattle.pkix_cert.specs.Distributions.{distribution_point}
use Rattle.pkix_cert.specs.KeyIdentifiers.{authority_key_identifier}
use Rattle.pkix_cert.specs.Versions.{v3}
use Rattle.pkix_cert.specs.declared.certificate.Certificate.{Certificate}
use Rattle.pkix_cert.specs.declared.certificate.TbsCertificate.{TbsCertificate}
use Rattle.rcgen_text.specs.Causes.{Cause, empty_uris, first, ia5_text, identifier, time, when}
use Rattle.rcgen_sign.specs.Keys.{Key}
use Rattle.rcgen_certificate.specs.AsciiTexts.{first_not_ascii, is_ascii}
use Rattle.rcgen_certificate.specs.CustomExtensions.{has_custom_oid}
use Rattle.rcgen_certificate.specs.DistributionPoints.{crl_distribution_points, has_empty_point, uri_texts}
use Rattle.rcgen_certificate.specs.ExtendedKeyUsages.{ext_key_usage, has_purpose_oid}
use Rattle.rcgen_certificate.specs.ExtensionRows.{IsField}
use Rattle.rcgen_certificate.specs.IssuedExtensions.{extension_rows, subject_id}
use Rattle.rcgen_certificate.specs.Issuers.{IssuerView}
use Rattle.rcgen_certificate.specs.KeyValues.{signature_identifier, key_value}
use Rattle.rcgen_certificate.specs.NameConstraints.{all_bases, constraint_texts, has_subtree_types, name_constraints}
use Rattle.rcgen_certificate.specs.NameValues.{has_types, name_value}
use Rattle.rcgen_certificate.specs.ParamsView.{ParamsView}
use Rattle.rcgen_certificate.specs.Serials.{serial_of}
use Rattle.der_tree.specs.HasTree.{HasShortTree}
use Rattle.rcgen_certificate.specs.ShortParts.{HasShortAttributes, HaveShortTexts, HasShortBase}
use Rattle.rcgen_certificate.specs.Signed.{HaveForms, MayRefuse}
use Rattle.rcgen_certificate.specs.WrittenTimes.{IsWrittenInstant, is_utc}

-- each type of the subject's name, of the subtrees' names and of the other names, each purpose and each extension that is given is named by an
-- object identifier
abbrev pub all_oids_valid : ParamsView → Bool
all_oids_valid params =
    has_types params.distinguished_name && has_subtree_types params.name_constraints && list_all has_type_id params.subject_alt_names
    && list_all has_purpose_oid params.extended_key_usages && list_all has_custom_oid params.custom_extensions

-- Why nothing is issued for the parameters under the issuer's name, in this order: a distribution point has no URI (RFC 5280, 4.2.1.13: it has a
-- name); a time is none in UTC from 0000 to 9999 (4.1.2.5); an identifier is none (X.690, 8.19), of the issuer's name (4.1.2.4), of the subject's
-- (4.1.2.6) or of an extension (4.2); the text of a subtree (4.2.1.10) or a URI (4.2.1.6) is no IA5String.
abbrev pub first_cause : ParamsView → Option Name → Option Cause
first_cause params issuer = first (
    when (has_empty_point params.crl_distribution_points) empty_uris
    ∷ when (not (is_utc params.not_before && is_utc params.not_after)) time
    ∷ when (not (is_some issuer && all_oids_valid params)) identifier
    ∷ option_map ia5_text (first_not_ascii (constraint_texts params.name_constraints ++ uri_texts params.crl_distribution_points))
    ∷ [])

-- none of them, for each part
pub record HasNoCause (params : ParamsView) (issuer : Option Name) : Type 0 where
  pub points : has_empty_point params.crl_distribution_points ≡ false
  pub not_before : is_utc params.not_before ≡ true
  pub not_after : is_utc params.not_after ≡ true
  pub issuer_types : is_some issuer ≡ true
  pub subject_types : has_types params.distinguished_name ≡ true
  pub subtree_types : has_subtree_types params.name_constraints ≡ true
  pub name_types : list_all has_type_id params.subject_alt_names ≡ true
  pub purposes : list_all has_purpose_oid params.extended_key_usages ≡ true
  pub given : list_all has_custom_oid params.custom_extensions ≡ true
  pub subtree_texts : list_all is_ascii (constraint_texts params.name_constraints) ≡ true
  pub uris : list_all is_ascii (uri_texts params.crl_distribution_points) ≡ true

-- what is signed for the parameters and the subject's key, in view of the issuer (RFC 5280, 4.1.1.1), with the section of each field
pub record IsToBeSigned (params : ParamsView) (subject : Key) (issuer : IssuerView) (t : TbsCertificate) : Type 0 where
  pub version : t.version ≡ v3  -- 4.1.2.1
  pub serial_number : t.serial_number ≡ serial_of params.serial_number subject.octets  -- 4.1.2.2
  pub signature : t.signature ≡ signature_identifier issuer.algorithm  -- 4.1.2.3
  pub issuer_name : issuer.name ≡ Some t.issuer  -- 4.1.2.4
  pub not_before : IsWrittenInstant params.not_before t.validity.not_before  -- 4.1.2.5
  pub not_after : IsWrittenInstant params.not_after t.validity.not_after  -- 4.1.2.5
  pub subject_name : t.subject ≡ name_value params.distinguished_name  -- 4.1.2.6
  pub subject_key : t.subject_public_key_info ≡ key_value subject.algorithm subject.octets  -- 4.1.2.7
  pub issuer_unique_id : t.issuer_unique_id ≡ None  -- 4.1.2.8
  pub subject_unique_id : t.subject_unique_id ≡ None  -- 4.1.2.8
  pub extensions : IsField (extension_rows params subject issuer) t.extensions  -- 4.1.2.9

-- c is what is issued for them (4.1.1)
pub record IsIssued (params : ParamsView) (subject : Key) (issuer : IssuerView) (c : Certificate) : Type 0 where
  pub to_be_signed : IsToBeSigned params subject issuer c.tbs_certificate  -- 4.1.1.1
  pub signature_algorithm : c.signature_algorithm ≡ signature_identifier issuer.algorithm  -- 4.1.1.2
  pub no_unused_bits : c.signature_value.unused ≡ 0  -- 4.1.1.3

-- der is the DER encoding of c, which is what is issued for them, and its signature fits that of what is signed
pub record IssuesAs (params : ParamsView) (subject : Key) (issuer : IssuerView) (fits : List ℕ → List ℕ → Type 0) (c : Certificate)
    (der : List ℕ) : Type 0 where
  pub message : List ℕ
  pub form : IsDerOf certificate c der
  pub message_form : IsDerOf tbs_certificate c.tbs_certificate message
  pub issued : IsIssued params subject issuer c
  pub signed : fits message c.signature_value.bytes

-- der is the DER encoding of what is issued for them, signed so
abbrev pub Issues : ParamsView → Key → IssuerView → (List ℕ → List ℕ → Type 0) → List ℕ → Type 0
Issues params subject issuer fits der = (c : Certificate) × IssuesAs params subject issuer fits c der

-- the key may refuse the DER encoding of what is signed for them
abbrev pub Refuses : ParamsView → Key → IssuerView → (List ℕ → Type 0) → Type 0
Refuses params subject issuer may_refuse =
    (t : TbsCertificate) × IsToBeSigned params subject issuer t × MayRefuse tbs_certificate t may_refuse

-- ---- there is such a certificate

-- each attribute of the subject's name, each text of an other name, and each value of an extension, where it may be long, has or would have fewer
-- than 2^64 octets, and the issuer field has a tree
pub record FitIn64Bits (params : ParamsView) (subject : Key) (issuer : IssuerView) : Type 0 where
  pub subject_name : HasShortAttributes params.distinguished_name
  pub issuer_name : IfSome issuer.name (HasTree name_codec)
  pub other_names : HaveShortTexts params.subject_alt_names
  pub directory_names : AllByRecursion HasShortBase (all_bases params.name_constraints)
  pub authority_key_id :
      IfSome (authority_key_if params.use_authority_key_identifier_extension issuer.key_identifier) (HasShortTree authority_key_identifier)
  pub alternative_names : IfSome (subject_alt_name params.subject_alt_names) (HasShortTree (sequence_of general_name 0 None refl))
  pub purposes : IfSome (ext_key_usage params.extended_key_usages) (HasShortTree (sequence_of object_identifier 0 None refl))
  pub subtrees : IfSome (name_constraints params.name_constraints) (HasShortTree name_constraints_codec)
  pub points : IfSome (crl_distribution_points params.crl_distribution_points) (HasShortTree (sequence_of distribution_point 0 None refl))
  pub subject_key : IfSome (subject_key_if params.is_ca (subject_id params subject)) (HasShortTree octet_string)

-- c is what is issued for them, with this signature; it has a tree
pub record IsIssuedWith (params : ParamsView) (subject : Key) (issuer : IssuerView) (signature : List ℕ) (c : Certificate) : Type 0 where
  pub issued : IsIssued params subject issuer c
  pub signature_value : c.signature_value ≡ bits 0 signature
  pub has_tree : HasTree certificate c

-- the parameters have a certificate in view of the issuer, for each subject's key and signature, where the parts are short; it has a DER encoding,
-- unless that would have 2^64 octets or more
abbrev pub CertificateExists : ParamsView → IssuerView → Type 0
CertificateExists params issuer =
    (subject : Key) (signature : List ℕ) → FitIn64Bits params subject issuer
    → (c : Certificate) × IsIssuedWith params subject issuer signature c
    × (HasShortTree certificate c → HaveForms certificate c tbs_certificate c.tbs_certificate)
