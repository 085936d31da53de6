-- The list of revoked certificates that is issued for parameters: a row for each field (RFC 5280, 5.1 to 5.3).
use Rattle.std.specs.Prelude.{◌≡◌, ◌==◌, ℕ, ℤ, Bool, true, false, ◌&&◌, ◌++◌, length, not, int_le, List, [], ◌∷◌, Option, Some, None, is_some, IsSomeAnd}
use Rattle.std.specs.List.{AllZip, list_all}
use Rattle.std.specs.Option.{option_map}
use Rattle.asn1_core.specs.Twos.{unsigned}
use Rattle.der_tree.specs.Form.{IsDerOf}
use Rattle.der_tree.specs.PrimitiveTypes.{integer}
use Rattle.pkix_cert.specs.Distributions.{issuing_distribution_point as issuing_distribution_point_codec}
use Rattle.pkix_cert.specs.Revocations.{certificate_list, tbs_cert_list}
use Rattle.pkix_cert.specs.Versions.{version_of}
use Rattle.pkix_cert.specs.declared.certificate.Version.{Version}
use Rattle.pkix_cert.specs.declared.distribution.IssuingDistributionPoint.{IssuingDistributionPoint}
use Rattle.pkix_cert.specs.declared.revocation.CertificateList.{CertificateList}
use Rattle.pkix_cert.specs.declared.revocation.TbsCertList.{TbsCertList}
use Rattle.rcgen_text.specs.Causes.{Cause, empty_uris, first, ia5_text, identifier, next_update, not_crl_signer, time, when}
use Rattle.rcgen_sign.specs.KeyIds.{Method, key_id}
use Rattle.rcgen_certificate.specs.AsciiTexts.{first_not_ascii, is_ascii}
use Rattle.rcgen_certificate.specs.DistributionPoints.{full_name}
use Rattle.rcgen_issue.specs.Entries.{IsEntry}
use Rattle.rcgen_certificate.specs.ExtensionRows.{ExtensionRow, extension_row, IsField}
use Rattle.pkix_cert.specs.ExtensionIds.{ce_crl_number, ce_issuing_distribution_point, id_ce}
use Rattle.rcgen_certificate.specs.Issuers.{IssuerView}
use Rattle.rcgen_certificate.specs.KeyIdentifiers.{authority_key_row}
use Rattle.rcgen_certificate.specs.KeyValues.{signature_identifier}
use Rattle.rcgen_certificate.specs.Signed.{MayRefuse}
use Rattle.rcgen_certificate.specs.WrittenTimes.{IsWrittenInstant, is_utc}
use Rattle.rcgen_issue.specs.CrlView.{CrlView, RevokedView, crl_view}
use Rattle.rcgen_issue.specs.declared.crl.CertificateRevocationListParams.{CertificateRevocationListParams}
use Rattle.rcgen_text.specs.declared.crl_scope.CrlScope.{CrlScope}
use Rattle.rcgen_text.specs.declared.crl_scope.CrlScope.TheVariants as scope

-- ---- the issuing distribution point (RFC 5280, 5.2.5)

-- the list is of the certificates of users alone
abbrev pub of_users_only : Option CrlScope → Bool
of_users_only None = false
of_users_only (Some scope.UserCertsOnly) = true
of_users_only (Some scope.CaCertsOnly) = false

-- the list is of the certificates of authorities alone
abbrev pub of_authorities_only : Option CrlScope → Bool
of_authorities_only None = false
of_authorities_only (Some scope.UserCertsOnly) = false
of_authorities_only (Some scope.CaCertsOnly) = true

-- a full name and the flag of the scope
abbrev pub issuing_point_value : List (List ℕ) × Option CrlScope → IssuingDistributionPoint
issuing_point_value p = record {
  distribution_point = Some (full_name p.0);
  only_contains_user_certs = of_users_only p.1;
  only_contains_ca_certs = of_authorities_only p.1;
  only_some_reasons = None;
  indirect_crl = false;
  only_contains_attribute_certs = false;
}

abbrev pub has_no_uri : Option (List (List ℕ) × Option CrlScope) → Bool
has_no_uri None = false
has_no_uri (Some p) = length p.0 == 0

abbrev pub issuing_uris : Option (List (List ℕ) × Option CrlScope) → List (List ℕ)
issuing_uris None = []
issuing_uris (Some p) = p.0

-- ---- why nothing is issued

-- an invalidity date, where there is one, has a form in UTC
abbrev pub is_utc_if : Option ℤ → Bool
is_utc_if None = true
is_utc_if (Some z) = is_utc z

abbrev pub has_entry_times : RevokedView → Bool
has_entry_times e = is_utc e.revocation_time && is_utc_if e.invalidity_date

abbrev pub has_list_times : CrlView → Bool
has_list_times params = is_utc params.this_update && is_utc params.next_update && list_all has_entry_times params.revoked_certs

-- Why nothing is issued for the parameters by the issuer, in this order: the next list doesn't come later than this one (RFC 5280, 5.1.2.5); the
-- issuer may not sign lists (4.2.1.3); the issuing point has no URI (5.2.5); a time is none in UTC from 0000 to 9999 (5.1.2.4 to 5.1.2.6, 5.3.2);
-- a type of the issuer's name is no object identifier (5.1.2.3); a URI is no IA5String (4.2.1.6).
abbrev pub first_crl_cause : CrlView → IssuerView → Option Cause
first_crl_cause params issuer = first (
    when (int_le params.next_update params.this_update) next_update
    ∷ when (not issuer.signs_lists) not_crl_signer
    ∷ when (has_no_uri params.issuing_distribution_point) empty_uris
    ∷ when (not (has_list_times params)) time
    ∷ when (not (is_some issuer.name)) identifier
    ∷ option_map ia5_text (first_not_ascii (issuing_uris params.issuing_distribution_point))
    ∷ [])

-- none of them, for each part
pub record HasNoCrlCause (params : CrlView) (issuer : IssuerView) : Type 0 where
  pub this_update : is_utc params.this_update ≡ true
  pub next_update : is_utc params.next_update ≡ true
  pub entry_times : list_all has_entry_times params.revoked_certs ≡ true
  pub issuer_types : is_some issuer.name ≡ true
  pub uris : list_all is_ascii (issuing_uris params.issuing_distribution_point) ≡ true

-- ---- the table

abbrev pub v2 : Version
v2 = version_of 1

-- the identifier of the issuer's key: by the list's own method, or without one by the issuer's (RFC 5280, 5.2.1)
abbrev pub crl_key_id : Option Method → IssuerView → List ℕ
crl_key_id None issuer = issuer.key_identifier
crl_key_id (Some method) issuer = key_id method issuer.info

-- those that are present, in this order: the identifier of the issuer's key (RFC 5280, 5.2.1); the list's number
-- (5.2.3); the issuing point (5.2.5)
abbrev pub crl_extension_rows : CrlView → IssuerView → List ExtensionRow
crl_extension_rows params issuer =
    authority_key_row true (crl_key_id params.key_identifier_method issuer)
    ++ extension_row (id_ce ce_crl_number) false integer (Some (unsigned params.crl_number))
    ++ extension_row (id_ce ce_issuing_distribution_point) true issuing_distribution_point_codec (option_map issuing_point_value params.issuing_distribution_point)

-- what is signed for the parameters, in view of the issuer (5.1.1.1), with the section of each field; without entries their field is absent
pub record IsCrlToBeSigned (params : CrlView) (issuer : IssuerView) (t : TbsCertList) : Type 0 where
  pub version : t.version ≡ Some v2  -- 5.1.2.1
  pub signature : t.signature ≡ signature_identifier issuer.algorithm  -- 5.1.2.2
  pub issuer_name : issuer.name ≡ Some t.issuer  -- 5.1.2.3
  pub this_update : IsWrittenInstant params.this_update t.this_update  -- 5.1.2.4
  pub next_update : IsSomeAnd t.next_update (IsWrittenInstant params.next_update)  -- 5.1.2.5
  pub entries : AllZip IsEntry params.revoked_certs t.revoked_certificates  -- 5.1.2.6
  pub extensions : IsField (crl_extension_rows params issuer) t.crl_extensions  -- 5.1.2.7

-- the same without entries
abbrev pub without_entries : CrlView → CrlView
without_entries params = record params { revoked_certs = [] }

-- c is what is issued for them (5.1.1)
pub record IsIssuedCrl (params : CrlView) (issuer : IssuerView) (c : CertificateList) : Type 0 where
  pub to_be_signed : IsCrlToBeSigned params issuer c.tbs_cert_list  -- 5.1.1.1
  pub signature_algorithm : c.signature_algorithm ≡ signature_identifier issuer.algorithm  -- 5.1.1.2
  pub no_unused_bits : c.signature.unused ≡ 0  -- 5.1.1.3

-- der is the DER encoding of c, which is what is issued for them, and its signature fits that of what is signed
pub record IssuesCrlAs (params : CrlView) (issuer : IssuerView) (fits : List ℕ → List ℕ → Type 0) (c : CertificateList)
    (der : List ℕ) : Type 0 where
  pub message : List ℕ
  pub form : IsDerOf certificate_list c der
  pub message_form : IsDerOf tbs_cert_list c.tbs_cert_list message
  pub issued : IsIssuedCrl params issuer c
  pub signed : fits message c.signature.bytes

-- der is the DER encoding of what is issued for them, signed so
abbrev pub IssuesCrl : CrlView → IssuerView → (List ℕ → List ℕ → Type 0) → List ℕ → Type 0
IssuesCrl params issuer fits der = (c : CertificateList) × IssuesCrlAs params issuer fits c der

-- the key may refuse the DER encoding of what is signed for them
abbrev pub RefusesCrl : CrlView → IssuerView → (List ℕ → Type 0) → Type 0
RefusesCrl params issuer may_refuse = (t : TbsCertList) × IsCrlToBeSigned params issuer t × MayRefuse tbs_cert_list t may_refuse

-- ---- copies

-- both say the same, and their clocks show the same times
pub record SaysSameCrl (params copy : CertificateRevocationListParams) : Type 0 where
  pub view : crl_view copy ≡ crl_view params
  pub this_update : copy.this_update ≡ params.this_update
  pub next_update : copy.next_update ≡ params.next_update
  pub revoked_certs : copy.revoked_certs.items ≡ params.revoked_certs.items
