-- That the table of lists can be met.
use Rattle.std.specs.Prelude.{◌≡◌, ℕ, ℤ, true, List}
use Rattle.std.specs.Option.{IfSome, option_map}
use Rattle.jiff.specs.Types.{DateTime}
use Rattle.asn1_core.specs.Bits.{bits}
use Rattle.asn1_core.specs.Twos.{unsigned}
use Rattle.der_tree.specs.HasTree.{HasTree}
use Rattle.der_tree.specs.PrimitiveTypes.{integer}
use Rattle.pkix_name.specs.Names.{name as name_codec}
use Rattle.pkix_cert.specs.Distributions.{issuing_distribution_point}
use Rattle.pkix_cert.specs.KeyIdentifiers.{authority_key_identifier}
use Rattle.pkix_cert.specs.Revocations.{certificate_list, tbs_cert_list}
use Rattle.pkix_cert.specs.declared.revocation.CertificateList.{CertificateList}
use Rattle.rcgen_certificate.specs.Issuers.{IssuerView}
use Rattle.rcgen_certificate.specs.KeyIdentifiers.{authority_key}
use Rattle.der_tree.specs.HasTree.{HasShortTree}
use Rattle.rcgen_certificate.specs.Signed.{HaveForms}
use Rattle.rcgen_certificate.specs.WrittenTimes.{IsUtcOf, is_utc}
use Rattle.rcgen_issue.specs.CrlView.{CrlView, RevokedView}
use Rattle.rcgen_issue.specs.Lists.{IsIssuedCrl, issuing_point_value, crl_key_id}

-- ---- times

-- where it has a form in UTC, it has a civil time there
abbrev pub HasCivilTime : ℤ → Type 0
HasCivilTime z = is_utc z ≡ true → (at : DateTime) × IsUtcOf z at

-- so has each time of the entry
abbrev pub HasCivilTimes : RevokedView → Type 0
HasCivilTimes e = HasCivilTime e.revocation_time × IfSome e.invalidity_date HasCivilTime

-- ---- the table

-- each value of an extension of the list would have fewer than 2^64 octets, and the issuer field has a tree
pub record CrlFitsIn64Bits (params : CrlView) (issuer : IssuerView) : Type 0 where
  pub issuer_name : IfSome issuer.name (HasTree name_codec)
  pub authority_key_id : HasShortTree authority_key_identifier (authority_key (crl_key_id params.key_identifier_method issuer))
  pub number : HasShortTree integer (unsigned params.crl_number)
  pub point : IfSome (option_map issuing_point_value params.issuing_distribution_point) (HasShortTree issuing_distribution_point)

-- c is what is issued for them, with this signature; it has a tree
pub record IsCrlIssuedWith (params : CrlView) (issuer : IssuerView) (signature : List ℕ) (c : CertificateList)
    : Type 0 where
  pub issued : IsIssuedCrl params issuer c
  pub signature_value : c.signature ≡ bits 0 signature
  pub has_tree : HasTree certificate_list c

-- the parameters have a list in view of the issuer, for each signature, where the parts are short; it has a form, unless that would have 2^64
-- octets or more
abbrev pub CrlExists : CrlView → IssuerView → Type 0
CrlExists params issuer =
    CrlFitsIn64Bits params issuer → (signature : List ℕ) → (c : CertificateList) × IsCrlIssuedWith params issuer signature c
    × (HasShortTree certificate_list c → HaveForms certificate_list c tbs_cert_list c.tbs_cert_list)
