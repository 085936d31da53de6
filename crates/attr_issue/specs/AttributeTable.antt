-- That the table of attribute certificates can be met.
use Rattle.std.specs.Prelude.{◌≡◌, ℕ, List}
use Rattle.std.specs.Option.{IfSome}
use Rattle.asn1_core.specs.Bits.{bits}
use Rattle.der_tree.specs.HasTree.{HasShortTree, HasTree}
use Rattle.pkix_name.specs.Names.{name as name_codec}
use Rattle.pkix_cert.specs.KeyIdentifiers.{authority_key_identifier}
use Rattle.pkix_attr.specs.Certificates.{attribute_certificate, attribute_certificate_info}
use Rattle.pkix_attr.specs.declared.certificate.AttributeCertificate.{AttributeCertificate}
use Rattle.rcgen_certificate.specs.Issuers.{IssuerView}
use Rattle.rcgen_certificate.specs.KeyIdentifiers.{authority_key_if}
use Rattle.rcgen_certificate.specs.ShortParts.{HasShortAttributes}
use Rattle.rcgen_certificate.specs.Signed.{HaveForms}
use Rattle.attr_issue.specs.AttributeCertificateView.{AttributeCertificateView}
use Rattle.attr_issue.specs.AttributeCertificates.{IsIssuedAttribute}

-- each attribute of the name of the holder's issuer, and the identifier of the issuer's key where it is asked for, would have fewer than 2^64
-- octets, and the issuer field has a tree
pub record AttributeCertificateFitsIn64Bits (params : AttributeCertificateView) (issuer : IssuerView) : Type 0 where
  pub holder_issuer : HasShortAttributes params.holder_issuer
  pub issuer_name : IfSome issuer.name (HasTree name_codec)
  pub authority_key_id : IfSome (authority_key_if params.use_authority_key_identifier_extension issuer.key_identifier)
      (HasShortTree authority_key_identifier)

-- c is what is issued for them, with this signature; it has a tree
pub record IsAttributeIssuedWith (params : AttributeCertificateView) (issuer : IssuerView) (signature : List ℕ) (c : AttributeCertificate)
    : Type 0 where
  pub issued : IsIssuedAttribute params issuer c
  pub signature_value : c.signature_value ≡ bits 0 signature
  pub has_tree : HasTree attribute_certificate c

-- the parameters have an attribute certificate in view of the issuer, for each signature, where the parts are short; it has a form, unless that
-- would have 2^64 octets or more
abbrev pub AttributeCertificateExists : AttributeCertificateView → IssuerView → Type 0
AttributeCertificateExists params issuer =
    AttributeCertificateFitsIn64Bits params issuer → (signature : List ℕ)
    → (c : AttributeCertificate) × IsAttributeIssuedWith params issuer signature c
    × (HasShortTree attribute_certificate c → HaveForms attribute_certificate c attribute_certificate_info c.info)
