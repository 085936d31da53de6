-- What is looked at of a certificate, a request, a CRL or an attribute certificate.
use Rattle.std.specs.Prelude.{Bool, List, None, Option, Some, cond, false, not, true, ℕ, ◌&&◌}
use Rattle.std.specs.Str.{bytes_eq}
use Rattle.asn1_core.specs.Binds.{◌>>=◌}
use Rattle.der_tree.specs.Form.{value_of}
use Rattle.pkix_attr.specs.Certificates.{attribute_certificate}
use Rattle.pkix_cert.specs.Algorithms.{subject_public_key_info}
use Rattle.pkix_cert.specs.Certificates.{certificate}
use Rattle.pkix_cert.specs.Requests.{certification_request}
use Rattle.pkix_cert.specs.Revocations.{certificate_list}
use Rattle.pkix_cert.specs.Views.{CertificateParts, certificate_parts}
use Rattle.lint_files.specs.Extensions.{named_key, own_key}
use Rattle.lint_files.specs.Namings.{ArtefactView, NamingView}
use Rattle.lint_files.specs.PartViews.{PartsView}
use Rattle.lint_files.specs.Parts.{attribute_parts, list_parts, signed_part}
use Rattle.lint_files.specs.declared.kind.Kind.{Kind}
use Rattle.lint_files.specs.declared.kind.Kind.TheVariants as kind

-- both are there, and not the same
abbrev pub differ : Option (List ℕ) → Option (List ℕ) → Bool
differ None b = false
differ (Some a) None = false
differ (Some a) (Some b) = not (bytes_eq a b)

-- a certificate whose subject is its issuer, and which names no other key than its own
abbrev pub issues_itself : CertificateParts → Option (List ℕ) → Option (List ℕ) → Bool
issues_itself p own named = bytes_eq p.subject p.issuer && not (differ named own)

-- who has this name, if any, and this key, or another
abbrev pub named : Option (List ℕ) → Option (List ℕ) → Option NamingView
named None key = None
named (Some name) key = Some (record { name = name; key = key; by_name = true })

-- of a certificate (RFC 5280, 4.1 and 4.1.1.2), the identifiers of its own key and its issuer's; of one whose subject is its issuer no certificate
-- with another key is the issuer's, since it may be itself
unfoldable pub of_view : CertificateParts → Option (List ℕ) → Option (List ℕ) → ArtefactView
of_view p own key = record {
  signed = p.tbs;
  differs = not (bytes_eq p.tbs_signature p.signature_algorithm);
  issuer = cond (issues_itself p own key) None (Some (record { name = p.issuer; key = key; by_name = not (bytes_eq p.subject p.issuer) }));
}

-- of a CRL or an attribute certificate (RFC 5280, 5.1.1.2; RFC 5755, 4.2.4), the identifier of its issuer's key
unfoldable pub of_parts : PartsView → Option (List ℕ) → ArtefactView
of_parts p key = record {
  signed = p.signed;
  differs = not (bytes_eq p.inner p.algorithm);
  issuer = named p.issuer key;
}

unfoldable pub certificate_artefact : List ℕ → Option ArtefactView
certificate_artefact octets = do
  c ← value_of certificate octets
  p ← certificate_parts octets
  Some (of_view p (own_key c.tbs_certificate.extensions) (named_key c.tbs_certificate.extensions))

-- of a public key: the whole of it (RFC 5280, 4.1.2.7)
unfoldable pub key_artefact : List ℕ → Option ArtefactView
key_artefact octets = do
  k ← value_of subject_public_key_info octets
  Some (record { signed = octets; differs = false; issuer = None })

-- no issuer, and one algorithm alone
unfoldable pub request_artefact : List ℕ → Option ArtefactView
request_artefact octets = do
  r ← value_of certification_request octets
  signed ← signed_part octets
  Some (record { signed = signed; differs = false; issuer = None })

unfoldable pub list_artefact : List ℕ → Option ArtefactView
list_artefact octets = do
  l ← value_of certificate_list octets
  p ← list_parts octets
  Some (of_parts p (named_key l.tbs_cert_list.crl_extensions))

unfoldable pub attribute_certificate_artefact : List ℕ → Option ArtefactView
attribute_certificate_artefact octets = do
  a ← value_of attribute_certificate octets
  p ← attribute_parts octets
  Some (of_parts p (named_key a.info.extensions))

-- what the octets are, as their label says; none where they aren't that
unfoldable pub artefact_of : Kind → List ℕ → Option ArtefactView
artefact_of kind.Certificate octets = certificate_artefact octets
artefact_of kind.Request octets = request_artefact octets
artefact_of kind.List octets = list_artefact octets
artefact_of kind.AttributeCertificate octets = attribute_certificate_artefact octets
artefact_of kind.PublicKey octets = key_artefact octets
artefact_of kind.Other octets = None
