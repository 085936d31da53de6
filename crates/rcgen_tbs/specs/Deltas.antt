-- A revocation list of what changed since a complete one (RFC 5280, 5.2.4): what is to be signed for it, and what is issued over that.
use Rattle.std.specs.Prelude.{◌≡◌, ◌++◌, ℕ, true, List, [], map, Option, Some, None}
use Rattle.asn1_core.specs.Twos.{unsigned}
use Rattle.der_tree.specs.Form.{IsDerOf}
use Rattle.der_tree.specs.PrimitiveTypes.{integer}
use Rattle.pkix_cert.specs.ExtensionIds.{ce_delta_crl_indicator, id_ce}
use Rattle.pkix_cert.specs.Revocations.{certificate_list, tbs_cert_list}
use Rattle.pkix_cert.specs.declared.extension.Extensions.{Extensions}
use Rattle.pkix_cert.specs.declared.revocation.CertificateList.{CertificateList}
use Rattle.pkix_cert.specs.declared.revocation.TbsCertList.{TbsCertList}
use Rattle.rcgen_certificate.specs.ExtensionRows.{ExtensionRow, IsField, extension_row, row_of_extension}
use Rattle.rcgen_certificate.specs.Issuers.{IssuerView}
use Rattle.rcgen_certificate.specs.KeyValues.{signature_identifier}
use Rattle.rcgen_issue.specs.CrlView.{CrlView}
use Rattle.rcgen_issue.specs.Lists.{IsCrlToBeSigned, crl_extension_rows}
use Rattle.rcgen_tbs.specs.Messages.{IsCrlMessage, IsCrlOver}

-- the delta CRL indicator, which is critical: the number of the complete list on which the list is based
abbrev pub indicator_row : List ℕ → List ExtensionRow
indicator_row base = extension_row (id_ce ce_delta_crl_indicator) true integer (Some (unsigned base))

-- the extensions that a complete list would have, and after them the indicator
abbrev pub delta_extension_rows : List ℕ → CrlView → IssuerView → List ExtensionRow
delta_extension_rows base params issuer = crl_extension_rows params issuer ++ indicator_row base

-- the rows of a field; none where it is absent
abbrev pub rows_of : Option Extensions → List ExtensionRow
rows_of None = []
rows_of (Some es) = map row_of_extension es.0

-- the list with this field in place of its own
abbrev pub with_extensions : Option Extensions → TbsCertList → TbsCertList
with_extensions field t = record t { crl_extensions = field }

-- what is signed for a delta list with this base: what is signed for a complete list with the same parameters, with these extensions
pub record IsDeltaToBeSigned (base : List ℕ) (params : CrlView) (issuer : IssuerView) (t : TbsCertList) : Type 0 where
  pub complete : TbsCertList
  pub complete_is : IsCrlToBeSigned params issuer complete
  pub extensions : IsField (delta_extension_rows base params issuer) t.crl_extensions
  pub replaced : t ≡ with_extensions t.crl_extensions complete

-- the message is the DER of what is signed for a list: for a delta list where a base is given, and else for a complete one
abbrev pub IsListMessage : Option (List ℕ) → CrlView → IssuerView → List ℕ → Type 0
IsListMessage None params issuer message = IsCrlMessage params issuer message
IsListMessage (Some base) params issuer message =
    (t : TbsCertList) × IsDeltaToBeSigned base params issuer t × IsDerOf tbs_cert_list t message

-- der is the form of a list in which this is signed, by the issuer's algorithm, and the message is the DER of that, which its signature fits
pub record IsDeltaOver (base : List ℕ) (params : CrlView) (issuer : IssuerView) (fits : List ℕ → List ℕ → Type 0) (message der : List ℕ) : Type 0 where
  pub list : CertificateList
  pub form : IsDerOf certificate_list list der
  pub to_be_signed : IsDeltaToBeSigned base params issuer list.tbs_cert_list
  pub signature_algorithm : list.signature_algorithm ≡ signature_identifier issuer.algorithm
  pub no_unused_bits : list.signature.unused ≡ 0
  pub message_form : IsDerOf tbs_cert_list list.tbs_cert_list message
  pub signed : fits message list.signature.bytes

-- the same for a list with a base where one is given
abbrev pub IsListOver : Option (List ℕ) → CrlView → IssuerView → (List ℕ → List ℕ → Type 0) → List ℕ → List ℕ → Type 0
IsListOver None params issuer fits message der = IsCrlOver params issuer fits message der
IsListOver (Some base) params issuer fits message der = IsDeltaOver base params issuer fits message der
