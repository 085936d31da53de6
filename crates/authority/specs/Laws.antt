-- What holds of each run of the book.
use Rattle.std.specs.Prelude.{◌≡◌, ℕ, true, nat_eq, List, [], ◌∷◌, ◌++◌, map, Option, Some}
use Rattle.std.specs.List.{IsDistinct}
use Rattle.std.specs.Int.{w64, to_be_bytes}
use Rattle.asn1_core.specs.Twos.{unsigned}
use Rattle.der_tree.specs.Form.{IsDerOf}
use Rattle.pkix_name.specs.declared.name.Name.{Name}
use Rattle.pkix_cert.specs.Certificates.{certificate}
use Rattle.pkix_cert.specs.Revocations.{certificate_list}
use Rattle.pkix_cert.specs.declared.certificate.Certificate.{Certificate}
use Rattle.pkix_cert.specs.declared.extension.Extensions.{Extensions}
use Rattle.pkix_cert.specs.declared.revocation.CertificateList.{CertificateList}
use Rattle.rcgen_certificate.specs.ExtensionRows.{ExtensionRow, IsField}
use Rattle.rcgen_certificate.specs.Issuers.{IssuerView}
use Rattle.rcgen_certificate.specs.KeyIdentifiers.{authority_key_row}
use Rattle.authority.specs.declared.commands.Reply.{Reply}
use Rattle.authority.specs.declared.commands.Reply.TheVariants as reply

-- ---- lists

-- the serial numbers that the replies say are revoked, in order
abbrev pub revoked_by : List Reply → List ℕ
revoked_by [] = []
revoked_by (reply.Revoked serial ∷ rs) = serial ∷ revoked_by rs
revoked_by (reply.Issued serial der ∷ rs) = revoked_by rs
revoked_by (reply.Listed number der ∷ rs) = revoked_by rs
revoked_by (reply.Refused r ∷ rs) = revoked_by rs

-- der is the form of a list whose entries are of these serial numbers, in order, and of no others
pub record ListsSerials (serials : List ℕ) (der : List ℕ) : Type 0 where
  pub list : CertificateList
  pub form : IsDerOf certificate_list list der
  pub entries : map (λ e. e.user_certificate) list.tbs_cert_list.revoked_certificates ≡ map unsigned (map (to_be_bytes w64) serials)

-- each list among the replies is of exactly these serial numbers and, after them, those that the replies before it say
-- are revoked, which are different ones
abbrev pub ListsTheRevoked : List ℕ → List Reply → Type 0
ListsTheRevoked serials replies = (before after : List Reply) (number : ℕ) (der : List ℕ) → replies ≡ before ++ reply.Listed number der ∷ after
    → ListsSerials (serials ++ revoked_by before) der × IsDistinct nat_eq (serials ++ revoked_by before)

-- ---- the issuer

-- the issuer's value, and as the first extension the identifier of its key (RFC 5280, 4.2.1.1 and 5.2.1)
pub record NamesIssuer (issuer : IssuerView) (value : Name) (extensions : Option Extensions) : Type 0 where
  pub name : issuer.name ≡ Some value
  pub rest : List ExtensionRow
  pub rows : IsField (authority_key_row true issuer.key_identifier ++ rest) extensions

-- a certificate or a list has them
abbrev pub IsOfIssuer : IssuerView → Reply → Type 0
IsOfIssuer issuer (reply.Issued serial der) =
    (c : Certificate) × IsDerOf certificate c der × NamesIssuer issuer c.tbs_certificate.issuer c.tbs_certificate.extensions
IsOfIssuer issuer (reply.Listed number der) =
    (c : CertificateList) × IsDerOf certificate_list c der × NamesIssuer issuer c.tbs_cert_list.issuer c.tbs_cert_list.crl_extensions
IsOfIssuer issuer (reply.Revoked serial) = Unit {0}
IsOfIssuer issuer (reply.Refused r) = Unit {0}
