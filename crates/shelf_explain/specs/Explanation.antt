-- What a block contains, for people.
use Rattle.std.specs.Prelude.{ℕ, cond, List, [], ◌++◌, codes, nat_eq, Option, Some, None}
use Rattle.std.specs.Cmp.Lexicographic.{pointwise}
use Rattle.std.specs.Option.{option_map}
use Rattle.der_tree.specs.Codec.{Codec}
use Rattle.der_tree.specs.Form.{value_of}
use Rattle.pkix_attr.specs.Certificates.{attribute_certificate, attribute_certificate_info}
use Rattle.pkix_cert.specs.Algorithms.{subject_public_key_info}
use Rattle.pkix_cert.specs.Certificates.{certificate, tbs_certificate}
use Rattle.pkix_cert.specs.Requests.{certification_request, certification_request_info}
use Rattle.pkix_cert.specs.Revocations.{certificate_list, tbs_cert_list}
use Rattle.shelf_explain.specs.AttributeCertificates.{attribute_certificate_lines, unsigned_info_lines}
use Rattle.shelf_explain.specs.Blocks.{certificate_lines, not_explained, read_lines, unsigned_lines}
use Rattle.shelf_explain.specs.Bundles.{bundle_of, bundle_or_guessed, bundle_or_not, certificate_in, list_in, trusted_lines}
use Rattle.shelf_explain.specs.Digests.{fingerprint_line}
use Rattle.shelf_explain.specs.Folding.{folded}
use Rattle.shelf_explain.specs.Keys.{key_lines}
use Rattle.shelf_explain.specs.Lists.{list_lines, unsigned_list_lines}
use Rattle.shelf_explain.specs.Partly.{read_or_rows}
use Rattle.shelf_explain.specs.Requests.{info_lines, request_lines}
use Rattle.shelf_explain.specs.Tables.{attribute_certificate_fields, request_fields}
use Rattle.shelf_explain.specs.Values.{plain_text}
use Rattle.shelf_explain.specs.declared.BlockKind.{BlockKind}
use Rattle.shelf_explain.specs.declared.BlockKind.TheVariants as block

-- by the label: RFC 7468, 5 to 13 (5.1 and 7 have a second name for certificates and requests, and 8 and 9 the names of bundles), OpenSSL's
-- labels, and that of the issuers of CRLs; DER is that of octets without a label
unfoldable pub block_of_others : List ℕ → BlockKind
block_of_others label =
    cond (pointwise nat_eq label (codes "CRL ISSUER CERTIFICATE")) block.Certificate
    (cond (pointwise nat_eq label (codes "TRUSTED CERTIFICATE")) block.TrustedCertificate
    (cond (pointwise nat_eq label (codes "PKCS7")) block.Bundle
    (cond (pointwise nat_eq label (codes "CMS")) block.Bundle
    (cond (pointwise nat_eq label (codes "DER")) block.Unlabelled block.Other))))

unfoldable pub block_of : List ℕ → BlockKind
block_of label =
    cond (pointwise nat_eq label (codes "CERTIFICATE")) block.Certificate
    (cond (pointwise nat_eq label (codes "X509 CERTIFICATE")) block.Certificate
    (cond (pointwise nat_eq label (codes "CERTIFICATE REQUEST")) block.Request
    (cond (pointwise nat_eq label (codes "NEW CERTIFICATE REQUEST")) block.Request
    (cond (pointwise nat_eq label (codes "X509 CRL")) block.RevocationList
    (cond (pointwise nat_eq label (codes "ATTRIBUTE CERTIFICATE")) block.AttributeCertificate
    (cond (pointwise nat_eq label (codes "PUBLIC KEY")) block.PublicKey (block_of_others label)))))))

unfoldable pub known_lines : BlockKind → List ℕ → List ℕ
known_lines block.Certificate octets = certificate_in octets
known_lines block.Request octets = read_or_rows certification_request request_lines request_fields octets
known_lines block.RevocationList octets = list_in octets
known_lines block.AttributeCertificate octets =
    read_or_rows attribute_certificate attribute_certificate_lines attribute_certificate_fields octets
known_lines block.PublicKey octets = read_lines subject_public_key_info key_lines octets
known_lines block.TrustedCertificate octets = trusted_lines octets
known_lines block.Bundle octets = bundle_or_not (bundle_of octets) octets
known_lines block.Unlabelled octets = bundle_or_guessed (bundle_of octets) octets
known_lines block.Other octets = not_explained octets

-- of a bundle, and of octets without a label, the lines have it
unfoldable pub fingerprint_of : BlockKind → List ℕ → List ℕ
fingerprint_of block.Other octets = []
fingerprint_of block.Bundle octets = []
fingerprint_of block.Unlabelled octets = []
fingerprint_of _ octets = fingerprint_line octets

unfoldable pub block_lines : BlockKind → List ℕ → List ℕ
block_lines b octets = known_lines b octets ++ fingerprint_of b octets

unfoldable pub title_line : List ℕ → List ℕ
title_line label = plain_text label ++ codes "\n"

-- the label, the lines of the octets, and for a known block their digest; lines of any length
unfoldable pub long_explanation : List ℕ → List ℕ → List ℕ
long_explanation label octets = title_line label ++ block_lines (block_of label) octets

-- the same in lines of at most 98 characters
unfoldable pub explanation : List ℕ → List ℕ → List ℕ
explanation label octets = folded (long_explanation label octets)

-- ---- octets without a label

-- a title, lines, and the digest of the octets
unfoldable pub explained_text : List ℕ → List ℕ → List ℕ → List ℕ
explained_text title lines octets = title ++ codes "\n" ++ lines ++ fingerprint_line octets

-- of the value whose DER encoding the octets are
unfoldable pub explained_as : {A : Type 0} → List ℕ → Codec A → (A → List ℕ) → List ℕ → Option (List ℕ)
explained_as title c lines octets = option_map (λ v. explained_text title (lines v) octets) (value_of c octets)

-- what was found before, or else that
unfoldable pub or_as : {A : Type 0} → List ℕ → Codec A → (A → List ℕ) → List ℕ → Option (List ℕ) → Option (List ℕ)
or_as title c lines octets (Some text) = Some text
or_as title c lines octets None = explained_as title c lines octets

-- by an authority of certificates; the last line is looked at first
unfoldable pub signed_of_authority : List ℕ → Option (List ℕ) → Option (List ℕ)
signed_of_authority octets found =
    or_as (codes "X509 CRL") certificate_list list_lines octets (or_as (codes "CERTIFICATE") certificate certificate_lines octets found)

-- by others
unfoldable pub signed_of_others : List ℕ → Option (List ℕ) → Option (List ℕ)
signed_of_others octets found =
    or_as (codes "ATTRIBUTE CERTIFICATE") attribute_certificate attribute_certificate_lines octets
    (or_as (codes "CERTIFICATE REQUEST") certification_request request_lines octets found)

-- what is signed
unfoldable pub signed_text : List ℕ → Option (List ℕ) → Option (List ℕ)
signed_text octets found = signed_of_others octets (signed_of_authority octets found)

-- what is signed, or a key
unfoldable pub known_text : List ℕ → Option (List ℕ)
known_text octets = or_as (codes "PUBLIC KEY") subject_public_key_info key_lines octets (signed_text octets None)

-- what is to be signed by an authority of certificates (RFC 5280, 4.1, 5.1)
unfoldable pub unsigned_of_authority : List ℕ → Option (List ℕ) → Option (List ℕ)
unsigned_of_authority octets found =
    or_as (codes "TBSCertList") tbs_cert_list unsigned_list_lines octets
    (or_as (codes "TBSCertificate") tbs_certificate unsigned_lines octets found)

-- what is to be signed by others (RFC 2986, 4.1; RFC 5755, 4.1)
unfoldable pub unsigned_of_others : List ℕ → Option (List ℕ) → Option (List ℕ)
unsigned_of_others octets found =
    or_as (codes "AttributeCertificateInfo") attribute_certificate_info unsigned_info_lines octets
    (or_as (codes "CertificationRequestInfo") certification_request_info info_lines octets found)

-- what is to be signed
unfoldable pub unsigned_text : List ℕ → Option (List ℕ) → Option (List ℕ)
unsigned_text octets found = unsigned_of_others octets (unsigned_of_authority octets found)

-- by the first grammar that the octets have; of octets that have none there is nothing; lines of any length
unfoldable pub long_explanation_of_der : List ℕ → Option (List ℕ)
long_explanation_of_der octets = unsigned_text octets (known_text octets)

-- the same in lines of at most 98 characters
unfoldable pub explanation_of_der : List ℕ → Option (List ℕ)
explanation_of_der octets = option_map folded (long_explanation_of_der octets)
