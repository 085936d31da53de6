-- A certificate, as the steps read it (RFC 5280, 4.1).
use Rattle.std.specs.Prelude.{Bool, List, None, Option, Some, cond, false, nat_eq, not, true, ℕ, [], ◌&&◌, ◌==◌, ◌||◌, ◌∷◌}
use Rattle.std.specs.List.{starts_with}
use Rattle.asn1_core.specs.Binds.{◌>>=◌}
use Rattle.der_tree.specs.Element.{one_element}
use Rattle.der_tree.specs.Form.{value_of}
use Rattle.der_tree.specs.PrimitiveTypes.{bit_string}
use Rattle.pkix_cert.specs.Algorithms.{subject_public_key_info}
use Rattle.pkix_cert.specs.Times.{moment_of, validity}
use Rattle.pkix_cert.specs.Views.{CertificateParts, ExtensionParts}
use Rattle.pkix_cert.specs.declared.time.Time.{Time}
use Rattle.pkix_cert.specs.declared.time.Validity.{Validity}
use Rattle.pkix_name.specs.Names.{name}
use Rattle.path_names.specs.NameMatching.{names_match}
use Rattle.path_validation.specs.Extensions.{read_statements}
use Rattle.path_validation.specs.declared.certificate.Identity.{Identity}
use Rattle.path_validation.specs.declared.certificate.PathCertificate.{PathCertificate}

-- ---- the version, which in DER comes first as [0], and isn't written where it is 1 (4.1.2.1)

abbrev pub version_2 : List ℕ
version_2 = 160 ∷ 3 ∷ 2 ∷ 1 ∷ 1 ∷ []

abbrev pub version_3 : List ℕ
version_3 = 160 ∷ 3 ∷ 2 ∷ 1 ∷ 2 ∷ []

-- the serial number, an INTEGER, comes first
abbrev pub version_1 : List ℕ
version_1 = 2 ∷ []

abbrev pub begins_with : List ℕ → CertificateParts → Bool
begins_with octets p = elim (one_element p.tbs) [ None ↦ false | Some s ↦ starts_with nat_eq s.content octets ]

abbrev pub is_version_3 : CertificateParts → Bool
is_version_3 p = begins_with version_3 p

abbrev pub has_extensions : List ExtensionParts → Bool
has_extensions [] = false
has_extensions (e ∷ es) = true

-- 4.1.2.1, 4.1.2.9: version 3, or 1 or 2 without extensions
unfoldable pub fits_version : CertificateParts → Bool
fits_version p = is_version_3 p || (not (has_extensions p.extensions) && (begins_with version_1 p || begins_with version_2 p))

-- ---- what a certificate contains

-- 4.1.2.5.2: no fraction of a second
abbrev pub has_whole_seconds : Time → Bool
has_whole_seconds t = (moment_of t).time.subsec_nanosecond == 0

unfoldable pub is_whole : Validity → Bool
is_whole v = has_whole_seconds v.not_before && has_whole_seconds v.not_after

-- each view has these values
unfoldable pub read_identity : CertificateParts → Option Identity
read_identity p = do
  issuer ← value_of name p.issuer
  subject ← value_of name p.subject
  key_info ← value_of subject_public_key_info p.key_info
  validity ← value_of validity p.validity
  signature ← value_of bit_string p.signature
  Some (record { issuer = issuer; subject = subject; key_info = key_info; validity = validity; signature = signature })

unfoldable pub read_parts : CertificateParts → Option PathCertificate
read_parts p = do
  identity ← read_identity p
  statements ← read_statements p.extensions
  cond (is_whole identity.validity) (Some (record { identity = identity; statements = statements })) None

-- none where its version doesn't fit, or an extension or a time can't be read
unfoldable pub read_certificate : CertificateParts → Option PathCertificate
read_certificate p = cond (fits_version p) (read_parts p) None

-- its issuer and its subject are one (6.1)
abbrev pub is_self_issued : Identity → Bool
is_self_issued c = names_match c.issuer c.subject
