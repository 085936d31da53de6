-- What is known of the revocation of a path's certificates (RFC 5280, 6.1.3 (a) (3) and 6.3).
use Rattle.std.specs.Prelude.{ℕ, ◌+◌, List, [], ◌∷◌, ◌++◌, length, Option, Some, None}
use Rattle.der_tree.specs.Form.{value_of}
use Rattle.path_revocation.specs.declared.status.RevocationStatus.{RevocationStatus}
use Rattle.path_revocation.specs.declared.status.RevocationStatus.TheVariants.{Good, Revoked, Undetermined}
use Rattle.path_validation.specs.declared.error.PathReason.{PathReason}
use Rattle.path_validation.specs.declared.error.PathReason.TheVariants as reason
use Rattle.path_validation.specs.declared.inputs.PathInputs.{PathInputs}
use Rattle.pkix_cert.specs.Certificates.{certificate}
use Rattle.pkix_cert.specs.Views.{CertificateParts}
use Rattle.pkix_cert.specs.declared.certificate.Certificate.{Certificate}
use Rattle.pkix_cert.specs.declared.revocation.CertificateList.{CertificateList}
use Rattle.shelf_path.specs.ListIssuers.{issuer_inputs, known_below, known_first, lists_of, status_by, with_issuers}
use Rattle.shelf_path.specs.declared.list_issuer.KnownIssuers.{KnownIssuers}
use Rattle.shelf_path.specs.declared.revocation.BadStatus.{BadStatus}
use Rattle.shelf_path.specs.declared.revocation.Advance.{Advance}
use Rattle.shelf_path.specs.declared.revocation.Advance.TheVariants.{Goes, Stops}

-- ---- what is asked of each certificate

-- by the lists of the issuers that are known
abbrev pub status_in : PathInputs → List CertificateList → KnownIssuers → CertificateParts → Certificate → RevocationStatus
status_in x ls known p c = status_by x.at known.left (lists_of ls known.issuers p c) c

abbrev pub bad_reason : RevocationStatus → Option PathReason
bad_reason Good = None
bad_reason (Revoked at why) = Some reason.Revoked
bad_reason Undetermined = Some reason.Undetermined

-- ---- certificate by certificate

-- one that is good is passed
abbrev pub passed_if : Option PathReason → KnownIssuers → Advance
passed_if None next = Goes next
passed_if (Some why) next = Stops why

-- by the issuers that are known; each certificate's parts are those of one
abbrev pub passed_by : PathInputs → List CertificateList → KnownIssuers → CertificateParts → Option Certificate → Advance
passed_by x ls known p None = Stops reason.Undetermined
passed_by x ls known p (Some c) =
    passed_if (bad_reason (status_in x ls known p c)) (known_below known (length (lists_of ls known.issuers p c)) p c)

-- below the certificates above, once the other issuers are known whose certificate the last one above issued
unfoldable pub passed : PathInputs → List CertificateList → List CertificateParts → List CertificateParts → KnownIssuers → CertificateParts → Advance
passed x ls ks above known p = passed_by x ls (with_issuers x ls ks above known) p (value_of certificate p.whole)

abbrev pub bad_or : ℕ → Advance → (KnownIssuers → Option BadStatus) → Option BadStatus
bad_or place (Stops why) below = Some (record { place = place; reason = why })
bad_or place (Goes next) below = below next

-- the first that isn't good, of those below the ones above, from this place on
abbrev pub first_bad_from : PathInputs → List CertificateList → List CertificateParts → ℕ → List CertificateParts → KnownIssuers → List CertificateParts → Option BadStatus
first_bad_from x ls ks place above known [] = None
first_bad_from x ls ks place above known (p ∷ ps) =
    bad_or place (passed x ls ks above known p) (λ next. first_bad_from x ls ks (place + 1) (above ++ p ∷ []) next ps)

-- place 1 is the certificate that the anchor issued
unfoldable pub first_bad : PathInputs → List CertificateList → List CertificateParts → List CertificateParts → Option BadStatus
first_bad x ls ks path = first_bad_from (issuer_inputs x) ls ks 1 [] (known_first ls x.anchor) path
