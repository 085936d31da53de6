-- A certificate under an issuer's certificate, with a signature that was taken: what the laws of issued_path ask for.
use Rattle.std.specs.Prelude.{List, Ok, Option, Some, true, ℕ, ◌≡◌}
use Rattle.der_tree.specs.Form.{IsDerOf}
use Rattle.pkix_cert.specs.Certificates.{certificate as certificate_codec}
use Rattle.pkix_cert.specs.declared.certificate.Certificate.{Certificate}
use Rattle.pkix_name.specs.declared.name.Name.{Name}
use Rattle.rcgen_sign.specs.KeyIds.{Method}
use Rattle.rcgen_sign.specs.Keys.{Key}
use Rattle.rcgen_text.specs.declared.key_usage.KeyUsagePurpose.{KeyUsagePurpose}
use Rattle.rcgen_certificate.specs.Issuers.{IssuerView, issuer_view}
use Rattle.rcgen_certificate.specs.ParamsView.{ParamsView}
use Rattle.rcgen_tbs.specs.Named.{IsCertificateOverAs}
use Rattle.rcgen_tbs.specs.declared.subject.Subject.{Subject}
use Rattle.shelf_fault.specs.declared.fault.Place.{Place}
use Rattle.shelf_keys.specs.Keys.{key_of_info}
use Rattle.shelf_keys.specs.Signatures.{checked, is_verified, verifier}
use Rattle.shelf_profile.specs.declared.signing.Signing.{Signing}
use Rattle.signature_verifier.specs.Accepted.{accepts}
use Rattle.issued_path.specs.Ends.{IsCertified, IsIssuedUnder}

-- the subject of a certificate with a key, as an issuer
abbrev pub issuer_of : Certificate → Method → List KeyUsagePurpose → Key → IssuerView
issuer_of c method usages key = issuer_view (Some c.tbs_certificate.subject) method usages key

-- der is what is issued over the message with this signature, which is taken, by the key of the issuer's certificate, whose signatures are verified
pub record IsSealedUnder (c : Certificate) (octets : List ℕ) (place : Place) (signing : Signing) (key : Key) (method : Method) (usages : List KeyUsagePurpose)
    (params : ParamsView) (subject : Subject) (name : Option Name) (message signature der : List ℕ) : Type 0 where
  pub certificate : IsDerOf certificate_codec c octets
  pub key_is : key_of_info place signing c.tbs_certificate.subject_public_key_info ≡ Ok key
  pub verified : is_verified key.algorithm ≡ true
  pub taken : checked key message signature ≡ Ok tt
  pub sealed : IsCertificateOverAs params subject name (issuer_of c method usages key) (λ m s. s ≡ signature) message der

-- it was issued under the issuer, of whom the octets are the certificate
abbrev pub SealedIsIssued : Type 0
SealedIsIssued =
    (c : Certificate) (octets : List ℕ) (place : Place) (signing : Signing) (key : Key) (method : Method) (usages : List KeyUsagePurpose)
    (params : ParamsView) (subject : Subject) (name : Option Name) (message signature der : List ℕ)
    → IsSealedUnder c octets place signing key method usages params subject name message signature der
    → IsIssuedUnder params subject name (issuer_of c method usages key) (accepts verifier) message der × IsCertified (issuer_of c method usages key) c octets
