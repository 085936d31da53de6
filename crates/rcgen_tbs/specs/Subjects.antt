-- A subject whose key may be of any algorithm: what is to be signed for it, and what is issued over that.
use Rattle.std.specs.Prelude.{◌≡◌, ℕ, List}
use Rattle.der_tree.specs.Form.{IsDerOf}
use Rattle.der_tree.specs.HasTree.{HasTree}
use Rattle.pkix_cert.specs.Algorithms.{subject_public_key_info}
use Rattle.pkix_cert.specs.Certificates.{certificate as certificate_codec, tbs_certificate}
use Rattle.pkix_cert.specs.declared.algorithm.SubjectPublicKeyInfo.{SubjectPublicKeyInfo}
use Rattle.pkix_cert.specs.declared.certificate.Certificate.{Certificate}
use Rattle.pkix_cert.specs.declared.certificate.TbsCertificate.{TbsCertificate}
use Rattle.rcgen_sign.specs.KeyIds.{key_id, pre_specified}
use Rattle.rcgen_sign.specs.Keys.{Key, key_of_parts}
use Rattle.rcgen_sign.specs.declared.sign_algo.TheConstants.{PKCS_ED25519}
use Rattle.rcgen_certificate.specs.Issue.{IsToBeSigned}
use Rattle.rcgen_certificate.specs.Issuers.{IssuerView}
use Rattle.rcgen_certificate.specs.KeyValues.{signature_identifier}
use Rattle.rcgen_certificate.specs.ParamsView.{ParamsView}
use Rattle.rcgen_tbs.specs.declared.subject.Subject.{Subject}
use Rattle.rcgen_tbs.specs.declared.subject.Subject.TheVariants.{Known, Other}

-- the info of its key has a tree, as one that was read from its DER has
abbrev pub HasInfoTree : Subject → Type 0
HasInfoTree (Known key) = Unit {0}
HasInfoTree (Other info) = HasTree subject_public_key_info info

-- ---- what is to be signed

-- The key that takes the place of one with this info until the info replaces it. Its bytes are those of the info's
-- bits, of which a serial number is made where none is given.
abbrev pub stand_in : SubjectPublicKeyInfo → Key
stand_in info = key_of_parts PKCS_ED25519 info.subject_public_key.bytes

-- the parameters, with the identifier of the subject's key given: the one that their method makes of the DER of its info
abbrev pub identified : ParamsView → List ℕ → ParamsView
identified params der = record params { key_identifier_method = pre_specified (key_id params.key_identifier_method der) }

-- what is signed, with this info in place of its own
abbrev pub with_info : SubjectPublicKeyInfo → TbsCertificate → TbsCertificate
with_info info t = record t { subject_public_key_info = info }

-- what is signed for a subject whose key has this info: what is signed for the key that takes its place, with the info,
-- and identified by that
pub record IsToBeSignedWith (params : ParamsView) (info : SubjectPublicKeyInfo) (issuer : IssuerView) (t : TbsCertificate) : Type 0 where
  -- the DER of the info
  pub info_octets : List ℕ
  pub info_form : IsDerOf subject_public_key_info info info_octets
  -- what is signed for the key that takes its place
  pub base : TbsCertificate
  pub base_is : IsToBeSigned (identified params info_octets) (stand_in info) issuer base
  pub replaced : t ≡ with_info info base

-- what is signed for the parameters and the subject, in view of the issuer
abbrev pub IsToBeSignedFor : ParamsView → Subject → IssuerView → TbsCertificate → Type 0
IsToBeSignedFor params (Known key) issuer t = IsToBeSigned params key issuer t
IsToBeSignedFor params (Other info) issuer t = IsToBeSignedWith params info issuer t

-- the message is the DER of what is signed for them (RFC 5280, 4.1.1.3); of a known key it is `IsCertificateMessage`
abbrev pub IsCertificateMessageFor : ParamsView → Subject → IssuerView → List ℕ → Type 0
IsCertificateMessageFor params subject issuer message =
    (t : TbsCertificate) × IsToBeSignedFor params subject issuer t × IsDerOf tbs_certificate t message

-- ---- what is issued over it

-- der is the form of a certificate in which this is signed, by the issuer's algorithm, and the message is the DER of that, which its signature fits
pub record IsCertificateOverFor (params : ParamsView) (subject : Subject) (issuer : IssuerView) (fits : List ℕ → List ℕ → Type 0)
    (message der : List ℕ) : Type 0 where
  pub certificate : Certificate
  pub form : IsDerOf certificate_codec certificate der
  pub to_be_signed : IsToBeSignedFor params subject issuer certificate.tbs_certificate
  pub signature_algorithm : certificate.signature_algorithm ≡ signature_identifier issuer.algorithm
  pub no_unused_bits : certificate.signature_value.unused ≡ 0
  pub message_form : IsDerOf tbs_certificate certificate.tbs_certificate message
  pub signed : fits message certificate.signature_value.bytes
