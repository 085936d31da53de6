-- What is signed for a key that takes the place of another one.
use Rattle.std.specs.Prelude.{ℕ, List}
use Rattle.der_tree.specs.Form.{IsDerOf}
use Rattle.pkix_cert.specs.Algorithms.{subject_public_key_info}
use Rattle.pkix_cert.specs.declared.algorithm.SubjectPublicKeyInfo.{SubjectPublicKeyInfo}
use Rattle.pkix_cert.specs.declared.certificate.TbsCertificate.{TbsCertificate}
use Rattle.rcgen_certificate.specs.Issue.{IsToBeSigned}
use Rattle.rcgen_certificate.specs.Issuers.{IssuerView}
use Rattle.rcgen_certificate.specs.ParamsView.{ParamsView}
use Rattle.rcgen_tbs.specs.Subjects.{identified, stand_in}

-- t is what is signed for the key that takes the place of the one with this info
pub record IsOfStandIn (params : ParamsView) (info : SubjectPublicKeyInfo) (issuer : IssuerView) (t : TbsCertificate) : Type 0 where
  pub info_octets : List ℕ
  pub info_form : IsDerOf subject_public_key_info info info_octets
  pub base_is : IsToBeSigned (identified params info_octets) (stand_in info) issuer t
