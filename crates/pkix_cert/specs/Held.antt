-- What the parts of a certificate's form are: the forms of its fields (RFC 5280, 4.1).
use Rattle.std.specs.Prelude.{List, None, Option, Some, [], ◌∷◌, ◌≡◌}
use Rattle.der_tree.specs.Form.{IsDerOf}
use Rattle.der_tree.specs.PrimitiveTypes.{bit_string, integer, object_identifier}
use Rattle.pkix_name.specs.Names.{name}
use Rattle.pkix_cert.specs.Algorithms.{algorithm_identifier, subject_public_key_info}
use Rattle.pkix_cert.specs.Certificates.{certificate, tbs_certificate}
use Rattle.pkix_cert.specs.Extensions.{extension}
use Rattle.pkix_cert.specs.Times.{validity as validity_form}
use Rattle.pkix_cert.specs.Views.{CertificateParts, ExtensionParts}
use Rattle.pkix_cert.specs.declared.certificate.Certificate.{Certificate}
use Rattle.pkix_cert.specs.declared.extension.Extension.{Extension}
use Rattle.pkix_cert.specs.declared.extension.Extensions.{Extensions}

pub record IsOfExtension (e : Extension) (p : ExtensionParts) : Type 0 where
  pub whole : IsDerOf extension e p.whole
  pub id : IsDerOf object_identifier e.extn_id p.id
  pub critical : p.critical ≡ e.critical
  pub contents : p.contents ≡ e.extn_value

-- each in its place
abbrev pub AreOfExtensions : List Extension → List ExtensionParts → Type 0
AreOfExtensions [] [] = Unit {0}
AreOfExtensions [] (p ∷ ps) = ⊥
AreOfExtensions (e ∷ es) [] = ⊥
AreOfExtensions (e ∷ es) (p ∷ ps) = IsOfExtension e p × AreOfExtensions es ps

abbrev pub extensions_in : Option Extensions → List Extension
extensions_in None = []
extensions_in (Some es) = es.0

pub record IsOfCertificate (c : Certificate) (p : CertificateParts) : Type 0 where
  pub whole : IsDerOf certificate c p.whole
  pub tbs : IsDerOf tbs_certificate c.tbs_certificate p.tbs
  pub serial_number : IsDerOf integer c.tbs_certificate.serial_number p.serial_number
  pub tbs_signature : IsDerOf algorithm_identifier c.tbs_certificate.signature p.tbs_signature
  pub issuer : IsDerOf name c.tbs_certificate.issuer p.issuer
  pub validity : IsDerOf validity_form c.tbs_certificate.validity p.validity
  pub subject : IsDerOf name c.tbs_certificate.subject p.subject
  pub key_info : IsDerOf subject_public_key_info c.tbs_certificate.subject_public_key_info p.key_info
  pub signature_algorithm : IsDerOf algorithm_identifier c.signature_algorithm p.signature_algorithm
  pub signature : IsDerOf bit_string c.signature_value p.signature
  pub extensions : AreOfExtensions (extensions_in c.tbs_certificate.extensions) p.extensions
