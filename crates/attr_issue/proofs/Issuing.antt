-- From what calls answered to what was issued.
use Rattle.std.specs.Prelude.{◌≡◌, ℕ, List}
use Rattle.std.proofs.Common.{ap}
use Rattle.asn1_core.specs.Bits.{Bits, bits}
use Rattle.der_tree.specs.Form.{IsDerOf}
use Rattle.pkix_attr.specs.Certificates.{attribute_certificate, attribute_certificate_fields, attribute_certificate_info}
use Rattle.pkix_attr.specs.declared.certificate.AttributeCertificate.{AttributeCertificate}
use Rattle.rcgen_certificate.specs.Issuers.{IssuerView}
use Rattle.rcgen_certificate.specs.KeyValues.{signature_identifier}
use Rattle.rcgen_certificate.specs.Signed.{signed, signed_fields, signed_value, IsSignedBy}
use Rattle.attr_issue.specs.AttributeCertificateView.{AttributeCertificateView}
use Rattle.attr_issue.specs.AttributeCertificates.{IsAttributeInfo, IssuesAttributeAs}

-- an attribute certificate is what is signed, the algorithm and the signature
certificate_form : (c : AttributeCertificate) (der : List ℕ)
    → IsDerOf (signed attribute_certificate_info) (signed_value c.info c.signature_algorithm c.signature_value) der → IsDerOf attribute_certificate c der
unfolding signed_fields attribute_certificate_fields
certificate_form c der w = w

pub issues_as : (p : AttributeCertificateView) (i : IssuerView) (fits : List ℕ → List ℕ → Type 0) (c : AttributeCertificate) (der : List ℕ)
    → IsAttributeInfo p i c.info → c.signature_algorithm ≡ signature_identifier i.algorithm → c.signature_value ≡ bits 0 c.signature_value.bytes
    → IsSignedBy attribute_certificate_info c.info i.algorithm c.signature_value.bytes fits der → IssuesAttributeAs p i fits c der
issues_as p i fits c der h a g w = record {
  message = w.message;
  form = certificate_form c der (rw (a, g) w.form);
  message_form = w.message_form;
  issued = record { info = h; signature_algorithm = a; no_unused_bits = ap (λ (b : Bits). b.unused) g };
  signed = w.fit;
}
