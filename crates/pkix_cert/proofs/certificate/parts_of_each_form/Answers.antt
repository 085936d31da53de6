use Rattle.pkix_cert.specs.Certificates.{certificate_fields, tbs_certificate}
use Rattle.pkix_cert.proofs.Parts.{signed_parts}
use Rattle.pkix_cert.proofs.certificate.parts_of_each_form.Goals as goal

pub returns : goal.returns
unfolding certificate_fields
returns c v octets h = signed_parts tbs_certificate v.tbs_certificate v.signature_algorithm v.signature_value octets h.0 h.1 h.2 h.3 h.4
