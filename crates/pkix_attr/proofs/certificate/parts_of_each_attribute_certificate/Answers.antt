use Rattle.pkix_cert.proofs.Parts.{signed_parts}
use Rattle.pkix_attr.specs.Certificates.{attribute_certificate_fields, attribute_certificate_info}
use Rattle.pkix_attr.proofs.certificate.parts_of_each_attribute_certificate.Goals as goal

pub returns : goal.returns
unfolding attribute_certificate_fields
returns c v octets h = signed_parts attribute_certificate_info v.info v.signature_algorithm v.signature_value octets h.0 h.1 h.2 h.3 h.4
