use Rattle.pkix_cert.specs.Revocations.{certificate_list_fields, tbs_cert_list}
use Rattle.pkix_cert.proofs.Parts.{signed_parts}
use Rattle.pkix_cert.proofs.revocation.parts_of_each_list.Goals as goal

pub returns : goal.returns
unfolding certificate_list_fields
returns c v octets h = signed_parts tbs_cert_list v.tbs_cert_list v.signature_algorithm v.signature octets h.0 h.1 h.2 h.3 h.4
