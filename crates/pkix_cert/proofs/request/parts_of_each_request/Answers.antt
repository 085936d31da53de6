use Rattle.pkix_cert.specs.Requests.{certification_request_fields, certification_request_info}
use Rattle.pkix_cert.proofs.Parts.{signed_parts}
use Rattle.pkix_cert.proofs.request.parts_of_each_request.Goals as goal

pub returns : goal.returns
unfolding certification_request_fields
returns c v octets h = signed_parts certification_request_info v.info v.signature_algorithm v.signature octets h.0 h.1 h.2 h.3 h.4
