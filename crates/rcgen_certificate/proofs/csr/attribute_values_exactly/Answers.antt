use Rattle.rcgen_certificate.proofs.Requests.{values_are}
use Rattle.rcgen_certificate.proofs.csr.attribute_values_exactly.Goals as goal

pub returns : goal.returns
returns c = values_are
