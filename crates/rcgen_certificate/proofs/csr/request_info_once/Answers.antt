use Rattle.rcgen_certificate.proofs.RequestOnce.{one_info}
use Rattle.rcgen_certificate.proofs.csr.request_info_once.Goals as goal

pub returns : goal.returns
returns c = one_info
