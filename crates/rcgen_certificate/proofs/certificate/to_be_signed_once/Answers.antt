use Rattle.rcgen_certificate.proofs.Once.{one_to_be_signed}
use Rattle.rcgen_certificate.proofs.certificate.to_be_signed_once.Goals as goal

pub returns : goal.returns
returns c = one_to_be_signed c.written_once.ensures
