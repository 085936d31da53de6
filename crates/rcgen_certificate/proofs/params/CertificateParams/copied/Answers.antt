use Rattle.rcgen_certificate.proofs.Equality.{says_same}
use Rattle.rcgen_certificate.proofs.params.CertificateParams.copied.Goals as goal

pub returns : goal.returns
returns c = says_same c.args.self.now c.in_ok-clone.field-0 c.in_ok-clone.ensures.cases
