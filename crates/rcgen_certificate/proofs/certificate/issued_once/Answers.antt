use Rattle.rcgen_certificate.proofs.Once.{one_issued}
use Rattle.rcgen_certificate.proofs.certificate.issued_once.Goals as goal

pub returns : goal.returns
returns g c = λ key one params subject issuer. one_issued c.written_once.ensures params subject issuer (g.S.SigningKey.fits key) one
