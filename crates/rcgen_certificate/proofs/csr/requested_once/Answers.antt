use Rattle.rcgen_certificate.proofs.RequestOnce.{one_requested}
use Rattle.rcgen_certificate.proofs.csr.requested_once.Goals as goal

pub returns : goal.returns
returns g c = λ key one params subject attrs. one_requested params subject attrs (g.S.SigningKey.fits key) one
