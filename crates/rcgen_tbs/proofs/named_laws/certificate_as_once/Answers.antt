use Rattle.rcgen_tbs.proofs.UnderNames.{one_over_as}
use Rattle.rcgen_tbs.proofs.named_laws.certificate_as_once.Goals as goal

pub returns : goal.returns
returns g c = λ key one params subject name issuer. one_over_as c.to_be_signed_once.ensures params subject name issuer (g.S.SigningKey.fits key) one
