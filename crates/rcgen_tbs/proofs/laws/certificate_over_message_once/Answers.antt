use Rattle.rcgen_tbs.proofs.SubjectsOnce.{one_over_for}
use Rattle.rcgen_tbs.proofs.laws.certificate_over_message_once.Goals as goal

pub returns : goal.returns
returns g c = λ key one params subject issuer. one_over_for c.to_be_signed_once.ensures params subject issuer (g.S.SigningKey.fits key) one
