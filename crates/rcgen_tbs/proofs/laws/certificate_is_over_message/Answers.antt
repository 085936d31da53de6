use Rattle.rcgen_tbs.proofs.Once.{certificate_over}
use Rattle.rcgen_tbs.proofs.laws.certificate_is_over_message.Goals as goal

pub returns : goal.returns
returns g c = λ key params subject issuer. certificate_over c.to_be_signed_once.ensures params subject issuer (g.S.SigningKey.fits key)
