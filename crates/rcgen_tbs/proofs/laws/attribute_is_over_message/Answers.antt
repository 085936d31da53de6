use Rattle.rcgen_tbs.proofs.Once.{attribute_over}
use Rattle.rcgen_tbs.proofs.laws.attribute_is_over_message.Goals as goal

pub returns : goal.returns
returns g c = λ key params issuer. attribute_over c.attribute_info_once.ensures params issuer (g.S.SigningKey.fits key)
