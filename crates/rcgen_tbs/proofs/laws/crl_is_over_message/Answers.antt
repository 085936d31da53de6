use Rattle.rcgen_tbs.proofs.Once.{crl_over}
use Rattle.rcgen_tbs.proofs.laws.crl_is_over_message.Goals as goal

pub returns : goal.returns
returns g c = λ key params issuer. crl_over c.list_to_be_signed_once.ensures params issuer (g.S.SigningKey.fits key)
