use Rattle.rcgen_tbs.proofs.Once.{request_over}
use Rattle.rcgen_tbs.proofs.laws.request_is_over_message.Goals as goal

pub returns : goal.returns
returns g c = λ key params subject attrs. request_over c.request_info_once.ensures params subject attrs (g.S.SigningKey.fits key)
