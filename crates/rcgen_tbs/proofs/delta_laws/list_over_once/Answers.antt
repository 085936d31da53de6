use Rattle.rcgen_tbs.proofs.Deltas.{one_over}
use Rattle.rcgen_tbs.proofs.delta_laws.list_over_once.Goals as goal

pub returns : goal.returns
returns g c = λ key one base params issuer.
    one_over c.list_to_be_signed_once.ensures (g.S.SigningKey.fits key) (c.list_issued_once.ensures key one) one base params issuer
