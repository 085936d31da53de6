use Rattle.rcgen_issue.proofs.ListsOnce.{one_issued_list}
use Rattle.rcgen_issue.proofs.once.list_issued_once.Goals as goal

pub returns : goal.returns
returns g c = λ key one params issuer. one_issued_list c.written_once.ensures params issuer (g.S.SigningKey.fits key) one
