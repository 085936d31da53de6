use Rattle.attr_issue.proofs.AttributesOnce.{one_issued}
use Rattle.attr_issue.proofs.once.attribute_issued_once.Goals as goal

pub returns : goal.returns
returns g c = λ key one params issuer. one_issued c.written_once.ensures params issuer (g.S.SigningKey.fits key) one
