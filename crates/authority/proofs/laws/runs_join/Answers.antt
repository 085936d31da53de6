use Rattle.authority.specs.Book.{fixed}
use Rattle.authority.proofs.Runs.{joined}
use Rattle.authority.proofs.laws.runs_join.Goals as goal

pub returns : goal.returns
returns g c = λ key issuer limits old mid new first second told then before after.
    joined (fixed issuer (g.S.SigningKey.fits key) (g.S.SigningKey.may_refuse key) limits) old mid new first second told then before after
