use Rattle.authority.specs.Book.{fixed}
use Rattle.authority.proofs.Runs.{parted}
use Rattle.authority.proofs.laws.runs_part.Goals as goal

pub returns : goal.returns
returns g c = λ key issuer limits old new first second replies run.
    parted (fixed issuer (g.S.SigningKey.fits key) (g.S.SigningKey.may_refuse key) limits) old new first second replies run
