use Rattle.authority.specs.Book.{fixed}
use Rattle.authority.proofs.Runs.{one_step}
use Rattle.authority.proofs.laws.step_is_run.Goals as goal

pub returns : goal.returns
returns g c = λ key issuer limits old new command reply step.
    one_step (fixed issuer (g.S.SigningKey.fits key) (g.S.SigningKey.may_refuse key) limits) old new command reply step
