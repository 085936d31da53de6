use Rattle.authority.proofs.Runs.{all_of_issuer}
use Rattle.authority.proofs.laws.issuer_is_one.Goals as goal

pub returns : goal.returns
returns g c = λ key issuer limits old new commands replies run. all_of_issuer _ old new commands replies run
