use Rattle.rcgen_tbs.proofs.SubjectsOnce.{known_over, over_known}
use Rattle.rcgen_tbs.proofs.laws.known_subject.Goals as goal

pub returns-clause-from : goal.returns-clause-from
returns-clause-from g c = λ key params subject issuer. known_over params subject issuer (g.S.SigningKey.fits key)

pub returns-clause-back : goal.returns-clause-back
returns-clause-back g c = λ key params subject issuer. over_known params subject issuer (g.S.SigningKey.fits key)
