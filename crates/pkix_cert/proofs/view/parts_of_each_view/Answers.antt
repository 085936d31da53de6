use Rattle.pkix_cert.proofs.Slices.{parts_are_of}
use Rattle.pkix_cert.proofs.view.parts_of_each_view.Goals as goal

pub returns : goal.returns
returns c = λ input p e. parts_are_of input p e
