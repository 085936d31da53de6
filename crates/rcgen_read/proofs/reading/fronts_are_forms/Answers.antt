use Rattle.rcgen_read.proofs.Fronts.{exactly}
use Rattle.rcgen_read.proofs.reading.fronts_are_forms.Goals as goal

pub returns : goal.returns
returns g c = λ bytes v. exactly g.T.Form.codec bytes v
