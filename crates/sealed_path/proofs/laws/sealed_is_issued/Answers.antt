use Rattle.sealed_path.proofs.Sealing.{sealed_is}
use Rattle.sealed_path.proofs.laws.sealed_is_issued.Goals as goal

pub returns : goal.returns
returns c = sealed_is c.spki_octets.ensures.form c.parts_of_each_view.ensures
