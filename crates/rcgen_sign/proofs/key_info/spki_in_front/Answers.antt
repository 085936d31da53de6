use Rattle.rcgen_sign.proofs.Infos.{fronts}
use Rattle.rcgen_sign.proofs.key_info.spki_in_front.Goals as goal

pub returns : goal.returns
returns c = fronts
