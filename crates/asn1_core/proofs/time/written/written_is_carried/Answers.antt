use Rattle.asn1_core.proofs.Written.{carried}
use Rattle.asn1_core.proofs.time.written.written_is_carried.Goals as goal

pub returns : goal.returns
returns c = carried
