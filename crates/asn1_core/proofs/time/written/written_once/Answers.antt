use Rattle.asn1_core.proofs.Written.{once}
use Rattle.asn1_core.proofs.time.written.written_once.Goals as goal

pub returns : goal.returns
returns c = once
